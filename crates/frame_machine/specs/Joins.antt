-- A loop whose lower part runs first, then the upper part from units, and both are merged.
use Rattle.beat_count.specs.Joining.{joined_stop, joined_ticks}
use Rattle.frame_machine.specs.Parts.{AgreeOn, Cells, Outside}
use Rattle.loop_meaning.specs.Frames.{with_accs}
use Rattle.loop_meaning.specs.State.{Ran, State, lookup}
use Rattle.loop_meaning.specs.declared.value.Variable.{Variable}
use Rattle.loop_rules.specs.Names.{operator_of}
use Rattle.loop_syntax.specs.declared.Reduce.{Reduce}
use Rattle.reduce_ops.specs.Reduction.{combine, unit}
use Rattle.std.specs.Prelude.{List, None, Option, Some, [], map, ℕ, ℤ, ◌++◌, ◌∷◌, ◌≡◌}
use Rattle.tp_value.specs.declared.Op.{Op}
use Rattle.tp_value.specs.declared.Stop.TheVariants.{Done}
use Rattle.tp_value.specs.declared.Table.{Table}

-- the names of variables, in the order of their declarations
abbrev pub names_of : List Variable → List (List ℕ)
names_of vs = map (λ (v : Variable). v.name) vs

-- the accumulators with which an upper part begins
abbrev pub units_for : List Reduce → List (Op × ℤ)
units_for rs = map (λ (r : Reduce). (r.op, unit r.op)) rs

abbrev pub combined_by : Option Op → ℤ → ℤ → ℤ
combined_by None m n = m
combined_by (Some o) m n = combine o m n

-- the variables of both parts as one: a reduced one has both values combined, any other the lower
-- part's
abbrev pub combined : List Reduce → List Variable → List Variable → List Variable
combined rs [] vs = []
combined rs (u ∷ us) [] = []
combined rs (u ∷ us) (v ∷ vs) =
    record { name = u.name; value = combined_by (operator_of rs u.name) u.value v.value }
    ∷ combined rs us vs

-- other variables are those round the loop, with the same values but for those that it reduces
pub record SameRound (rs : List Reduce) (vs us : List Variable) : Type 0 where
  pub names : names_of us ≡ names_of vs
  pub values : (x : List ℕ) → operator_of rs x ≡ None → lookup us x ≡ lookup vs x

-- where a part of the loop begins that has no ticks and no output yet: the variables round the loop
-- with units in those that it reduces, and these tables
abbrev pub upper_start : List Reduce → List Variable → List Table → State
upper_start rs vs ts =
    record { vars = with_accs rs (units_for rs) vs; tables = ts; output = []; ticks = 0 }

-- `whole` is `low` and then `up`, merged, where `up` may see and write these cells
pub record Joins (fuel : ℕ) (rs : List Reduce) (seen written : Cells) (low up whole : Ran) : Type 0
  where
    pub stop : whole.stop ≡ joined_stop low.stop low.state.ticks up.stop up.state.ticks fuel
    pub ticks : whole.state.ticks
        ≡ joined_ticks low.stop low.state.ticks up.stop up.state.ticks fuel
    pub vars : whole.stop ≡ Done → whole.state.vars ≡ combined rs low.state.vars up.state.vars
    pub upper : whole.stop ≡ Done → AgreeOn seen up.state.tables whole.state.tables
    pub lower : whole.stop ≡ Done → AgreeOn (Outside written) low.state.tables whole.state.tables
    pub output : whole.stop ≡ Done → whole.state.output ≡ low.state.output ++ up.state.output
