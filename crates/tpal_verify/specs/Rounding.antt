-- Rounds in which only some blocks are walked: those whose shapes changed in the round before.
use Rattle.std.specs.Prelude.{◌≡◌, ◌⊎◌, ℕ, Bool, true, false, List, [], ◌∷◌, ◌++◌, length, Option}
use Rattle.std.specs.Prelude.{None}
use Rattle.std.specs.Prelude.{slice_index_or, slice_set}
use Rattle.tpal_verify.specs.declared.kinds.Kind.{Kind}
use Rattle.tpal_verify.specs.declared.trace.Trace.{Trace}
use Rattle.tpal_verify.specs.Flat.{Ground}
use Rattle.tpal_verify.specs.Walk.{Flow}
use Rattle.tpal_verify.specs.Rounds.{Shapes, trace_of, forks_of, with_join, all_joins, all_forks}
use Rattle.tpal_verify.specs.Rounds.{comb_flows, holds_all, settled, least}
use Rattle.tpal_verify.specs.Board.{is_in}
use Rattle.tpal_verify.specs.Walking.{walk_at, flows_in}
use Rattle.tpal_verify.specs.Agreement.{StandsFor}

abbrev pub Traces : Type 0
Traces = List (Option Trace)

abbrev pub trace_at : Traces → ℕ → Option Trace
trace_at traces l = slice_index_or traces l None

-- what flows from some blocks, and what their walks find in the place of what was found before
abbrev pub flows_due : Ground → Shapes → List ℕ → List Flow
flows_due whole shapes [] = []
flows_due whole shapes (l ∷ due) = flows_in (walk_at whole shapes l) ++ flows_due whole shapes due

abbrev pub retraced : Ground → Shapes → List ℕ → Traces → Traces
retraced whole shapes [] traces = traces
retraced whole shapes (l ∷ due) traces =
    retraced whole shapes due (slice_set traces l (trace_of (walk_at whole shapes l)))

abbrev pub forks_due : Traces → List ℕ → List Flow
forks_due traces [] = []
forks_due traces (l ∷ due) = forks_of (trace_at traces l) ++ forks_due traces due

-- those of the due blocks where the joins find the same as before, else of all
abbrev pub forks_seen : Bool → Traces → List ℕ → List Flow
forks_seen true traces due = forks_due traces due
forks_seen false traces due = all_forks traces

-- What holds between two rounds: of each block that isn't due, what its walk finds is known, and
-- what flows from it is held; so is what flows into combining blocks; and the rounds to come lead
-- to the least assignment.
pub record IsRound (whole : Ground) (left : ℕ) (shapes : Shapes) (due : List ℕ) (traces : Traces)
    (join : Option (List Kind)) : Type 0 where
  pub each_shape : length shapes ≡ length whole.blocks
  pub each_trace : length traces ≡ length whole.blocks
  pub traced : (l : ℕ) → is_in due l ≡ false → trace_at traces l ≡ trace_of (walk_at whole shapes l)
  pub held : (l : ℕ)
      → is_in due l ≡ false
      → holds_all shapes (flows_in (walk_at whole shapes l)) ≡ true
  pub joins : StandsFor (with_join join []) (all_joins traces)
  pub combs : holds_all shapes (comb_flows whole (with_join join []) (all_forks traces)) ≡ true
  pub leads : settled left whole shapes ≡ least whole

-- what the rounds keep
pub record Round : Type 0 where
  pub shapes : Shapes
  pub staged : Shapes
  pub due : List ℕ
  pub traces : Traces
  pub join : Option (List Kind)

-- nothing is staged between two rounds
pub record Stands (whole : Ground) (left : ℕ) (state : Round) : Type 0 where
  pub staged : state.staged ≡ state.shapes
  pub round : IsRound whole left state.shapes state.due state.traces state.join

-- no round is left, or no block is due
abbrev pub IsOver : ℕ → List ℕ → Type 0
IsOver left due = (left ≡ 0) ⊎ (due ≡ [])
