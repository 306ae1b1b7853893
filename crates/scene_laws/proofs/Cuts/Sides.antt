-- The sides of a `par` that is cut: what each ends with, and what each holds of tables.
use Rattle.std.specs.Prelude.{ℕ, ℤ, cond, bytes_eq, List, [], ◌∷◌, map, length, drop}
use Rattle.std.specs.List.{AllByRecursion}
use Rattle.slices.specs.Holding.{Holding}
use Rattle.tp_value.specs.declared.Table.{Table}
use Rattle.tp_value.specs.declared.Stop.TheVariants.{Done}
use Rattle.loop_syntax.specs.declared.Carry.{Carry}
use Rattle.loop_syntax.specs.declared.Carry.TheVariants as carry
use Rattle.loop_syntax.specs.declared.ParLoop.{ParLoop}
use Rattle.loop_syntax.specs.declared.Reduce.{Reduce}
use Rattle.loop_syntax.specs.declared.RowAt.{RowAt}
use Rattle.loop_syntax.specs.declared.RowAt.TheVariants as row
use Rattle.loop_meaning.specs.declared.value.Variable.{Variable}
use Rattle.loop_meaning.specs.State.{lookup, table_of}
use Rattle.tpal_machine.specs.declared.cut.TableCut.{TableCut}
use Rattle.tpal_machine.specs.declared.cut.TableCut.TheVariants.{ByRows, ByCells, Whole}
use Rattle.tpal_machine.specs.declared.ends.Side.{Side}
use Rattle.tpal_machine.specs.declared.ends.SideName.{SideName}
use Rattle.expr_lower.specs.declared.scope.Scope.{Scope}
use Rattle.expr_lower.specs.Scopes.{table_number}
use Rattle.frame_machine.specs.Iterating.{LowerSeen, UpperSeen}
use Rattle.frame_machine.specs.Modes.{Modes}
use Rattle.join_gen.specs.LoopJoins.{handed}
use Rattle.scene_laws.specs.Sites.{carried_table}
use Rattle.scene_laws.proofs.Cuts.Parts.{IsKnown, child_extent, left_extent, part_of_table}
use Rattle.scene_laws.proofs.Scenes.Regions.{HasCell, Region}
use Rattle.scene_laws.proofs.Scenes.Results.{End, Fin, Out}

-- A side of a cut: which, under which record; what was printed before it began, how many ticks
-- there were at least, and how much it holds of each table.
pub record Part : Type 0 where
  pub which : SideName
  pub rec : ℕ
  pub before : List ℕ
  pub since : ℕ
  pub region : Region

-- ---- what a side ends with

-- the values of the reduced variables
abbrev pub numbers_in : List Reduce → List Variable → List ℤ
numbers_in reduces vs = map (λ (r : Reduce). lookup vs r.target.text.items) reduces

-- the table of a carry
abbrev pub carried : Carry → List ℕ
carried c = carried_table c

-- the parts that a region has of the tables that are carried, by their numbers
abbrev pub parts_in : Scope → Region → List Table → List Carry → List (ℕ × Holding)
parts_in scope region ts carries =
    map (λ (c : Carry). (
      table_number scope (carried c),
      part_of_table (region (carried c)) (table_of ts (carried c)),
    )) carries

-- What a side of this `par` ends with: its own output, and where it is done its accumulators, its
-- record and its parts of tables.
abbrev pub side_by : Scope → ParLoop → Part → End → Side
side_by scope l part (Fin s) = record {
  stop = Done;
  ticks = s.ticks;
  output = drop (length part.before) s.output;
  words = handed (numbers_in l.reduces.items s.vars) part.rec;
  slices = parts_in scope part.region s.tables l.carries.items;
}
side_by scope l part (Out stop ticks output) = record {
  stop = stop;
  ticks = ticks;
  output = drop (length part.before) output;
  words = [];
  slices = [];
}

-- ---- what it holds

-- the row of a carry, where the variables have these values
abbrev pub row_number : List Variable → RowAt → ℤ
row_number vs (row.Var x) = lookup vs x.text.items
row_number vs (row.Int n) = n

-- where each table is cut, by its name, in a loop that is cut at a number
abbrev pub cut_by : List Variable → ℤ → List Carry → List ℕ → TableCut
cut_by vs middle [] t = Whole
cut_by vs middle (carry.Rows u i ∷ cs) t =
    cond (bytes_eq u.text.items t) (ByRows middle) (cut_by vs middle cs t)
cut_by vs middle (carry.Cells u k j ∷ cs) t =
    cond (bytes_eq u.text.items t) (ByCells (row_number vs k) middle) (cut_by vs middle cs t)

-- how much of each table the left and the child of a cut hold
abbrev pub left_region : List Variable → ℤ → List Carry → Region → Region
left_region vs middle carries region = λ t. left_extent (cut_by vs middle carries t) (region t)

abbrev pub child_region : List Variable → ℤ → List Carry → Region → Region
child_region vs middle carries region = λ t. child_extent (cut_by vs middle carries t) (region t)

-- A region has each cell that the iterations from one number to below another may read, where the
-- variables round the loop have these values; and how much it has of the tables that are carried is
-- known.
pub record Suffices (outer : Modes) (l : ParLoop) (vs : List Variable) (from to : ℤ)
    (region : Region) : Type 0 where
  pub cells : (t : List ℕ) (i j : ℤ) → UpperSeen outer l vs from t i j
      → LowerSeen outer l vs to t i j → HasCell (region t) i j
  pub known : AllByRecursion (λ (c : Carry). IsKnown (region (carried c))) l.carries.items
