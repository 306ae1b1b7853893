-- The merge of two sides.
use Rattle.std.specs.Prelude.{◌≡◌, ℕ, ℤ, ◌+◌, ◌≤◌, pos, nat_eq, if◌then◌else◌, List, [], ◌∷◌, ◌++◌}
use Rattle.std.specs.Prelude.{map, None, Some, AllPairs, slice_get, slice_set}
use Rattle.beat_count.specs.Heartbeat.{no_beat}
use Rattle.beat_count.specs.Joining.{joined_stop, joined_ticks}
use Rattle.slices.specs.Holding.{Holding, together, SameSize, CommonCell}
use Rattle.tp_value.specs.declared.values.Stop.{Stop}
use Rattle.tp_value.specs.declared.values.Stop.TheVariants.{Done, Left, Trap, NoFuel}
use Rattle.tpal_syntax.specs.declared.notes.CarryAt.{CarryAt}
use Rattle.tpal_syntax.specs.declared.notes.Target.{Target}
use Rattle.tpal_syntax.specs.declared.words.Word.{Word}
use Rattle.tpal_syntax.specs.declared.words.Word.TheVariants as word
use Rattle.tpal_syntax.specs.Listing.{Listing}
use Rattle.tpal_syntax.specs.Parts.{table_of}
use Rattle.tpal_machine.specs.declared.ends.Ending.{Ending}
use Rattle.tpal_machine.specs.declared.ends.Ending.TheVariants as ending
use Rattle.tpal_machine.specs.declared.ends.Goal.{Goal}
use Rattle.tpal_machine.specs.declared.ends.Goal.TheVariants as goal
use Rattle.tpal_machine.specs.declared.ends.Side.{Side}
use Rattle.tpal_machine.specs.Belongs.{RestBelongsTo, SideBelongsTo}
use Rattle.tpal_machine.specs.Ended.{is_done}
use Rattle.tpal_machine.specs.Reading.{table_at, the_target}
use Rattle.tpal_machine.specs.RestState.{RestState}
use Rattle.tpal_machine.specs.State.{State, no_words}

-- ---- sides of a rest's record

-- what holds of a side that is done
abbrev pub WhereDone : Stop → Type 0 → Type 0
WhereDone Done P = P
WhereDone (Left number) P = Unit {0}
WhereDone (Trap kind place) P = Unit {0}
WhereDone NoFuel P = Unit {0}

-- a side has the words of the renaming's left names, and a part of each carried table, in their
-- order
pub record IsSideOf (target : Target) (side : Side) : Type 0 where
  pub words : WhereDone side.stop (map (λ w. w.0) side.words ≡ map (λ p. p.0) target.renames)
  pub slices : WhereDone side.stop (map (λ s. s.0) side.slices ≡ map table_of target.carries)

-- what a side that is done has of a table
abbrev pub part_in : List (ℕ × Holding) → ℕ → List Holding
part_in [] t = []
part_in (s ∷ ss) t = if nat_eq s.0 t then s.1 ∷ [] else part_in ss t

abbrev pub part_of : Side → ℕ → List Holding
part_of side t = if is_done side.stop then part_in side.slices t else []

-- two parts of one table
pub record AreParts (h other : Holding) : Type 0 where
  pub size : SameSize h other
  pub apart : CommonCell h other → ⊥

-- the rest's part of a table and those of the sides
abbrev pub parts_of : RestState → Side → Side → ℕ → List Holding
parts_of rest left right t = table_at rest.tables t ∷ part_of left t ++ part_of right t

-- two sides are of the record of a rest
pub record AreSides (code : Listing) (rest : RestState) (left right : Side) : Type 0 where
  pub left_ticks : left.ticks ≤ rest.limit + 1
  pub right_ticks : right.ticks ≤ rest.limit + 1
  pub left_side : IsSideOf (the_target code rest.target) left
  pub right_side : IsSideOf (the_target code rest.target) right
  pub parts : (i : ℕ) (c : CarryAt)
      → slice_get (the_target code rest.target).carries i ≡ Some c
      → AllPairs AreParts (parts_of rest left right (table_of c))

-- ---- what they merge to

-- a task that goes on, or an ending
pub data Joined : Type 0 where
  Goes : State → Joined
  Ends : Ending → Joined

-- the registers with these words in those of their numbers
abbrev pub filled : List Word → List (ℕ × Word) → List Word
filled registers [] = registers
filled registers (w ∷ ws) = filled (slice_set registers w.0 w.1) ws

-- words under the right names of a renaming
abbrev pub renamed : List (ℕ × ℕ) → List (ℕ × Word) → List (ℕ × Word)
renamed [] words = []
renamed (p ∷ ps) [] = []
renamed (p ∷ ps) (w ∷ ws) = (p.1, w.1) ∷ renamed ps ws

-- the tables with these parts put to those of their numbers
abbrev pub put_together : List Holding → List (ℕ × Holding) → List Holding
put_together tables [] = tables
put_together tables (s ∷ ss) =
    put_together (slice_set tables s.0 (together (table_at tables s.0) s.1)) ss

-- what was printed: before the fork, by the left, and by the right where the left came to its end
abbrev pub joined_output : RestState → Side → Side → List ℕ
joined_output rest left right =
    rest.output ++ left.output ++ (if is_done left.stop then right.output else [])

-- the end of both by a stop
abbrev pub ended_together : Goal → Stop → ℕ → List ℕ → Ending
ended_together goal.Root stop ticks output =
    ending.Root (record { stop = stop; output = output; ticks = ticks })
ended_together (goal.At rec side target) stop ticks output =
    ending.At rec side
    (record { stop = stop; ticks = ticks; output = output; words = []; slices = [] })

-- the base of the activation in register 31, the left's words under their names, and the right's
-- under the new ones
abbrev pub merged_registers : ℕ → List (ℕ × ℕ) → List (ℕ × Word) → List (ℕ × Word) → List Word
merged_registers base renames left right =
    filled (filled (slice_set no_words 31 (word.Int (pos base))) left) (renamed renames right)

-- the task that goes on at the combining block
abbrev pub merged_task : Target → RestState → Side → Side → ℕ → List ℕ → State
merged_task target rest left right ticks output = record {
  registers = merged_registers rest.base target.renames left.words right.words;
  stack = rest.stack;
  tables = put_together (put_together rest.tables left.slices) right.slices;
  made = rest.made;
  fuel = record { limit = rest.limit; ticks = ticks };
  beat = no_beat;
  output = output;
  goal = rest.goal;
  block = target.comb;
  at = 0;
  pending = None;
  met = Some (record { rec = rest.rec; target = rest.target });
  waiting = None;
}

-- the registers of a task that was left with a number: the base, and the number in register 29
abbrev pub left_registers : ℕ → ℤ → List Word
left_registers base number =
    slice_set (slice_set no_words 31 (word.Int (pos base))) 29 (word.Int number)

-- the task that goes on there where the two were left with a number: it holds what the rest holds
abbrev pub left_task : Target → RestState → ℤ → ℕ → List ℕ → State
left_task target rest number ticks output = record {
  registers = left_registers rest.base number;
  stack = rest.stack;
  tables = rest.tables;
  made = rest.made;
  fuel = record { limit = rest.limit; ticks = ticks };
  beat = no_beat;
  output = output;
  goal = rest.goal;
  block = target.comb;
  at = 0;
  pending = None;
  met = None;
  waiting = None;
}

abbrev pub joined_by : Stop → ℕ → List ℕ → Target → RestState → Side → Side → Joined
joined_by Done ticks output target rest left right =
    Goes (merged_task target rest left right ticks output)
joined_by (Left number) ticks output target rest left right =
    Goes (left_task target rest number ticks output)
joined_by (Trap kind place) ticks output target rest left right =
    Ends (ended_together rest.goal (Trap kind place) ticks output)
joined_by NoFuel ticks output target rest left right =
    Ends (ended_together rest.goal NoFuel ticks output)

-- two sides put together, left then right
abbrev pub joined : Listing → RestState → Side → Side → Joined
joined code rest left right =
    joined_by (joined_stop left.stop left.ticks right.stop right.ticks rest.limit)
    (joined_ticks left.stop left.ticks right.stop right.ticks rest.limit)
    (joined_output rest left right) (the_target code rest.target) rest left right

-- what a rest and two sides merge to: nothing where they aren't of one record, or not of the code
pub record MergeOf (code : Listing) (rest : RestState) (left right : Side) (both : Joined) : Type 0
  where
    pub sides : AreSides code rest left right
    pub rest_belongs : RestBelongsTo code rest
    pub left_belongs : SideBelongsTo code left
    pub right_belongs : SideBelongsTo code right
    pub gives : joined code rest left right ≡ both
