-- When a task fits what is known at its place, what is promised at the ends of a code that meets
-- the rules, and the tasks of such a code as the core sees them.
use Rattle.std.specs.Prelude.{ℕ, pos, ◌≡◌, ◌≤◌, ◌+◌, ◌&&◌, Bool, true, false, List, [], ◌∷◌}
use Rattle.std.specs.Prelude.{ℤ, length, replicate, drop, Option, None, Some, IsSome}
use Rattle.slices.specs.Holding.{Holding, cell_at, SameSize}
use Rattle.stack_marks.specs.Stacks.{StackValue}
use Rattle.stack_marks.specs.declared.mark.Mark.{Mark}
use Rattle.tpal_syntax.specs.declared.blocks.Block.{Block}
use Rattle.tpal_syntax.specs.declared.instructions.Instr.{Instr}
use Rattle.tpal_syntax.specs.declared.notes.CarryAt.{CarryAt}
use Rattle.tpal_syntax.specs.declared.words.Word.{Word}
use Rattle.tpal_syntax.specs.declared.words.Word.TheVariants as word
use Rattle.tpal_syntax.specs.Listing.{Listing}
use Rattle.tpal_syntax.specs.Parts.{table_of}
use Rattle.tpal_machine.specs.declared.ends.Ending.{Ending}
use Rattle.tpal_machine.specs.declared.ends.Ending.TheVariants as ending
use Rattle.tpal_machine.specs.declared.ends.Goal.{Goal}
use Rattle.tpal_machine.specs.declared.ends.Goal.TheVariants as goal
use Rattle.tpal_machine.specs.declared.ends.Side.{Side}
use Rattle.tpal_machine.specs.declared.ends.Tie.{Tie}
use Rattle.tpal_machine.specs.Belonging.{RunsOn, IsEndingOf}
use Rattle.tpal_machine.specs.Calculation.{is_nil}
use Rattle.tpal_machine.specs.Keeping.{number_of, place_of, credit}
use Rattle.tpal_machine.specs.Merge.{IsSideOf, WhereDone}
use Rattle.tpal_machine.specs.Reading.{register, table_at, block_at, the_target}
use Rattle.tpal_machine.specs.RestState.{RestState, end_of}
use Rattle.tpal_machine.specs.State.{State, empty_stack}
use Rattle.tpal_machine.specs.Step.{step}
use Rattle.tp_value.specs.Number.{truth}
use Rattle.tp_value.specs.declared.values.Stop.{Stop}
use Rattle.tp_value.specs.declared.values.Stop.TheVariants as stop
use Rattle.schedule_core.specs.Machine.{root, left, right, CoreMachine}
use Rattle.schedule_core.specs.Tasks.{end_number, turn_of, MergesTo}
use Rattle.tpal_verify.specs.declared.kinds.Kind.{Kind}
use Rattle.tpal_verify.specs.declared.kinds.Kind.TheVariants.{Number, Empty, Own, Up, Pend}
use Rattle.tpal_verify.specs.declared.kinds.Kind.TheVariants.{Met, Back, Any}
use Rattle.tpal_verify.specs.declared.kinds.EndFact.{EndFact}
use Rattle.tpal_verify.specs.declared.kinds.EndFact.TheVariants.{Root, Side as IsSide, Either}
use Rattle.tpal_verify.specs.declared.kinds.MarkFact.{MarkFact}
use Rattle.tpal_verify.specs.declared.kinds.MarkFact.TheVariants.{Marked, Clear, Maybe}
use Rattle.tpal_verify.specs.declared.phases.Phase.{Phase}
use Rattle.tpal_verify.specs.declared.phases.Phase.TheVariants.{Calm, Compared, Asked, Tested}
use Rattle.tpal_verify.specs.declared.phases.Phase.TheVariants.{Given}
use Rattle.tpal_verify.specs.Flat.{Ground, ground_of, is_inner, first_cells}
use Rattle.tpal_verify.specs.Rules.{note_at, jumps_by, leads_to_fork, tests_first}
use Rattle.tpal_verify.specs.Rounds.{Shapes, all_joins, traces, found}
use Rattle.tpal_verify.specs.Shapes.{Shape}
use Rattle.tpal_verify.specs.Walk.{is_ready_for}
use Rattle.tpal_verify.specs.Well.{GoesWell}

-- ---- words of kinds

-- the record of an end
abbrev pub IsOwnWord : Goal → Word → Type 0
IsOwnWord goal.Root w = ⊥
IsOwnWord (goal.At rec side target) w = w ≡ word.Rec rec

-- that, or nil at the end of the run
abbrev pub IsUpWord : Goal → Word → Type 0
IsUpWord goal.Root w = w ≡ word.Nil
IsUpWord (goal.At rec side target) w = w ≡ word.Rec rec

-- a pending or a met record
abbrev pub IsTiedWord : Option Tie → Word → Type 0
IsTiedWord None w = ⊥
IsTiedWord (Some tie) w = w ≡ word.Rec tie.rec

-- the label of a promotion-ready block with a handler
pub record LeadsBack (whole : Ground) (handler : ℕ) (w : Word) : Type 0 where
  pub label : ℕ
  pub is : w ≡ word.Label label
  pub inner : is_inner label ≡ true
  pub ready : is_ready_for handler (note_at whole label) ≡ true

-- a number
abbrev pub IsNumberWord : Word → Type 0
IsNumberWord (word.Int z) = Unit {0}
IsNumberWord (word.Label l) = ⊥
IsNumberWord (word.Rec k) = ⊥
IsNumberWord word.Nil = ⊥

-- a word is of a kind, in a task with this end, this pending record and this met one
abbrev pub IsOfKind : Ground → Goal → Option Tie → Option Tie → Kind → Word → Type 0
IsOfKind whole goal pending met Number w = IsNumberWord w
IsOfKind whole goal pending met Empty w = w ≡ word.Nil
IsOfKind whole goal pending met Own w = IsOwnWord goal w
IsOfKind whole goal pending met Up w = IsUpWord goal w
IsOfKind whole goal pending met Pend w = IsTiedWord pending w
IsOfKind whole goal pending met Met w = IsTiedWord met w
IsOfKind whole goal pending met (Back handler) w = LeadsBack whole handler w
IsOfKind whole goal pending met Any w = Unit {0}

-- each word is of the kind at its place
abbrev pub AreOfKinds : (Kind → Word → Type 0) → List Kind → List Word → Type 0
AreOfKinds P [] words = Unit {0}
AreOfKinds P (k ∷ kinds) [] = ⊥
AreOfKinds P (k ∷ kinds) (w ∷ words) = P k w × AreOfKinds P kinds words

-- ---- the four facts

abbrev pub EndIs : EndFact → Goal → Type 0
EndIs Root goal.Root = Unit {0}
EndIs Root (goal.At rec side target) = ⊥
EndIs IsSide goal.Root = ⊥
EndIs IsSide (goal.At rec side target) = Unit {0}
EndIs Either goal = Unit {0}

-- the one mark of a flat code, whose work is the whole activation
pub record IsTheMark (whole : Ground) (mark : Mark) : Type 0 where
  pub at : whole.mark ≡ Some mark.at
  pub base : mark.base ≡ 0
  pub cells : mark.cells ≡ whole.cells

abbrev pub OneMark : Ground → List Mark → Type 0
OneMark whole [] = ⊥
OneMark whole (mark ∷ []) = IsTheMark whole mark
OneMark whole (mark ∷ other ∷ marks) = ⊥

abbrev pub OneMarkOrNone : Ground → List Mark → Type 0
OneMarkOrNone whole [] = Unit {0}
OneMarkOrNone whole (mark ∷ marks) = OneMark whole (mark ∷ marks)

abbrev pub MarkIs : Ground → MarkFact → List Mark → Type 0
MarkIs whole Marked marks = OneMark whole marks
MarkIs whole Clear marks = marks ≡ []
MarkIs whole Maybe marks = OneMarkOrNone whole marks

abbrev pub GrantIs : Bool → Bool → Type 0
GrantIs true granted = granted ≡ true
GrantIs false granted = Unit {0}

abbrev pub MetIs : Option ℕ → Option Tie → Type 0
MetIs None met = Unit {0}
MetIs (Some target) None = ⊥
MetIs (Some target) (Some tie) = tie.target ≡ target

-- ---- what a task holds

-- The cells of the activation. Before its first instruction the run's first task has none, and will
-- have that many with nothing in them.
abbrev pub activation : Ground → Bool → StackValue → List Word
activation whole true stack = replicate whole.cells word.Nil
activation whole false stack = stack.cells

-- the stack has one activation, at its bottom
abbrev pub IsFlatStack : Ground → Bool → StackValue → Type 0
IsFlatStack whole true stack = stack ≡ empty_stack
IsFlatStack whole false stack = (stack.base ≡ 0) × (length stack.cells ≡ whole.cells)

-- What a task holds is as a shape says, where it stands at the run's first instruction or not.
pub record HoldsIn (whole : Ground) (first : Bool) (s : Shape) (registers : List Word)
    (stack : StackValue) (goal : Goal) (pending met : Option Tie) (granted : Bool) : Type 0 where
  pub registers_are : AreOfKinds (IsOfKind whole goal pending met) s.registers registers
  pub base_is : register registers 31 ≡ word.Int (pos 0)
  pub cells_are : AreOfKinds (IsOfKind whole goal pending met) s.cells
      (activation whole first stack)
  pub stack_is : IsFlatStack whole first stack
  pub end_is : EndIs s.at_end goal
  pub mark_is : MarkIs whole s.mark stack.marks
  pub grant_is : GrantIs s.granted granted
  pub met_is : MetIs s.met met

abbrev pub Holds : Ground → Bool → Shape → State → Type 0
Holds whole first s state =
    HoldsIn whole first s state.registers state.stack state.goal state.pending state.met
    state.beat.granted

-- ---- what the last instructions leave

-- whether a word is nil
abbrev pub nil_truth : Word → Word
nil_truth w = word.Int (truth (is_nil w))

-- a word is the pending record, which is for this join target
abbrev pub IsGiven : ℕ → Option Tie → Word → Type 0
IsGiven target None w = ⊥
IsGiven target (Some tie) w = (tie.target ≡ target) × (w ≡ word.Rec tie.rec)

-- that, or nil where no record was given
abbrev pub IsAnswer : ℕ → Option Tie → Word → Type 0
IsAnswer target None w = w ≡ word.Nil
IsAnswer target (Some tie) w = (tie.target ≡ target) × (w ≡ word.Rec tie.rec)

-- a record is pending exactly between the answer to a question and the fork
abbrev pub InPhase : Phase → List Word → Option Tie → Type 0
InPhase Calm registers pending = pending ≡ None
InPhase (Compared r x) registers pending =
    (pending ≡ None) × (register registers x ≡ nil_truth (register registers r))
InPhase (Asked r target) registers pending = IsAnswer target pending (register registers r)
InPhase (Tested r x target) registers pending =
    IsAnswer target pending (register registers r)
    × (register registers x ≡ nil_truth (register registers r))
InPhase (Given r target) registers pending = IsGiven target pending (register registers r)

-- a record isn't the one of an end, and its join target isn't block 0
abbrev pub IsApart : Goal → Option Tie → Type 0
IsApart goal None = Unit {0}
IsApart goal (Some tie) =
    (end_number (end_of goal) ≡ left tie.rec → ⊥)
    × (end_number (end_of goal) ≡ right tie.rec → ⊥)
    × (is_inner tie.target ≡ true)

-- ---- tables

-- of a table of the same size, no cell but those that are held there
pub record IsPartOf (h bound : Holding) : Type 0 where
  pub size : SameSize h bound
  pub within : (row col : ℤ) → IsSome (cell_at h row col) → IsSome (cell_at bound row col)

-- Of each table that a join target carries, a task has a part of what was there.
abbrev pub ArePartsOf : List Holding → List CarryAt → List Holding → Type 0
ArePartsOf bounds [] tables = Unit {0}
ArePartsOf bounds (c ∷ carries) tables =
    IsPartOf (table_at tables (table_of c)) (table_at bounds (table_of c))
    × ArePartsOf bounds carries tables

-- and so a side has that is done
abbrev pub SlicesArePartsOf : List Holding → List (ℕ × Holding) → Type 0
SlicesArePartsOf bounds [] = Unit {0}
SlicesArePartsOf bounds (s ∷ slices) =
    IsPartOf s.1 (table_at bounds s.0) × SlicesArePartsOf bounds slices

-- ---- promises

-- What is promised at an end: its number, the join target of a side's, the fuel's limit, and the
-- tables that its task had when the end was made.
pub record Promise : Type 0 where
  pub number : ℕ
  pub target : ℕ
  pub limit : ℕ
  pub tables : List Holding

-- what is promised at the end of a run with so much fuel and these tables
abbrev pub of_run : ℕ → List Holding → Promise
of_run fuel held = record { number = root; target = 0; limit = fuel; tables = held }

abbrev pub GoalKeeps : Listing → Promise → Goal → List Holding → Type 0
GoalKeeps code promise goal.Root tables = Unit {0}
GoalKeeps code promise (goal.At rec side target) tables =
    (target ≡ promise.target)
    × ArePartsOf promise.tables (the_target code target).carries tables

-- ---- tasks

-- what stands ahead of a task in a phase: behind a question its test, a jump by it and a fork
abbrev pub jumps_first : ℕ → ℕ → List Instr → Bool
jumps_first r x [] = false
jumps_first r x (jump ∷ body) = jumps_by (Some x) jump && leads_to_fork r body

abbrev pub Ahead : Phase → List Instr → Type 0
Ahead Calm body = Unit {0}
Ahead (Compared r x) body = Unit {0}
Ahead (Asked r target) body = tests_first r body ≡ true
Ahead (Tested r x target) body = jumps_first r x body ≡ true
Ahead (Given r target) body = leads_to_fork r body ≡ true

-- the run's first task makes the activation with its first instruction
abbrev pub Opens : Ground → Bool → List Instr → Type 0
Opens whole true body = whole.cells ≡ first_cells body
Opens whole false body = Unit {0}

-- A task holds what a shape says, and from its place on the walk of its block goes well.
pub record Knows (code : Listing) (shapes : Shapes) (state : State) : Type 0 where
  pub first : Bool
  pub shape : Shape
  pub phase : Phase
  pub block : Block
  pub found : block_at code state.block ≡ Some block
  pub good : GoesWell (ground_of code) shapes first state.at phase shape
      (drop state.at block.body) block.term
  pub holds : Holds (ground_of code) first shape state
  pub in_phase : InPhase phase state.registers state.pending
  pub ahead : Ahead phase (drop state.at block.body)
  pub opens : Opens (ground_of code) first (drop state.at block.body)
  pub met_apart : IsApart state.goal state.met
  pub pending_apart : IsApart state.goal state.pending

-- A task is of the code, stands at the end of a promise, holds parts of its tables and counts its
-- ticks against its limit.
pub record Keeps (code : Listing) (promise : Promise) (state : State) : Type 0 where
  pub runs : RunsOn code state
  pub number : end_number (end_of state.goal) ≡ promise.number
  pub tables : GoalKeeps code promise state.goal state.tables
  pub limit : state.fuel.limit ≡ promise.limit
  pub ticks : state.fuel.ticks ≤ promise.limit + 1

-- a task fits an assignment of shapes, and keeps a promise
pub record Fits (code : Listing) (shapes : Shapes) (state : State) (promise : Promise) : Type 0
  where
    pub knows : Knows code shapes state
    pub keeps : Keeps code promise state

-- ---- endings

-- what the joins of sides find in a listed register, of a side with this record
abbrev pub IsFoundWord : Kind → ℕ → Word → Type 0
IsFoundWord Number rec w = IsNumberWord w
IsFoundWord Met rec w = w ≡ word.Rec rec
IsFoundWord Empty rec w = Unit {0}
IsFoundWord Own rec w = Unit {0}
IsFoundWord Up rec w = Unit {0}
IsFoundWord Pend rec w = Unit {0}
IsFoundWord (Back handler) rec w = Unit {0}
IsFoundWord Any rec w = Unit {0}

abbrev pub AreFoundWords : List (List Kind) → ℕ → List (ℕ × Word) → Type 0
AreFoundWords joins rec [] = Unit {0}
AreFoundWords joins rec (w ∷ words) =
    IsFoundWord (found joins w.0) rec w.1 × AreFoundWords joins rec words

abbrev pub joins_of : Listing → Shapes → List (List Kind)
joins_of code shapes = all_joins (traces (ground_of code) shapes)

abbrev pub AnyJoin : List (List Kind) → Type 0
AnyJoin [] = ⊥
AnyJoin (registers ∷ joins) = Unit {0}

-- a side that wasn't left
abbrev pub IsUnleft : Stop → Type 0
IsUnleft stop.Done = Unit {0}
IsUnleft (stop.Left number) = ⊥
IsUnleft (stop.Trap kind place) = Unit {0}
IsUnleft stop.NoFuel = Unit {0}

-- no side is left; one that is done has come to a join, with words as each join finds them, and
-- hands over parts of the tables
pub record SideFits (code : Listing) (shapes : Shapes) (rec : ℕ) (promise : Promise) (out : Side)
    : Type 0 where
  pub ticks : out.ticks ≤ promise.limit + 1
  pub unleft : IsUnleft out.stop
  pub is_side : IsSideOf (the_target code promise.target) out
  pub reached : WhereDone out.stop (AnyJoin (joins_of code shapes))
  pub words : WhereDone out.stop (AreFoundWords (joins_of code shapes) rec out.words)
  pub slices : WhereDone out.stop (SlicesArePartsOf promise.tables out.slices)

abbrev pub OutFits : Listing → Shapes → Promise → Ending → Type 0
OutFits code shapes promise (ending.At rec side out) = SideFits code shapes rec promise out
OutFits code shapes promise (ending.Root outcome) = Unit {0}

pub record Meets (code : Listing) (shapes : Shapes) (e : Ending) (promise : Promise) : Type 0 where
  pub number : end_number (place_of e) ≡ promise.number
  pub belongs : IsEndingOf code e
  pub fits : OutFits code shapes promise e

-- ---- the tasks of a code that meets the rules, as the core sees them

abbrev pub fitting : Listing → Shapes → ℕ → CoreMachine State RestState Ending
fitting code shapes heartbeat = record {
  turn = λ allowed state. turn_of (step code heartbeat allowed state);
  merges = MergesTo code;
  home = λ state. end_number (end_of state.goal);
  kept = λ rest. end_number (end_of rest.goal);
  end_of = λ e. end_number (place_of e);
  pending = λ state. number_of state.pending;
  credit = λ state. credit heartbeat state.beat;
  Promise = Promise;
  owes = λ due state promise. Fits code shapes state promise;
  meets = λ e promise. Meets code shapes e promise;
  Strict = ⊥;
  Sticks = Unit {0};
}
