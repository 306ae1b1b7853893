-- What a task owes at a place of a code, inside whatever goes on round it.
use Rattle.std.proofs.Common.{sym, subst, ◌≡◌, ◌≢◌, ℕ, ◌+◌, ◌<◌, ◌≤◌, Bool, true, false, List, [], ◌∷◌, ◌++◌}
use Rattle.std.proofs.Common.{length, Option, None, Some, All}
use Rattle.std.specs.Prelude.{ℤ, pos, ⊤}
use Rattle.std.specs.List.{AllByRecursion}
use Rattle.beat_count.specs.FuelState.{FuelState}
use Rattle.slices.specs.Holding.{Holding}
use Rattle.stack_marks.specs.declared.mark.Mark.{Mark}
use Rattle.stack_marks.specs.Stacks.{StackValue, word_at}
use Rattle.tp_value.specs.declared.Table.{Table}
use Rattle.tp_value.specs.declared.Stop.{Stop}
use Rattle.tp_value.specs.declared.Stop.TheVariants.{Done, Left, Trap, NoFuel}
use Rattle.tpal_syntax.specs.declared.instructions.Instr.{Instr}
use Rattle.tpal_syntax.specs.declared.instructions.Term.{Term}
use Rattle.tpal_syntax.specs.declared.instructions.Term.TheVariants as term
use Rattle.tpal_syntax.specs.declared.instructions.Value.TheVariants as value
use Rattle.tpal_syntax.specs.declared.words.Word.{Word}
use Rattle.tpal_syntax.specs.declared.words.Word.TheVariants.{Int}
use Rattle.tpal_syntax.specs.Listing.{Listing}
use Rattle.tpal_machine.specs.declared.ends.Goal.{Goal}
use Rattle.tpal_machine.specs.declared.ends.Tie.{Tie}
use Rattle.tpal_machine.specs.Effect.{is_marked_from}
use Rattle.tpal_machine.specs.Ended.{ended}
use Rattle.tpal_machine.specs.Merge.{ended_together}
use Rattle.tpal_machine.specs.Reading.{register}
use Rattle.tpal_machine.specs.State as machine
use Rattle.tpal_machine.specs.Step.{Ends, step}
use Rattle.loop_meaning.specs.InRange.{TableInRange}
use Rattle.loop_meaning.specs.State as meaning
use Rattle.loop_meaning.specs.State.{Writes, has_cell, table_of, write_cell}
use Rattle.expr_lower.specs.Standing.{Remains}
use Rattle.handler_gen.specs.LeafCuts.{with_registers}
use Rattle.handler_gen.proofs.LeafStores.{cells_with}
use Rattle.scene_laws.specs.Layout.{cursor_cell, levels_cell, value_cell, Activation}
use Rattle.scene_laws.proofs.Scenes.Activations.{StandsFrom}
use Rattle.scene_laws.proofs.Scenes.Promises.{Promise}
use Rattle.scene_laws.proofs.Scenes.Regions.{Region, AreShown, Covers}
use Rattle.scene_laws.proofs.Scenes.Registered.{AreApart, AreHigh}
use Rattle.scene_laws.proofs.Scenes.Results.{Result, noting, out}
use Rattle.scene_laws.proofs.Scenes.Tables.{table_names}
use Rattle.scene_laws.proofs.Scenes.Variables.{AreHeld, var_names}

-- ---- stacks

-- the stack stays the same below the variables from a level on, but for the cells of the activation
-- that may change
pub record Same (z : ℕ) (may : ℕ → Type 0) (level : ℕ) (s t : StackValue) : Type 0 where
  pub base : t.base ≡ s.base
  pub at : (a : ℕ) → a < z + value_cell level → ((c : ℕ) → may c → a ≢ z + c)
      → word_at t (pos a) ≡ word_at s (pos a)

-- A handler that cuts a world changes no variable in the activation that begins at z, no cell that
-- a statement may change, and nothing from a level on. What lies below that activation may be gone.
pub record Near (z : ℕ) (may : ℕ → Type 0) (lowest : ℕ) (s t : StackValue) : Type 0 where
  pub low : t.base ≤ z
  pub top : t.base + length t.cells ≡ s.base + length s.cells
  pub levels : word_at t (pos (z + levels_cell)) ≡ word_at s (pos (z + levels_cell))
  pub vars : (x : ℕ) → x < lowest
      → word_at t (pos (z + value_cell x)) ≡ word_at s (pos (z + value_cell x))
  pub own : (c : ℕ) → may c → word_at t (pos (z + c)) ≡ word_at s (pos (z + c))
  pub above : (a : ℕ) → z + value_cell lowest ≤ a → word_at t (pos a) ≡ word_at s (pos a)

-- ---- diversions

-- a task that was just diverted to the block at a label
pub record IsDiverted (dispatch : ℕ) (state : machine.State) : Type 0 where
  pub block : state.block ≡ dispatch
  pub at : state.at ≡ 0
  pub quiet : state.beat.quiet ≡ true
  pub granted : state.beat.granted ≡ true

-- a task that is about to go back to where another one was diverted
pub record GoesBack (code : Listing) (state u : machine.State) : Type 0 where
  pub stands : Remains code u.block u.at [] (term.Jump (value.Reg 30))
  pub size : length u.registers ≡ 32
  pub label : register u.registers 30 ≡ register state.registers 30
  pub base : register u.registers 31 ≡ register state.registers 31
  pub quiet : u.beat.quiet ≡ true

-- a task with the stack, the tables, the ticks, the output and the goal of another one, and no
-- record in hand
pub record IsUncut (state u : machine.State) : Type 0 where
  pub stack : u.stack ≡ state.stack
  pub tables : u.tables ≡ state.tables
  pub fuel : u.fuel ≡ state.fuel
  pub output : u.output ≡ state.output
  pub goal : u.goal ≡ state.goal
  pub free : u.pending ≡ None
  pub unmet : u.met ≡ None

-- ---- what a world says of its task

pub record Facts : Type 1 where
  pub marks : List Mark
  pub goal : Goal
  -- what was printed before its task began, and at least how many ticks there were
  pub before : List ℕ
  pub since : ℕ
  -- how much its task holds of each table
  pub region : Region
  -- what is kept on the stack below a level
  pub kept : StackValue → Type 0
  -- which tables its statements may meet
  pub can : List Table → Type 0

-- the same of each world
pub record Surroundings (World : Type 0) : Type 1 where
  pub marks : World → List Mark
  pub goal : World → Goal
  pub before : World → List ℕ
  pub since : World → ℕ
  pub region : World → Region
  pub kept : World → StackValue → Type 0
  pub can : World → List Table → Type 0

abbrev pub facts : {World : Type 0} → Surroundings World → World → Facts
facts around i = record {
  marks = around.marks i;
  goal = around.goal i;
  before = around.before i;
  since = around.since i;
  region = around.region i;
  kept = around.kept i;
  can = around.can i;
}

-- A task of a world, whichever statement runs in it: its ticks and its tables are those of a state,
-- some of it printed before it began. So many cells of the activation that begins at z stand. More
-- marks may stand above.
pub record RunsIn (z size fuel : ℕ) (world : Facts) (more : List Mark) (st : meaning.State)
    (state : machine.State) : Type 0 where
  pub many : length state.registers ≡ 32
  pub limit : state.fuel.limit ≡ fuel
  pub ticks : state.fuel.ticks ≡ st.ticks
  pub within : st.ticks ≤ fuel
  pub begun : world.since ≤ st.ticks
  pub printed : st.output ≡ world.before ++ state.output
  pub ends : state.goal ≡ world.goal
  pub free : state.pending ≡ None
  pub unmet : state.met ≡ None
  pub marked : state.stack.marks ≡ world.marks ++ more
  pub held : AreShown world.region state.tables st.tables
  pub can : world.can st.tables
  pub ranged : All TableInRange st.tables
  pub low : state.stack.base ≤ z
  pub tall : z + size ≤ state.stack.base + length state.stack.cells
  pub keeps : world.kept state.stack

-- the same with another bound of the ticks before, and of another activation with another fact
-- about the stack
module _ {z size fuel : ℕ} {world : Facts} {more : List Mark} {st : meaning.State}
    {state : machine.State} (runs : RunsIn z size fuel world more st state) where
  pub runs_since : (since : ℕ) → since ≤ st.ticks
      → RunsIn z size fuel (record world { since = since }) more st state
  runs_since since begun = record {
    many = runs.many;
    limit = runs.limit;
    ticks = runs.ticks;
    within = runs.within;
    begun = begun;
    printed = runs.printed;
    ends = runs.ends;
    free = runs.free;
    unmet = runs.unmet;
    marked = runs.marked;
    held = runs.held;
    can = runs.can;
    ranged = runs.ranged;
    low = runs.low;
    tall = runs.tall;
    keeps = runs.keeps;
  }

  pub runs_kept : (y cells : ℕ) (kept : StackValue → Type 0) → state.stack.base ≤ y
      → y + cells ≤ state.stack.base + length state.stack.cells → kept state.stack
      → RunsIn y cells fuel (record world { kept = kept }) more st state
  runs_kept y cells kept low tall keeps = record {
    many = runs.many;
    limit = runs.limit;
    ticks = runs.ticks;
    within = runs.within;
    begun = runs.begun;
    printed = runs.printed;
    ends = runs.ends;
    free = runs.free;
    unmet = runs.unmet;
    marked = runs.marked;
    held = runs.held;
    can = runs.can;
    ranged = runs.ranged;
    low = low;
    tall = tall;
    keeps = keeps;
  }

-- a stop that ends a task wherever it stands; one that is left goes on behind its loop
abbrev pub IsEarly : Stop → Type 0
IsEarly Done = ⊥
IsEarly (Left number) = ⊥
IsEarly (Trap kind place) = ⊤
IsEarly NoFuel = ⊤

-- ---- scenes

-- the cells of an activation for the label to return to, for the record of a side, and for the
-- levels of calls
abbrev pub header : ℕ
header = cursor_cell 0

-- What goes on round a statement, in an activation that begins at z. Its worlds are closed under
-- cuts of their oldest mark.
pub record Scene (code : Listing) (heartbeat z : ℕ) : Type 1 where
  pub World : Type 0
  -- how many levels of calls are left, and how many ticks there are
  pub levels : ℕ
  pub fuel : ℕ
  -- the block to which each promotion-ready block diverts
  pub dispatch : ℕ
  -- how many cells of the activation stand at least, whichever statement runs
  pub size : ℕ
  -- what a task owes in a world for each result of the statement
  pub promise : Promise code heartbeat World
  pub open promise use *
  -- what its task is like in a world
  pub around : Surroundings World
  pub open around use *
  -- from which level on nothing is kept, and which cells of the activation may change below
  pub lowest : ℕ
  pub may : ℕ → Type 0
  -- the cells below that level for which registers stand, each with its register
  pub registers : List (ℕ × ℕ)
  pub high : AreHigh registers
  pub unlike : AreApart registers
  pub under : All (λ c. c < value_cell lowest) (cells_with registers)
  pub sized : All (λ c. c < size) (cells_with registers)
  -- the world of the left part, where the oldest mark is cut under a record, and so much was
  -- printed
  pub cut : World → ℕ → List ℕ → World
  pub stable : (i : World) (level : ℕ) (s t : StackValue) → lowest ≤ level → Same z may level s t
      → kept i s → kept i t
  -- the marks of a world stand below that level
  pub below : (i : World) → is_marked_from (marks i) (z + value_cell lowest) ≡ false
  -- a stop ends the task, with nothing but its stop, its ticks and its output
  pub stops : (i : World) (stop : Stop) (st : meaning.State) (state last : machine.State)
      → IsEarly stop → last.fuel.ticks ≡ st.ticks → st.output ≡ before i ++ last.output
      → last.goal ≡ goal i
      → ((allowed : Bool) → step code heartbeat allowed state ≡ Ends (ended code stop last))
      → (owing i (out stop st)).Holds state
  pub stopped : (i : World) (stop : Stop) (st : meaning.State) (output : List ℕ) → IsEarly stop
      → st.output ≡ before i ++ output
      → ending i (out stop st) ≡ ended_together (goal i) stop st.ticks output
  -- what a run touches is held, and where it writes a cell of a table that it may meet, it meets
  -- tables that it may meet
  pub covers : (i : World) (r : Result) → given i r → AllByRecursion (Covers (region i)) r.notes
  pub allows : (i : World) (t : List ℕ) (a b n : ℤ) (ts : List Table) (r : Result)
      → has_cell (table_of ts t) a b ≡ true → given i (noting (Writes t a b ∷ []) r) → can i ts
      → can i (write_cell ts t a b n)
  -- whether promotion points may be reached
  pub is_open : Bool
  -- A diverted task whose oldest mark is that of a world: where it owes what it should as soon as
  -- it goes back, in this world and in the one behind a cut, it owes it. More marks may stand in
  -- its activation and above.
  pub handles : is_open ≡ true → (i : World) (more : List Mark) (r : Result) (st : meaning.State)
      (state : machine.State) → (marks i ≡ [] → ⊥)
      → AllByRecursion (StandsFrom (z + value_cell lowest)) more → IsDiverted dispatch state
      → RunsIn z size fuel (facts around i) more st state
      → ((u : machine.State) → GoesBack code state u → IsUncut state u → (owing i r).Holds u)
      → ((k : ℕ) (u : machine.State) → GoesBack code state u → Near z may lowest state.stack u.stack
      → RunsIn z size fuel (facts around (cut i k st.output)) more st u
      → (owing (cut i k st.output) r).Holds u)
      → (diverted i r).Holds state

module _ (code : Listing) (heartbeat z : ℕ) (act : Activation) (fuel : ℕ) where
  -- a task shows a state in which these variables are visible
  pub record Shows (S : Scene code heartbeat z) (i : S.World) (names : List (List ℕ))
      (st : meaning.State) (words : List Word) (stack : StackValue) (holdings : List Holding)
      (spent : FuelState) (output : List ℕ) (goal : Goal)
      (ties : Option Tie × Option Tie) : Type 0 where
    pub size : length words ≡ 32
    pub base : register words 31 ≡ Int (pos z)
    pub limit : spent.limit ≡ fuel
    pub limited : S.fuel ≡ fuel
    pub tall : S.size ≤ act.size
    pub ticks : spent.ticks ≡ st.ticks
    pub within : st.ticks ≤ fuel
    pub begun : S.since i ≤ st.ticks
    pub printed : st.output ≡ S.before i ++ output
    pub ends : goal ≡ S.goal i
    pub free : ties.0 ≡ None
    pub unmet : ties.1 ≡ None
    pub marked : stack.marks ≡ S.marks i
    pub named : var_names st.vars ≡ names
    pub few : length names ≤ act.most
    pub tabled : table_names st.tables ≡ act.tables
    pub held : AreShown (S.region i) holdings st.tables
    pub can : S.can i st.tables
    pub ranged : All TableInRange st.tables
    pub levels : word_at stack (pos (z + levels_cell)) ≡ Some (Int (pos S.levels))
    pub unmarked : is_marked_from stack.marks (z + act.size) ≡ false
    pub top : stack.base + length stack.cells ≡ z + act.size
    pub low : stack.base ≤ z
    pub room : z + value_cell act.most ≤ stack.base + length stack.cells
    pub vars : AreHeld stack z 0 st.vars
    pub keeps : S.kept i stack

  abbrev pub ShowsIn : (S : Scene code heartbeat z) (i : S.World) → List (List ℕ) → meaning.State
      → machine.State → Type 0
  ShowsIn S i names st state =
      Shows S i names st state.registers state.stack state.tables state.fuel state.output state.goal
      (state.pending, state.met)

  -- what a task owes that shows a state, where these instructions with this end remain
  abbrev pub Owed : Scene code heartbeat z → List (List ℕ) → List Instr → Term
      → (meaning.State → Result) → Type 0
  Owed S names instrs end f =
      (i : S.World) (st : meaning.State) (state : machine.State) → ShowsIn S i names st state
      → Remains code state.block state.at instrs end → (S.owing i (f st)).Holds state

  -- the stack of a task as it is where the registers that stand for cells are stored
  abbrev pub seen : Scene code heartbeat z → List Word → StackValue → StackValue
  seen S words stack = with_registers S.registers z words stack

  -- a task shows a state in its cells and in the registers that stand for some of them
  abbrev pub SeenIn : (S : Scene code heartbeat z) (i : S.World) → List (List ℕ) → meaning.State
      → machine.State → Type 0
  SeenIn S i names st state =
      Shows S i names st state.registers (seen S state.registers state.stack) state.tables
      state.fuel
      state.output state.goal (state.pending, state.met)

  -- the same as `Owed` of a task that shows a state so
  abbrev pub OwedSeen : Scene code heartbeat z → List (List ℕ) → List Instr → Term
      → (meaning.State → Result) → Type 0
  OwedSeen S names instrs end f =
      (i : S.World) (st : meaning.State) (state : machine.State) → SeenIn S i names st state
      → Remains code state.block state.at instrs end → (S.owing i (f st)).Holds state

  -- where no register stands for a cell both are the same
  pub seen_bare : (S : Scene code heartbeat z) (i : S.World) (names : List (List ℕ))
      (st : meaning.State) (state : machine.State) → S.registers ≡ []
      → ShowsIn S i names st state → SeenIn S i names st state
  seen_bare S i names st state bare shows =
      subst (λ (ps : List (ℕ × ℕ)).
      Shows S i names st state.registers (with_registers ps z state.registers state.stack)
      state.tables state.fuel state.output state.goal (state.pending, state.met)) (sym bare) shows

  pub shows_bare : (S : Scene code heartbeat z) (i : S.World) (names : List (List ℕ))
      (st : meaning.State) (state : machine.State) → S.registers ≡ []
      → SeenIn S i names st state → ShowsIn S i names st state
  shows_bare S i names st state bare shows =
      subst (λ (ps : List (ℕ × ℕ)).
      Shows S i names st state.registers (with_registers ps z state.registers state.stack)
      state.tables state.fuel state.output state.goal (state.pending, state.met)) bare shows

  pub owed_bare : (S : Scene code heartbeat z) (names : List (List ℕ)) (instrs : List Instr)
      (end : Term) (f : meaning.State → Result) → S.registers ≡ [] → OwedSeen S names instrs end f
      → Owed S names instrs end f
  owed_bare S names instrs end f bare owed i st state shows stands =
      owed i st state (seen_bare S i names st state bare shows) stands

  pub owed_seen : (S : Scene code heartbeat z) (names : List (List ℕ)) (instrs : List Instr)
      (end : Term) (f : meaning.State → Result) → S.registers ≡ [] → Owed S names instrs end f
      → OwedSeen S names instrs end f
  owed_seen S names instrs end f bare owed i st state shows stands =
      owed i st state (shows_bare S i names st state bare shows) stands
