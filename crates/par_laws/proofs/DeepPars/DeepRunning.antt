-- The scene of a running iteration of a `par` that may be cut in the middle of it: the iterations
-- that aren't begun may be cut off wherever a task stands inside it.
use Rattle.std.proofs.Common.{◌≡◌, ◌≢◌, ℕ, zero, suc, ◌+◌, ◌≤◌, Bool, true, false, List, [], ◌∷◌}
use Rattle.std.proofs.Common.{◌++◌, length, Some, refl, sym, ap, subst, ◌∙◌, arith}
use Rattle.std.specs.Prelude.{ℤ, pos, ◌+ℤ◌}
use Rattle.std.specs.List.{AllByRecursion}
use Rattle.std.proofs.lemmas.Int.{ints}
use Rattle.stack_marks.specs.declared.mark.Mark.{Mark}
use Rattle.stack_marks.specs.Stacks.{StackValue, word_at}
use Rattle.tp_value.specs.declared.limits.TheConstants.{MAX_PAR_LENGTH}
use Rattle.tp_value.specs.declared.Table.{Table}
use Rattle.tp_value.specs.declared.Stop.{Stop}
use Rattle.tp_value.specs.declared.Stop.TheVariants.{Done, Left, Trap, NoFuel}
use Rattle.loop_meaning.specs.InRange.{InRange, StateInRange}
use Rattle.loop_meaning.specs.State as meaning
use Rattle.loop_meaning.specs.State.{Chance, Note, Ran, Writes, go_on, has_cell, table_of}
use Rattle.loop_meaning.specs.State.{write_cell}
use Rattle.loop_meaning.specs.Statements.{iterate, iteration}
use Rattle.loop_meaning.specs.declared.value.Variable.{Variable}
use Rattle.tpal_syntax.specs.declared.words.Word.TheVariants.{Int}
use Rattle.tpal_syntax.specs.Listing.{Listing}
use Rattle.tpal_machine.specs.State as machine
use Rattle.frame_machine.specs.Lawful.{Lawful, modes_in}
use Rattle.frame_machine.specs.Modes as mode
use Rattle.frame_machine.specs.Modes.{Mode}
use Rattle.frame_machine.specs.Parts.{Below, Cells, From, NotesKeep, Seen, Written, WrittenAt}
use Rattle.frame_machine.proofs.Joining.{lower_kept, upper_kept}
use Rattle.scene_laws.specs.Layout.{Activation, levels_cell, value_cell}
use Rattle.scene_laws.proofs.Scenes.Activations.{StandsFrom}
use Rattle.scene_laws.proofs.Scenes.Changing.{Changed, changed_trans, changed_write}
use Rattle.scene_laws.proofs.Cuts.CutGaps.{Halved, halved}
use Rattle.par_laws.proofs.DeepPars.DeepScenes.{Deep, bound_is, can_of, clear_of, covers_of}
use Rattle.par_laws.proofs.DeepPars.DeepScenes.{cursor_is}
use Rattle.par_laws.proofs.DeepPars.DeepScenes.{enough_of}
use Rattle.par_laws.proofs.DeepPars.DeepScenes.{before_of, goal_of, marks_of, outer_of}
use Rattle.par_laws.proofs.DeepPars.DeepScenes.{outer_stable}
use Rattle.par_laws.proofs.DeepPars.DeepScenes.{pieces}
use Rattle.par_laws.proofs.DeepPars.DeepScenes.{allows_of, body, rec_is, rec_of, region_of}
use Rattle.par_laws.proofs.DeepPars.DeepScenes.{since_of}
use Rattle.par_laws.proofs.DeepPars.DeepScenes.{stopped_of, stops_of}
use Rattle.par_laws.proofs.DeepPars.DeepScenes.{variable}
use Rattle.scene_laws.proofs.Scenes.Fixed.{AreFixed, IsFree, fixed_same}
use Rattle.scene_laws.proofs.Merges.JoinsSides.{left_side}
use Rattle.scene_laws.proofs.Scenes.Knowing.{knowing}
use Rattle.scene_laws.proofs.Scenes.Pieces.{Apart, Host, Piece}
use Rattle.scene_laws.proofs.Scenes.Promises.{Promise, following}
use Rattle.scene_laws.proofs.Scenes.Regions.{Covers, all_front}
use Rattle.scene_laws.proofs.Scenes.Results.{Result, noting, noting_then, noting_twice}
use Rattle.scene_laws.proofs.Scenes.Results.{notes_behind}
use Rattle.scene_laws.proofs.Scenes.Results.{notes_then, result, then}
use Rattle.scene_laws.proofs.Scenes.Scene.{GoesBack, IsDiverted, IsUncut, Near, RunsIn, Same}
use Rattle.scene_laws.proofs.Scenes.Scene.{Scene}
use Rattle.scene_laws.proofs.Scenes.Scene.{Surroundings, facts}
use Rattle.scene_laws.proofs.Scenes.Showing.{as_many}
use Rattle.scene_laws.proofs.Cuts.Sides.{Part}
use Rattle.scene_laws.proofs.Scenes.Tables.{table_names}
use Rattle.scene_laws.proofs.Scenes.Variables.{var_names}

-- whether any is left
abbrev pub are_any : ℕ → Bool
are_any zero = false
are_any (suc n) = true

-- ---- notes

-- a run notes what it notes where nothing follows
notes_alone : (R W : Cells) (x : Stop) (r : Ran) → r.stop ≡ x
    → NotesKeep R W (go_on x r (λ s. record { stop = Done; state = s; notes = [] })).notes
    → NotesKeep R W r.notes
notes_alone R W Done r is keeps = without r.notes keeps
  where
    without : (ns : List Note) → NotesKeep R W (ns ++ []) → NotesKeep R W ns
    without [] all = tt
    without (n ∷ ns) all = (all.0, without ns all.1)
notes_alone R W (Left number) r is keeps = keeps
notes_alone R W (Trap kind place) r is keeps = keeps
notes_alone R W NoFuel r is keeps = keeps

writes_kept : (R W : Cells) (ns : List Note) (t : List ℕ) (a b : ℤ) (ms : List Note)
    → NotesKeep R W (ns ++ Writes t a b ∷ ms) → W t a b
writes_kept R W [] t a b ms keeps = keeps.0
writes_kept R W (n ∷ ns) t a b ms keeps = writes_kept R W ns t a b ms keeps.1

own_write : (n : ℤ) (vs : List Variable) (md : Mode) (a b : ℤ)
    → WrittenAt (Below (n +ℤ pos 1)) vs md a b → WrittenAt (From n) vs md a b
    → WrittenAt (λ m. m ≡ n) vs md a b
own_write n vs mode.Whole a b below from = below
own_write n vs mode.Closed a b below from = below
own_write n vs (mode.OwnRow x) a b below from = omega (arith, ints, below, from)
own_write n vs (mode.OwnCell k x) a b below from =
    (below.0, omega (arith, ints, below.1, from.1))

module _ {code : Listing} {heartbeat z : ℕ} {act : Activation} (d : Deep code heartbeat z act) where
  abbrev level : ℕ
  level = length d.q.names

  -- ---- worlds

  -- An iteration runs, of those up to a bound. So many aren't begun, at most N. It began in this
  -- state.
  pub record Running (N : ℕ) : Type 0 where
    pub piece : Piece d.S.World
    pub from : ℤ
    pub to : ℤ
    pub more : ℕ
    pub start : meaning.State
    pub far : to ≡ (from +ℤ pos 1) +ℤ pos more
    pub few : more ≤ N
    pub short : more ≤ MAX_PAR_LENGTH
    pub in_from : InRange from
    pub in_to : InRange to
    pub named : var_names start.vars ≡ d.q.names
    pub tabled : table_names start.tables ≡ act.tables
    pub ranged : StateInRange start
    pub within : start.ticks ≤ d.fuel
    pub begins : since_of d piece ≤ start.ticks

  -- what the running iteration gives, and the later ones
  abbrev pub running_of : {N : ℕ} → Running N → Ran
  running_of v = iteration d.fuel (variable d) (body d) [] v.from v.start

  abbrev pub later_of : {N : ℕ} → Running N → meaning.State → Ran
  later_of v s = iterate d.fuel (variable d) (body d) (Chance ∷ []) (Chance ∷ []) v.more
      (v.from +ℤ pos 1) s

  abbrev pub follows : {N : ℕ} → Running N → meaning.State → Result
  follows v s = result (later_of v s)

  -- the cells that the running iteration may write
  abbrev pub own_written : {N : ℕ} → Running N → Cells
  own_written v = Written (λ n. n ≡ v.from) v.start.vars (modes_in d.q.modes d.q.loop)

  -- ---- cuts

  -- the left of a cut goes on from where the piece began; so much was printed before the cut
  abbrev pub left_part : {N : ℕ} → Running N → ℤ → ℕ → List ℕ → Part
  left_part v middle c printed =
      record (left_side d.q.loop c (region_of d v.piece) middle v.start) {
        before = printed;
        since = since_of d v.piece;
      }

  -- the iterations that aren't begun are cut in two: the left of the piece goes on with the lower
  -- ones
  abbrev pub half_of : {N : ℕ} (v : Running N) (n : ℕ) → v.more ≡ suc n
      → Halved n (v.from +ℤ pos 1) v.to
  half_of v n is = halved n (v.from +ℤ pos 1) v.to
      (v.far ∙ ap (λ (m : ℕ). (v.from +ℤ pos 1) +ℤ pos m) is)

  abbrev pub halve : {N : ℕ} (v : Running N) (n : ℕ) → v.more ≡ suc n → ℕ → List ℕ
      → Running N
  halve v n is c printed = record {
    piece = Apart (left_part v (v.from +ℤ pos (1 + (half_of v n is).lower)) c printed);
    from = v.from;
    to = v.from +ℤ pos (1 + (half_of v n is).lower);
    more = (half_of v n is).lower;
    start = v.start;
    far = omega (arith, ints);
    few = omega (arith, (half_of v n is).all, is, v.few);
    short = omega (arith, (half_of v n is).all, is, v.short);
    in_from = v.in_from;
    in_to = omega (arith, ints, (half_of v n is).all, is, v.in_from, v.in_to, v.far);
    named = v.named;
    tabled = v.tabled;
    ranged = v.ranged;
    within = v.within;
    begins = v.begins;
  }

  abbrev pub cut_left : {N : ℕ} (v : Running N) (more : ℕ) → v.more ≡ more → ℕ → List ℕ
      → Running N
  cut_left v zero is c printed = v
  cut_left v (suc n) is c printed = halve v n is c printed

  abbrev pub cut_host : {N : ℕ} (v : Running N) (w : d.S.World) → List Mark → ℕ → List ℕ
      → d.S.since w ≤ v.start.ticks → Running N
  cut_host v w [] c printed begins = cut_left v v.more refl c printed
  cut_host v w (m ∷ ms) c printed begins = record v {
    piece = Host (d.S.cut w c printed);
    begins = omega (arith, d.early w c printed, begins);
  }

  abbrev pub cut_piece : {N : ℕ} (v : Running N) (i : Piece d.S.World) → ℕ → List ℕ
      → since_of d i ≤ v.start.ticks → Running N
  cut_piece v (Host w) c printed begins = cut_host v w (d.S.marks w) c printed begins
  cut_piece v (Apart part) c printed begins = cut_left v v.more refl c printed

  abbrev pub cut_running : {N : ℕ} → Running N → ℕ → List ℕ → Running N
  cut_running v c printed = cut_piece v v.piece c printed v.begins

  -- ---- what is owed

  -- the rest of a run that an iteration gives, of what it gives
  abbrev pub IsRestOf : {N : ℕ} → Running N → Result → Type 0
  IsRestOf v r = (ns : List Note) × (noting ns r ≡ result (running_of v))

  pub fewer_rest : {N : ℕ} (v : Running N) (ns : List Note) (r : Result) → IsRestOf v (noting ns r)
      → IsRestOf v r
  fewer_rest v ns r rest = (rest.0 ++ ns, noting_twice rest.0 ns r ∙ rest.1)

  abbrev pub behind_promise : (N : ℕ) → Promise code heartbeat (Running N)
  behind_promise N = following code heartbeat (pieces d) (λ v. v.piece) (λ v s. follows v s)

  abbrev pub running_promise : (N : ℕ) → Promise code heartbeat (Running N)
  running_promise N =
      knowing code heartbeat (behind_promise N) (λ v r. IsRestOf v r) fewer_rest

  -- ---- what is kept

  -- What is kept on the stack while an iteration runs: what its world keeps, the levels of calls,
  -- the record of the piece's end, the next iteration, the bound, the loop's variable, and the
  -- variables that aren't reduced. What a side holds serves the iterations.
  pub record KeptRunning {N : ℕ} (v : Running N) (s : StackValue) : Type 0 where
    pub outer : outer_of d v.piece s
    pub levels : word_at s (pos (z + levels_cell)) ≡ Some (Int (pos d.S.levels))
    pub rec : word_at s (pos (z + d.q.site.rec)) ≡ Some (rec_of d v.piece)
    pub cursor : word_at s (pos (z + d.q.site.cursor)) ≡ Some (Int (v.from +ℤ pos 1))
    pub bound : word_at s (pos (z + d.q.site.bound)) ≡ Some (Int v.to)
    pub next : word_at s (pos (z + value_cell level)) ≡ Some (Int v.from)
    pub fixed : AreFixed d.q.loop.reduces.items s z 0 v.start.vars
    pub enough : enough_of d v.piece v.start.vars v.from v.to

  -- the cells of the activation that an iteration may change below its own
  pub record MayRunning (c : ℕ) : Type 0 where
    pub no_next : c ≢ value_cell level
    pub no_bound : c ≢ d.q.site.bound
    pub no_cursor : c ≢ d.q.site.cursor
    pub no_rec : c ≢ d.q.site.rec
    pub no_levels : c ≢ levels_cell
    pub free : IsFree d.q.loop.reduces.items d.q.names 0 c
    pub may : d.S.may c

  pub stable_running : {N : ℕ} (v : Running N) (other : ℕ) (s t : StackValue) → suc level ≤ other
      → Same z MayRunning other s t → KeptRunning v s → KeptRunning v t
  stable_running v other s t low same h = record {
    outer = outer_stable d v.piece s t
        (record {
          base = same.base;
          at = λ a lt others. same.at a (omega (arith, low, lt)) (λ c free. others c free.may);
        }) h.outer;
    levels = same.at (z + levels_cell) (omega (arith, low))
        (λ c free e. free.no_levels (omega (arith, e))) ∙ h.levels;
    rec = same.at (z + d.q.site.rec) (omega (arith, low, rec_is d, d.q.nested))
        (λ c free e. free.no_rec (omega (arith, e))) ∙ h.rec;
    cursor = same.at (z + d.q.site.cursor) (omega (arith, low, cursor_is d, d.q.nested))
        (λ c free e. free.no_cursor (omega (arith, e))) ∙ h.cursor;
    bound = same.at (z + d.q.site.bound) (omega (arith, low, bound_is d))
        (λ c free e. free.no_bound (omega (arith, e))) ∙ h.bound;
    next = same.at (z + value_cell level) (omega (arith, low))
        (λ c free e. free.no_next (omega (arith, e))) ∙ h.next;
    fixed = fixed_same d.q.loop.reduces.items s t z 0 v.start.vars
        (λ x below others. same.at (z + value_cell x) (omega (arith, low, below, many))
        (λ c free e. others c (rw v.named free.free) (omega (arith, e)))) h.fixed;
    enough = h.enough;
  }
    where
      many : length v.start.vars ≡ level
      many = as_many v.start.vars d.q.names v.named

  -- the tables differ from those at the iteration's begin where it may write alone
  abbrev pub can_running : {N : ℕ} → Running N → List Table → Type 0
  can_running v ts = can_of d v.piece ts × Changed (own_written v) v.start.tables ts

  abbrev pub around_running : (N : ℕ) → Surroundings (Running N)
  around_running N = record {
    marks = λ v. marks_of d (are_any v.more) v.piece;
    goal = λ v. goal_of d v.piece;
    before = λ v. before_of d v.piece;
    since = λ v. since_of d v.piece;
    region = λ v. region_of d v.piece;
    kept = λ v s. KeptRunning v s;
    can = λ v ts. can_running v ts;
  }

  -- ---- what it touches

  pub rules_at : {N : ℕ} (v : Running N) → Lawful d.p d.q.modes (var_names v.start.vars) d.q.loop
  rules_at v =
      subst (λ (names : List (List ℕ)). Lawful d.p d.q.modes names d.q.loop) (sym v.named) d.rules

  -- the running iteration writes only its own cells
  abbrev below_own : {N : ℕ} → Running N → Cells
  below_own v = Written (Below (v.from +ℤ pos 1)) v.start.vars (modes_in d.q.modes d.q.loop)

  abbrev from_own : {N : ℕ} → Running N → Cells
  from_own v = Written (From v.from) v.start.vars (modes_in d.q.modes d.q.loop)

  notes_below : {N : ℕ} (v : Running N)
      → NotesKeep (Seen (Below (v.from +ℤ pos 1)) v.start.vars (modes_in d.q.modes d.q.loop))
      (below_own v) (running_of v).notes
  unfolding iterate
  notes_below v =
      notes_alone _ (below_own v) (running_of v).stop (running_of v) refl
      (lower_kept d.p d.q.modes d.q.loop d.fuel d.room [] [] 1 v.from (v.from +ℤ pos 1) v.start
      (rules_at v) tt tt (omega (arith, ints))).notes

  notes_from : {N : ℕ} (v : Running N)
      → NotesKeep (Seen (From v.from) v.start.vars (modes_in d.q.modes d.q.loop)) (from_own v)
      (running_of v).notes
  unfolding iterate
  notes_from v =
      notes_alone _ (from_own v) (running_of v).stop (running_of v) refl
      (upper_kept d.p d.q.modes d.q.loop d.fuel d.room [] [] 1 v.from v.from v.start (rules_at v) tt
      tt (omega (arith, ints))).notes

  pub writes_own : {N : ℕ} (v : Running N) (r : Result) (t : List ℕ) (a b : ℤ)
      → IsRestOf v (noting (Writes t a b ∷ []) r) → own_written v t a b
  writes_own v r t a b rest =
      own_write v.from v.start.vars (modes_in d.q.modes d.q.loop t) a b
      (writes_kept (Seen (Below (v.from +ℤ pos 1)) v.start.vars (modes_in d.q.modes d.q.loop))
      (below_own v) rest.0 t a b r.notes
      (subst (NotesKeep (Seen (Below (v.from +ℤ pos 1)) v.start.vars
      (modes_in d.q.modes d.q.loop)) (below_own v)) (sym noted) (notes_below v)))
      (writes_kept (Seen (From v.from) v.start.vars (modes_in d.q.modes d.q.loop)) (from_own v)
      rest.0 t a b r.notes
      (subst (NotesKeep (Seen (From v.from) v.start.vars (modes_in d.q.modes d.q.loop))
      (from_own v)) (sym noted) (notes_from v)))
    where
      noted : rest.0 ++ Writes t a b ∷ r.notes ≡ (running_of v).notes
      noted = ap (λ (q : Result). q.notes) rest.1

  pub covers_running : {N : ℕ} (v : Running N) (r : Result) → (running_promise N).given v r
      → AllByRecursion (Covers (region_of d v.piece)) r.notes
  covers_running v r given =
      all_front (Covers (region_of d v.piece)) r.notes (notes_behind r (follows v))
      (subst (AllByRecursion (Covers (region_of d v.piece))) (notes_then r (follows v))
      (covers_of d v.piece (then r (follows v)) given.0))

  pub allows_running : {N : ℕ} (v : Running N) (t : List ℕ) (a b n : ℤ) (ts : List Table)
      (r : Result) → has_cell (table_of ts t) a b ≡ true
      → (running_promise N).given v (noting (Writes t a b ∷ []) r) → can_running v ts
      → can_running v (write_cell ts t a b n)
  allows_running v t a b n ts r has given can = (
    allows_of d v.piece t a b n ts (then r (follows v)) has
        (subst ((pieces d).given v.piece) (noting_then (Writes t a b ∷ []) r (follows v)) given.0)
        can.0,
    changed_trans (own_written v) v.start.tables ts (write_cell ts t a b n) can.1
        (changed_write (own_written v) ts t a b n has (writes_own v r t a b given.1)),
  )

  module _ (N : ℕ) where
    -- what is asked of a handler there
    abbrev pub Handles : Type 0
    Handles =
        (v : Running N) (more : List Mark) (r : Result) (st : meaning.State)
        (state : machine.State) → (marks_of d (are_any v.more) v.piece ≡ [] → ⊥)
        → AllByRecursion (StandsFrom (z + value_cell (suc level))) more
        → IsDiverted d.S.dispatch state
        → RunsIn z act.size d.S.fuel (facts (around_running N) v) more st state
        → ((u : machine.State) → GoesBack code state u → IsUncut state u
        → ((running_promise N).owing v r).Holds u)
        → ((c : ℕ) (u : machine.State) → GoesBack code state u
        → Near z MayRunning (suc level) state.stack u.stack
        → RunsIn z act.size d.S.fuel (facts (around_running N) (cut_running v c st.output)) more st
        u
        → ((running_promise N).owing (cut_running v c st.output) r).Holds u)
        → ((running_promise N).diverted v r).Holds state

    abbrev pub running : Handles → Scene code heartbeat z
    running handles = record {
      World = Running N;
      levels = d.S.levels;
      fuel = d.S.fuel;
      dispatch = d.S.dispatch;
      size = act.size;
      promise = running_promise N;
      around = around_running N;
      lowest = suc level;
      may = MayRunning;
      cut = λ v c printed. cut_running v c printed;
      registers = [];
      high = tt;
      unlike = tt;
      under = λ i d below. absurd (omega (arith, below));
      sized = λ i d below. absurd (omega (arith, below));
      stable = stable_running;
      below = λ v. clear_of d (are_any v.more) v.piece;
      stops = λ v stop st state last early ticks printed ends step_is known.
          stops_of d v.piece stop st state last early ticks printed ends step_is;
      stopped = λ v stop st output early printed. stopped_of d v.piece stop st output early printed;
      covers = covers_running;
      allows = allows_running;
      is_open = true;
      handles = λ opened. handles;
    }
