-- The scene of the first function of a pair of calls: in front of its caller, whose mark stands, or
-- as the left of a cut, which has nothing of its caller.
use Rattle.std.proofs.Common.{◌<◌, ◌≡◌, ℕ, ◌+◌, ◌≤◌, Bool, true, false, List, [], ◌∷◌, ◌++◌, Some}
use Rattle.std.proofs.Common.{length, refl, sym, subst, ◌∙◌, append_assoc, arith}
use Rattle.std.specs.Prelude.{ℤ, pos, nat_le, ⊤}
use Rattle.std.specs.List.{AllByRecursion}
use Rattle.std.proofs.lemmas.Bool.Decides.{nat_tests}
use Rattle.stack_marks.specs.declared.mark.Mark.{Mark}
use Rattle.stack_marks.specs.Stacks.{StackValue, word_at}
use Rattle.tp_value.specs.declared.Stop.{Stop}
use Rattle.tp_value.specs.declared.Table.{Table}
use Rattle.loop_meaning.specs.State as meaning
use Rattle.loop_meaning.specs.State.{Note, Ran, Writes, has_cell, table_of, write_cell}
use Rattle.loop_meaning.specs.Statements.{Called}
use Rattle.tpal_syntax.specs.declared.sites.CallSite.{CallSite}
use Rattle.tpal_syntax.specs.declared.words.Word.TheVariants as word
use Rattle.tpal_syntax.specs.Listing.{Listing}
use Rattle.tpal_machine.specs.declared.ends.Goal.{Goal}
use Rattle.tpal_machine.specs.declared.ends.Goal.TheVariants as goal
use Rattle.tpal_machine.specs.declared.ends.SideName.TheVariants.{Left}
use Rattle.tpal_machine.specs.Effect.{is_marked_from}
use Rattle.tpal_machine.specs.Ended.{ended}
use Rattle.tpal_machine.specs.Merge.{ended_together}
use Rattle.tpal_machine.specs.State as machine
use Rattle.tpal_machine.specs.Step.{Ends, step}
use Rattle.frame_machine.specs.FrameLaws.{WholeCells}
use Rattle.frame_machine.specs.Iterating.{NoCell}
use Rattle.frame_machine.specs.Modes.{Modes}
use Rattle.frame_machine.specs.Modes as mode
use Rattle.frame_machine.specs.Parts.{NotesKeep}
use Rattle.handler_gen.specs.CallCuts.{call_mark}
use Rattle.handler_gen.specs.Sites.{left_end_label, target_label}
use Rattle.scene_laws.specs.Layout.{Activation, kept_cell, kept_mark, return_cell, value_cell}
use Rattle.form_laws.specs.Functions.{HasRoom}
use Rattle.scene_laws.proofs.Scenes.Activations.{StandsFrom, marks_from}
use Rattle.form_laws.proofs.Forms.Calls.{Caller, Kept, Keeping, clear, follows, kept_near}
use Rattle.form_laws.proofs.Forms.Calls.{kept_same}
use Rattle.form_laws.proofs.Forms.Calls.{near_up}
use Rattle.scene_laws.proofs.Scenes.Changing.{later_kept}
use Rattle.scene_laws.proofs.Pairs.PairPromises.{call_promise, call_stops, early_ending}
use Rattle.scene_laws.proofs.Pairs.PairPromises.{where_given}
use Rattle.scene_laws.proofs.Pairs.PairRuns.{call_end}
use Rattle.scene_laws.proofs.Cuts.Parts.{shared_extent}
use Rattle.scene_laws.proofs.Scenes.Pieces.{Apart, Host, Piece, either_promise}
use Rattle.scene_laws.proofs.Scenes.Promises.{Promise, following}
use Rattle.scene_laws.proofs.Scenes.Regions.{Covers, Extent, Has, IsWholly, Region, Unknown}
use Rattle.scene_laws.proofs.Scenes.Regions.{Wholly}
use Rattle.scene_laws.proofs.Scenes.Regions.{all_front}
use Rattle.scene_laws.proofs.Scenes.Results.{Result, noting, notes_behind, notes_then, out, then}
use Rattle.scene_laws.proofs.Scenes.Scene.{GoesBack, IsDiverted, IsEarly, IsUncut, Near, RunsIn}
use Rattle.scene_laws.proofs.Scenes.Scene.{Same}
use Rattle.scene_laws.proofs.Scenes.Scene.{Scene, Surroundings, facts, header}
use Rattle.form_laws.proofs.Premises.Serving.{wholly_cell}
use Rattle.scene_laws.proofs.Cuts.Sides.{Part}
use Rattle.scene_laws.proofs.Scenes.Tables.{table_names}
use Rattle.form_laws.proofs.Marks.{clear_both}

-- what a side holds of the tables, where a task that isn't cut by tables holds this
abbrev pub shared_region : Region → Region
shared_region region t = shared_extent (region t)

pub shared_wholly : (e : Extent) → IsWholly e → IsWholly (shared_extent e)
shared_wholly Wholly whole = tt
shared_wholly (Has test) whole = absurd whole
shared_wholly Unknown whole = absurd whole

-- what may be read anywhere in these modes is held wholly
abbrev pub HoldsWhole : Modes → Region → Type 0
HoldsWhole m region = (t : List ℕ) → m t ≡ mode.Whole → IsWholly (region t)

pub shared_holds : (m : Modes) (region : Region) → HoldsWhole m region
    → HoldsWhole m (shared_region region)
shared_holds m region holds = λ t is. shared_wholly (region t) (holds t is)

-- what is read of such tables alone is held
pub covered : (m : Modes) (region : Region) → HoldsWhole m region → (ns : List Note)
    → NotesKeep (WholeCells m) NoCell ns → AllByRecursion (Covers region) ns
covered m region holds [] keeps = tt
covered m region holds (meaning.Reads t i j ∷ ns) keeps =
    (wholly_cell (region t) i j (holds t keeps.0), covered m region holds ns keeps.1)
covered m region holds (meaning.Writes t i j ∷ ns) keeps = absurd keeps.0
covered m region holds (meaning.Emits t ∷ ns) keeps = absurd keeps.0
covered m region holds (meaning.Chance ∷ ns) keeps = (tt, covered m region holds ns keeps.1)

-- the left of a cut under a record, where there were so many ticks at least, so much was printed,
-- and this is held of tables
abbrev pub left_part_of : ℕ → ℕ → List ℕ → Region → Part
left_part_of k since printed region =
    record { which = Left; rec = k; before = printed; since = since; region = region }

module _ (code : Listing) (heartbeat z : ℕ) (act : Activation) (fuel : ℕ)
    (S : Scene code heartbeat z) (names : List (List ℕ)) (lowest : S.lowest ≤ length names)
    (has_room : HasRoom act) (A : Type 0) (kept : Keeping code heartbeat z act fuel S names A)
    (next_in : A → ℤ → meaning.State → Ran) (k : meaning.State → Result) (room between : ℕ)
    (site : CallSite) (mark_is : site.mark ≡ kept_cell act kept_mark)
    (fits : site.mark < act.size) (first_call : A → meaning.State → Called)
    (modes : Modes) where
  abbrev pub Calling : Type 0
  Calling = Caller code heartbeat z act fuel S names A

  abbrev pub World : Type 0
  World = Piece Calling

  abbrev KeptCaller : Calling → StackValue → Type 0
  KeptCaller = Kept code heartbeat z act fuel S names lowest has_room A kept next_in k room between

  -- ---- what it owes

  -- what follows the first function in a world
  abbrev pub behind_first : Calling → meaning.State → Result
  behind_first =
      follows code heartbeat z act fuel S names lowest has_room A kept next_in k room between

  -- the result is that of the first call, or what is left of it; the call was made within the fuel
  pub record IsFirst (w : Calling) (r : Result) : Type 0 where
    pub ends : r.end ≡ call_end (first_call w.value w.state)
    pub keeps : NotesKeep (WholeCells modes) NoCell r.notes
    pub within : w.state.ticks ≤ fuel
    pub tabled : table_names w.state.tables ≡ act.tables

  pub fewer_first : (w : Calling) (ns : List Note) (r : Result) → IsFirst w (noting ns r) →
      IsFirst w r
  fewer_first w ns r given = record {
    ends = given.ends;
    keeps = later_kept (WholeCells modes) NoCell ns r.notes given.keeps;
    within = given.within;
    tabled = given.tabled;
  }

  abbrev pub whole_promise : Promise code heartbeat Calling
  whole_promise = following code heartbeat S.promise (λ w. w.world) behind_first

  abbrev pub caller_promise : Promise code heartbeat Calling
  caller_promise = where_given code heartbeat whole_promise IsFirst
      fewer_first

  abbrev pub firsts : Promise code heartbeat World
  firsts =
      either_promise code heartbeat caller_promise
      (call_promise code heartbeat (λ (p : Part). p))

  -- ---- what its task is like

  abbrev pub own : List Mark
  own = call_mark site z ∷ []

  abbrev pub marks_of : World → List Mark
  marks_of (Host w) = S.marks w.world ++ own
  marks_of (Apart p) = []

  abbrev pub goal_of : World → Goal
  goal_of (Host w) = S.goal w.world
  goal_of (Apart p) = goal.At p.rec p.which (target_label site.label)

  abbrev pub before_of : World → List ℕ
  before_of (Host w) = S.before w.world
  before_of (Apart p) = p.before

  abbrev pub since_of : World → ℕ
  since_of (Host w) = S.since w.world
  since_of (Apart p) = p.since

  abbrev pub region_of : World → Region
  region_of (Host w) = S.region w.world
  region_of (Apart p) = p.region

  -- a left will return to where it ends, and has its record; it holds what may be read anywhere
  pub record KeptLeft (p : Part) (s : StackValue) : Type 0 where
    pub label : word_at s (pos (z + act.size + return_cell))
        ≡ Some (word.Label (left_end_label site.label))
    pub rec : word_at s (pos (z + act.size + 1)) ≡ Some (word.Rec p.rec)
    pub whole : HoldsWhole modes p.region

  abbrev pub kept_of : World → StackValue → Type 0
  kept_of (Host w) s = KeptCaller w s
  kept_of (Apart p) s = KeptLeft p s

  abbrev pub can_of : World → List Table → Type 0
  can_of (Host w) ts = S.can w.world ts × (ts ≡ w.state.tables)
  can_of (Apart p) ts = ⊤

  abbrev pub around : Surroundings World
  around = record {
    marks = marks_of;
    goal = goal_of;
    before = before_of;
    since = since_of;
    region = region_of;
    kept = kept_of;
    can = can_of;
  }

  -- the left of a cut of its world
  abbrev pub left_in : Calling → ℕ → List ℕ → Part
  left_in w n printed =
      left_part_of n (S.since w.world) printed (shared_region (S.region w.world))

  -- where the caller's mark is the oldest the left of a cut goes on, else its world is cut
  abbrev pub cut_by : List Mark → Calling → ℕ → List ℕ → World
  cut_by [] w n printed = Apart (left_in w n printed)
  cut_by (m ∷ ms) w n printed = Host (record w { world = S.cut w.world n printed })

  abbrev pub cut_first : World → ℕ → List ℕ → World
  cut_first (Host w) n printed = cut_by (S.marks w.world) w n printed
  cut_first (Apart p) n printed = Apart p

  -- a cut moves no begin, where none does of what goes on round the pair
  pub early_first : ((w : S.World) (n : ℕ) (printed : List ℕ)
      → S.since (S.cut w n printed) ≤ S.since w)
      → (i : World) (n : ℕ) (printed : List ℕ) → since_of (cut_first i n printed) ≤ since_of i
  early_first early (Host w) n printed = by_marks (S.marks w.world)
    where
      by_marks : (ms : List Mark) → since_of (cut_by ms w n printed) ≤ S.since w.world
      by_marks [] = omega arith
      by_marks (m ∷ ms) = early w.world n printed
  early_first early (Apart p) n printed = omega arith

  -- ---- stacks

  pub stable_of : (i : World) (level : ℕ) (s t : StackValue) → 0 ≤ level
      → Same (z + act.size) (λ c. header ≤ c) level s t → kept_of i s → kept_of i t
  stable_of (Host w) level s t low same h =
      kept_same code heartbeat z act fuel S names lowest has_room A kept next_in k room between w s
      t
      same.base (λ a lt. same.at a (omega (arith, lt)) (λ c m q. absurd (omega (arith, lt, q, m))))
      h
  stable_of (Apart p) level s t low same h = record {
    label = same.at (z + act.size + return_cell) (omega arith)
        (λ c m q. absurd (omega (arith, q, m))) ∙ h.label;
    rec = same.at (z + act.size + 1) (omega arith) (λ c m q. absurd (omega (arith, q, m))) ∙ h.rec;
    whole = h.whole;
  }

  clear_own : (a : ℕ) → z + act.size ≤ a → is_marked_from own a ≡ false
  clear_own a from =
      let is : nat_le a (z + site.mark) ≡ false =
      grind (arith, nat_tests, from, mark_is, fits) in
      rw is refl

  pub clear_first : (i : World) (a : ℕ) → z + act.size ≤ a → is_marked_from (marks_of i) a ≡ false
  clear_first (Host w) a from =
      clear_both (S.marks w.world) own a
      (clear code heartbeat z act fuel S names lowest has_room A kept next_in k room between w a
      from)
      (clear_own a from)
  clear_first (Apart p) a from = refl

  -- ---- stops

  pub stops_of : (i : World) (stop : Stop) (st : meaning.State) (state last : machine.State)
      → IsEarly stop → last.fuel.ticks ≡ st.ticks → st.output ≡ before_of i ++ last.output
      → last.goal ≡ goal_of i
      → ((allowed : Bool) → step code heartbeat allowed state ≡ Ends (ended code stop last))
      → (firsts.owing i (out stop st)).Holds state
  stops_of (Host w) stop st state last early ticks printed ends step_is =
      λ given. S.stops w.world stop st state last early ticks printed ends step_is
  stops_of (Apart p) stop st state last early ticks printed ends step_is =
      call_stops code heartbeat (λ (part : Part). part) p (target_label site.label) stop st
      state
      last early ticks printed ends step_is

  pub stopped_of : (i : World) (stop : Stop) (st : meaning.State) (output : List ℕ) → IsEarly stop
      → st.output ≡ before_of i ++ output
      → firsts.ending i (out stop st) ≡ ended_together (goal_of i) stop st.ticks output
  stopped_of (Host w) stop st output early printed = S.stopped w.world stop st output early printed
  stopped_of (Apart p) stop st output early printed =
      early_ending p (target_label site.label) stop st output early printed

  -- ---- cells

  pub covers_of : (i : World) (r : Result) → firsts.given i r
      → AllByRecursion (Covers (region_of i)) r.notes
  covers_of (Host w) r given =
      all_front (Covers (S.region w.world)) r.notes (notes_behind r (behind_first w))
      (subst (AllByRecursion (Covers (S.region w.world))) (notes_then r (behind_first w))
      (S.covers w.world (then r (behind_first w)) given.1))
  covers_of (Apart p) r given = given

  pub allows_of : (i : World) (t : List ℕ) (a b n : ℤ) (ts : List Table) (r : Result)
      → has_cell (table_of ts t) a b ≡ true → firsts.given i (noting (Writes t a b ∷ []) r)
      → can_of i ts → can_of i (write_cell ts t a b n)
  allows_of (Host w) t a b n ts r has given can = absurd given.0.keeps.0
  allows_of (Apart p) t a b n ts r has given can = tt

  -- ---- the handlers of what goes on round the pair

  abbrev pub RunsFirst : World → List Mark → meaning.State → machine.State → Type 0
  RunsFirst i more st state = RunsIn (z + act.size) header S.fuel (facts around i) more st state

  own_from : (w : Calling) → StandsFrom (z + value_cell S.lowest) (call_mark site z)
  own_from w = omega (arith, lowest, w.few, mark_is)

  outer_runs : (w : Calling) (more : List Mark) (st : meaning.State) (state : machine.State)
      → RunsFirst (Host w) more st state
      → RunsIn z S.size S.fuel (facts S.around w.world) (call_mark site z ∷ more) st state
  outer_runs w more st state runs = record {
    many = runs.many;
    limit = runs.limit;
    ticks = runs.ticks;
    within = runs.within;
    begun = runs.begun;
    printed = runs.printed;
    ends = runs.ends;
    free = runs.free;
    unmet = runs.unmet;
    marked = runs.marked ∙ append_assoc (S.marks w.world) own more;
    held = runs.held;
    can = runs.can.0;
    ranged = runs.ranged;
    low = runs.keeps.low;
    tall = omega (arith, runs.tall, w.tall);
    keeps = runs.keeps.keeps;
  }

  inner_runs : (w : Calling) (more : List Mark) (st : meaning.State) (state u : machine.State)
      (n : ℕ) → RunsFirst (Host w) more st state → Near z S.may S.lowest state.stack u.stack
      → RunsIn z S.size S.fuel (facts S.around (S.cut w.world n st.output))
      (call_mark site z ∷ more)
      st u
      → RunsFirst (Host (record w { world = S.cut w.world n st.output })) more st u
  inner_runs w more st state u n runs near runs_u = record {
    many = runs_u.many;
    limit = runs_u.limit;
    ticks = runs_u.ticks;
    within = runs_u.within;
    begun = runs_u.begun;
    printed = runs_u.printed;
    ends = runs_u.ends;
    free = runs_u.free;
    unmet = runs_u.unmet;
    marked = runs_u.marked ∙ sym (append_assoc (S.marks (S.cut w.world n st.output)) own more);
    held = runs_u.held;
    can = (runs_u.can, runs.can.1);
    ranged = runs_u.ranged;
    low = omega (arith, runs_u.low);
    tall = omega (arith, runs.tall, near.top);
    keeps =
        kept_near code heartbeat z act fuel S names lowest has_room A kept next_in k room between
        w (S.cut w.world n st.output) state.stack u.stack near runs_u.keeps runs.keeps;
  }

  -- what is owed where the pair's own mark is the oldest
  abbrev pub OwnCutOwed : Type 0
  OwnCutOwed =
      (w : Calling) (more : List Mark) (r : Result) (st : meaning.State) (state : machine.State)
      → S.marks w.world ≡ []
      → AllByRecursion (StandsFrom (z + act.size + value_cell 0)) more
      → IsDiverted S.dispatch state → RunsFirst (Host w) more st state → IsFirst w r
      → ((u : machine.State) → GoesBack code state u → IsUncut state u
      → (firsts.owing (Host w) r).Holds u)
      → ((n : ℕ) (u : machine.State) → GoesBack code state u
      → Near (z + act.size) (λ c. header ≤ c) 0 state.stack u.stack
      → RunsFirst (Apart (left_in w n st.output)) more st u
      → (firsts.owing (Apart (left_in w n st.output)) r).Holds u)
      → (S.diverted w.world (then r (behind_first w))).Holds state

  module _ (own_cut : OwnCutOwed) where
    pub handles_of : S.is_open ≡ true → (i : World) (more : List Mark) (r : Result)
        (st : meaning.State) (state : machine.State) → (marks_of i ≡ [] → ⊥)
        → AllByRecursion (StandsFrom (z + act.size + value_cell 0)) more
        → IsDiverted S.dispatch state → RunsFirst i more st state
        → ((u : machine.State) → GoesBack code state u → IsUncut state u
        → (firsts.owing i r).Holds u)
        → ((n : ℕ) (u : machine.State) → GoesBack code state u
        → Near (z + act.size) (λ c. header ≤ c) 0 state.stack u.stack
        → RunsFirst (cut_first i n st.output) more st u
        → (firsts.owing (cut_first i n st.output) r).Holds u)
        → (firsts.diverted i r).Holds state
    handles_of opened (Apart p) more r st state marked from diverted runs back cut =
        absurd (marked refl)
    handles_of opened (Host w) more r st state marked from diverted runs back cut =
        by_marks (S.marks w.world) refl cut
      where
        by_marks : (ms : List Mark) → S.marks w.world ≡ ms
            → ((n : ℕ) (u : machine.State) → GoesBack code state u
            → Near (z + act.size) (λ c. header ≤ c) 0 state.stack u.stack
            → RunsFirst (cut_by ms w n st.output) more st u
            → (firsts.owing (cut_by ms w n st.output) r).Holds u)
            → (firsts.diverted (Host w) r).Holds state
        by_marks [] none cut_here =
            λ given. own_cut w more r st state none from diverted runs given back cut_here
        by_marks (m ∷ ms) is cut_here =
            λ given. S.handles opened w.world (call_mark site z ∷ more) (then r (behind_first w)) st
            state (λ none. let wrong : m ∷ ms ≡ [] = sym is ∙ none in cc) (
              own_from w,
              marks_from more (z + value_cell S.lowest) (z + act.size + value_cell 0)
                  (omega (arith, lowest, w.few, has_room.room)) from,
            ) diverted
            (outer_runs w more st state runs)
            (λ u gone uncut. back u gone uncut given)
            (λ n u gone near runs_u. cut_here n u gone
            (near_up code heartbeat z act fuel S names lowest has_room A kept next_in k room between
            w
            state.stack u.stack near) (inner_runs w more st state u n runs near runs_u)
            (record {
              ends = given.ends;
              keeps = given.keeps;
              within = given.within;
              tabled = given.tabled;
            }))

    abbrev pub first_scene : Scene code heartbeat (z + act.size)
    first_scene = record {
      World = World;
      levels = room;
      fuel = S.fuel;
      dispatch = S.dispatch;
      size = header;
      promise = firsts;
      around = around;
      lowest = 0;
      may = λ c. header ≤ c;
      cut = cut_first;
      registers = [];
      high = tt;
      unlike = tt;
      under = λ i d below. absurd (omega (arith, below));
      sized = λ i d below. absurd (omega (arith, below));
      stable = stable_of;
      below = λ i. clear_first i (z + act.size + value_cell 0) (omega arith);
      stops = stops_of;
      stopped = stopped_of;
      covers = covers_of;
      allows = allows_of;
      is_open = S.is_open;
      handles = handles_of;
    }
