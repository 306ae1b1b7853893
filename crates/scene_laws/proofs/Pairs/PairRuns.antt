-- Two calls side by side: what the first one leaves, and how both sides merge to the whole.
use Rattle.std.proofs.Common.{◌≡◌, ℕ, ◌+◌, ◌≤◌, Bool, true, false, cond, List, [], ◌∷◌, ◌++◌}
use Rattle.std.proofs.Common.{length, Some, drop, refl, ap, sym, ◌∙◌, append-nil, arith}
use Rattle.std.specs.Prelude.{ℤ, slice_get}
use Rattle.std.specs.List.{All}
use Rattle.std.proofs.lemmas.List.Elements.{All-cons, All-nil}
use Rattle.beat_count.specs.Joining.{joined_stop, joined_ticks}
use Rattle.tp_value.specs.declared.limits.TheConstants.{MAX_CALL_DEPTH}
use Rattle.tp_value.specs.declared.Place.{Place}
use Rattle.tp_value.specs.declared.Stop.{Stop}
use Rattle.tp_value.specs.declared.Stop.TheVariants.{Done, Left, NoFuel, Trap}
use Rattle.loop_syntax.specs.declared.Program.{Program}
use Rattle.loop_meaning.specs.Calls.{call_at}
use Rattle.loop_meaning.specs.Frames.{one_call, two_calls_of}
use Rattle.loop_meaning.specs.Only.{IsNeverLeft}
use Rattle.loop_meaning.specs.State as meaning
use Rattle.loop_meaning.specs.State.{Chance, Emits, Note, Ran, Reads, Writes, after}
use Rattle.loop_meaning.specs.Statements.{Called}
use Rattle.loop_meaning.proofs.Spending.{Sound, sound_call}
use Rattle.tpal_syntax.specs.declared.sites.CallSite.{CallSite}
use Rattle.tpal_syntax.specs.declared.words.Word.{Word}
use Rattle.tpal_syntax.specs.declared.words.Word.TheVariants.{Int, Rec}
use Rattle.tpal_syntax.specs.Listing.{Listing}
use Rattle.tpal_machine.specs.Belongs.{IsWordOf, RestBelongsTo, SideBelongsTo}
use Rattle.tpal_machine.specs.declared.ends.Side.{Side}
use Rattle.tpal_machine.specs.Ended.{is_done}
use Rattle.tpal_machine.specs.Merge.{AreSides, Ends, Goes, IsSideOf, Joined, MergeOf}
use Rattle.tpal_machine.specs.Merge.{ended_together, joined, joined_by, joined_output, merged_task}
use Rattle.tpal_machine.specs.Reading.{the_target}
use Rattle.tpal_machine.specs.RestState.{RestState}
use Rattle.frame_machine.specs.FrameLaws.{LawfulCalls, PairJoins, WholeCells, child_start}
use Rattle.frame_machine.specs.Iterating.{NoCell}
use Rattle.frame_machine.specs.Modes.{Modes}
use Rattle.frame_machine.specs.Parts.{NotesKeep}
use Rattle.frame_machine.proofs.Following.{goes_done}
use Rattle.frame_machine.proofs.Pairs.{call_keeps, pair_joins}
use Rattle.handler_gen.specs.Blocks.{call_target}
use Rattle.scene_laws.proofs.Merges.JoinsRuns.{call_never_left}
use Rattle.scene_laws.proofs.Scenes.Called.{value_of, with_value}
use Rattle.scene_laws.proofs.Scenes.Changing.{call_changes}
use Rattle.scene_laws.proofs.Scenes.Results.{End, Fin, Out, end_by}
use Rattle.scene_laws.proofs.Scenes.Scene.{IsEarly}

-- ---- what a call ends with, and the side that it is

-- the end of a call, with its value as the only variable
abbrev pub call_end : Called → End
call_end c = end_by c.ran.stop (with_value c.value c.ran.state)

-- What the side of a call hands over under a record, where so much was printed before: its value
-- and the record, where it is done.
abbrev pub call_side_by : ℕ → List ℕ → End → Side
call_side_by k before (Fin s) = record {
  stop = Done;
  ticks = s.ticks;
  output = drop (length before) s.output;
  words = (0, Int (value_of s)) ∷ (24, Rec k) ∷ [];
  slices = [];
}
call_side_by k before (Out stop ticks output) = record {
  stop = stop;
  ticks = ticks;
  output = drop (length before) output;
  words = [];
  slices = [];
}

abbrev IsIn : Listing → ℕ × Word → Type 0
IsIn code w = IsWordOf code w.1

module _ (k : ℕ) (before : List ℕ) (s : meaning.State) where
  abbrev side : Stop → Side
  side stop = call_side_by k before (end_by stop s)

  side_stop : (stop : Stop) → (side stop).stop ≡ stop
  side_stop Done = refl
  side_stop (Left number) = refl
  side_stop (Trap kind place) = refl
  side_stop NoFuel = refl

  side_ticks : (stop : Stop) → (side stop).ticks ≡ s.ticks
  side_ticks Done = refl
  side_ticks (Left number) = refl
  side_ticks (Trap kind place) = refl
  side_ticks NoFuel = refl

  side_output : (stop : Stop) → (side stop).output ≡ drop (length before) s.output
  side_output Done = refl
  side_output (Left number) = refl
  side_output (Trap kind place) = refl
  side_output NoFuel = refl

  pub side_words : (stop : Stop) → stop ≡ Done
      → (side stop).words ≡ (0, Int (value_of s)) ∷ (24, Rec k) ∷ []
  side_words Done done = refl
  side_words (Left number) done = cc
  side_words (Trap kind place) done = cc
  side_words NoFuel done = cc

  pub side_slices : (stop : Stop) → (side stop).slices ≡ []
  side_slices Done = refl
  side_slices (Left number) = refl
  side_slices (Trap kind place) = refl
  side_slices NoFuel = refl

  is_side : (site : CallSite) (stop : Stop) → IsSideOf (call_target site) (side stop)
  is_side site Done = record { words = refl; slices = refl }
  is_side site (Left number) = record { words = tt; slices = tt }
  is_side site (Trap kind place) = record { words = tt; slices = tt }
  is_side site NoFuel = record { words = tt; slices = tt }

  side_belongs : (code : Listing) (stop : Stop) → SideBelongsTo code (side stop)
  side_belongs code Done =
      All-cons (IsIn code) (0, Int (value_of s)) ((24, Rec k) ∷ []) tt
      (All-cons (IsIn code) (24, Rec k) [] tt (All-nil (IsIn code)))
  side_belongs code (Left number) = All-nil (IsIn code)
  side_belongs code (Trap kind place) = All-nil (IsIn code)
  side_belongs code NoFuel = All-nil (IsIn code)

-- ---- both calls

module _ (p : Program) (m : Modes) (fuel room : ℕ) (f g : List ℕ) (place second_place : Place)
    (rules : LawfulCalls p m f g) (ns ms : List ℤ) (s : meaning.State) (within : s.ticks ≤ fuel)
  where
    abbrev pub call : List ℕ → Place → List ℤ → List Note → meaning.State → Called
    call = call_at p.funcs.items fuel room

    -- the first call, and the second one as a child makes it and behind the first
    abbrev pub low : Called
    low = call f place ns (Chance ∷ []) s

    abbrev pub child_state : meaning.State
    child_state = child_start s.vars s.tables

    abbrev pub up : Called
    up = call g second_place ms [] child_state

    abbrev pub next : meaning.State → Called
    next t = call g second_place ms [] t

    abbrev pub whole : Ran
    whole = after low.ran (λ t. (next t).ran)

    -- where no function has a `leave` of its own they aren't left
    pub whole_stays : room ≤ MAX_CALL_DEPTH → All IsNeverLeft p.funcs.items → (number : ℤ)
        → whole.stop ≡ Left number → ⊥
    whole_stays few never number = by_low low.ran.stop
      where
        low_stays : low.ran.stop ≡ Left number → ⊥
        low_stays = call_never_left p fuel room few never f place ns (Chance ∷ []) s number

        by_low : (stop : Stop)
            → (meaning.go_on stop low.ran (λ t. (next t).ran)).stop ≡ Left number → ⊥
        by_low Done is =
            call_never_left p fuel room few never g second_place ms [] low.ran.state number is
        by_low (Left other) is = low_stays is
        by_low (Trap kind at) is = low_stays is
        by_low NoFuel is = low_stays is

    pub low_output : low.ran.state.output ≡ s.output
    low_output =
        (call_keeps p m fuel room f g rules f rules.first place ns (Chance ∷ []) (tt, tt) s).output

    pub low_vars : low.ran.stop ≡ Done → low.ran.state.vars ≡ s.vars
    low_vars done =
        (call_keeps p m fuel room f g rules f rules.first place ns (Chance ∷ []) (tt, tt) s).vars
        (goes_done done)

    -- they read only tables that are whole, and write nothing
    pub low_keeps : NotesKeep (WholeCells m) NoCell low.ran.notes
    low_keeps =
        (call_keeps p m fuel room f g rules f rules.first place ns (Chance ∷ []) (tt, tt) s).notes

    pub next_keeps : (t : meaning.State) → NotesKeep (WholeCells m) NoCell (next t).ran.notes
    next_keeps t = (call_keeps p m fuel room f g rules g rules.second second_place ms [] tt t).notes

    pub low_tables : low.ran.state.tables ≡ s.tables
    low_tables =
        (call_changes (WholeCells m) NoCell p fuel room f place ns (Chance ∷ []) s low_keeps).none
        (λ t i j none. none)

    pub next_tables : (t : meaning.State) → (next t).ran.state.tables ≡ t.tables
    next_tables t =
        (call_changes (WholeCells m) NoCell p fuel room g second_place ms [] t (next_keeps t)).none
        (λ x i j none. none)

    pub next_output : (t : meaning.State) → (next t).ran.state.output ≡ t.output
    next_output t = (call_keeps p m fuel room f g rules g rules.second second_place ms [] tt t).output

    pub joins : PairJoins fuel s (one_call low) (one_call up) (two_calls_of low next)
    joins = pair_joins p m fuel room f g rules place ns second_place ms s child_state within
        (λ t. record { rows = refl; cols = refl; size = refl; cells = λ i j whole_cell there. refl })
        refl
        refl

    ticks_of : (t : meaning.State) (r : Ran) → Sound fuel t r → r.state.ticks ≤ fuel + 1
    ticks_of t r sound = by_stop r.stop refl
      where
        by_stop : (stop : Stop) → r.stop ≡ stop → r.state.ticks ≤ fuel + 1
        by_stop Done is = let few = sound.within (λ spent. cc) in omega (arith, few)
        by_stop (Left number) is = let few = sound.within (λ spent. cc) in omega (arith, few)
        by_stop (Trap kind at) is = let few = sound.within (λ spent. cc) in omega (arith, few)
        by_stop NoFuel is = omega (arith, sound.spent is)

    low_ticks : low.ran.state.ticks ≤ fuel + 1
    low_ticks =
        ticks_of s low.ran (sound_call p.funcs.items fuel room f place ns (Chance ∷ []) s within)

    up_ticks : up.ran.state.ticks ≤ fuel + 1
    up_ticks = ticks_of child_state up.ran
        (sound_call p.funcs.items fuel room g second_place ms [] child_state (omega arith))

    -- ---- both sides, under the record of a rest

    module _ (code : Listing) (site : CallSite) (rest : RestState) (before : List ℕ)
        (target : the_target code rest.target ≡ call_target site) (limit : rest.limit ≡ fuel)
        (belongs : RestBelongsTo code rest) where
      abbrev pub left_side : Side
      left_side = call_side_by rest.rec before (call_end low)

      abbrev pub right_side : Side
      right_side = call_side_by rest.rec [] (call_end up)

      -- what both have printed
      abbrev pub both_printed : List ℕ
      both_printed = rest.output ++ drop (length before) s.output

      abbrev low_state : meaning.State
      low_state = with_value low.value low.ran.state

      abbrev up_state : meaning.State
      up_state = with_value up.value up.ran.state

      left_stop : left_side.stop ≡ low.ran.stop
      left_stop = side_stop rest.rec before low_state low.ran.stop

      left_ticks_are : left_side.ticks ≡ low.ran.state.ticks
      left_ticks_are = side_ticks rest.rec before low_state low.ran.stop

      right_stop : right_side.stop ≡ up.ran.stop
      right_stop = side_stop rest.rec [] up_state up.ran.stop

      right_ticks_are : right_side.ticks ≡ up.ran.state.ticks
      right_ticks_are = side_ticks rest.rec [] up_state up.ran.stop

      are_sides : AreSides code rest left_side right_side
      are_sides = record {
        left_ticks = omega (arith, left_ticks_are, low_ticks, limit);
        right_ticks = omega (arith, right_ticks_are, up_ticks, limit);
        left_side = rw target (is_side rest.rec before low_state site low.ran.stop);
        right_side = rw target (is_side rest.rec [] up_state site up.ran.stop);
        parts = λ i c is.
            let none : slice_get (call_target site).carries i ≡ Some c =
            ap (λ t. slice_get t.carries i) (sym target) ∙ is in cc;
      }

      printed : joined_output rest left_side right_side ≡ both_printed
      printed =
          ap (λ (bytes : List ℕ). rest.output ++ left_side.output
          ++ cond (is_done left_side.stop) bytes [])
          (side_output rest.rec [] up_state up.ran.stop ∙ next_output child_state)
          ∙ (ap (λ (bytes : List ℕ). rest.output ++ left_side.output ++ bytes)
          (nothing (is_done left_side.stop))
          ∙ (append-nil (rest.output ++ left_side.output)
          ∙ ap (λ (bytes : List ℕ). rest.output ++ bytes)
          (side_output rest.rec before low_state low.ran.stop
          ∙ ap (λ (bytes : List ℕ). drop (length before) bytes) low_output)))
        where
          no_bytes : List ℕ
          no_bytes = []

          nothing : (b : Bool) → cond b no_bytes [] ≡ []
          nothing true = refl
          nothing false = refl

      stops_so : joined_stop left_side.stop left_side.ticks right_side.stop right_side.ticks
          rest.limit
          ≡ whole.stop
      stops_so = rw (left_stop, left_ticks_are, right_stop, right_ticks_are, limit) (sym joins.stop)

      ticks_so : joined_ticks left_side.stop left_side.ticks right_side.stop right_side.ticks
          rest.limit ≡ whole.state.ticks
      ticks_so = rw (left_stop, left_ticks_are, right_stop, right_ticks_are, limit) (sym joins.ticks)

      joined_so : joined code rest left_side right_side
          ≡ joined_by whole.stop whole.state.ticks both_printed (call_target site) rest left_side
          right_side
      joined_so =
          ap (λ stop. joined_by stop
          (joined_ticks left_side.stop left_side.ticks right_side.stop right_side.ticks rest.limit)
          (joined_output rest left_side right_side) (the_target code rest.target) rest left_side
          right_side) stops_so
          ∙ (ap (λ ticks. joined_by whole.stop ticks (joined_output rest left_side right_side)
          (the_target code rest.target) rest left_side right_side) ticks_so
          ∙ (ap (λ out. joined_by whole.stop whole.state.ticks out (the_target code rest.target) rest
          left_side right_side) printed
          ∙ ap (λ t. joined_by whole.stop whole.state.ticks both_printed t rest left_side right_side)
          target))

      merges : (both : Joined)
          → joined_by whole.stop whole.state.ticks both_printed (call_target site) rest left_side
          right_side ≡ both
          → MergeOf code rest left_side right_side both
      merges both gives = record {
        sides = are_sides;
        rest_belongs = belongs;
        left_belongs = side_belongs rest.rec before low_state code low.ran.stop;
        right_belongs = side_belongs rest.rec [] up_state code up.ran.stop;
        gives = joined_so ∙ gives;
      }

      -- both sides merge to a task that goes on where both calls are done
      pub merge_goes : whole.stop ≡ Done
          → MergeOf code rest left_side right_side (Goes (merged_task (call_target site) rest
          left_side right_side whole.state.ticks both_printed))
      merge_goes done =
          merges (Goes (merged_task (call_target site) rest left_side right_side whole.state.ticks
          both_printed)) (ap (λ stop. joined_by stop whole.state.ticks both_printed
          (call_target site) rest left_side right_side) done)

      -- and else end with their stop
      pub merge_ends : IsEarly whole.stop
          → MergeOf code rest left_side right_side (Ends (ended_together rest.goal whole.stop
          whole.state.ticks both_printed))
      merge_ends early =
          merges (Ends (ended_together rest.goal whole.stop whole.state.ticks both_printed))
          (by_stop whole.stop early)
        where
          by_stop : (stop : Stop) → IsEarly stop
              → joined_by stop whole.state.ticks both_printed (call_target site) rest left_side
              right_side
              ≡ Ends (ended_together rest.goal stop whole.state.ticks both_printed)
          by_stop Done early = absurd early
          by_stop (Left number) early = absurd early
          by_stop (Trap kind at) early = refl
          by_stop NoFuel early = refl
