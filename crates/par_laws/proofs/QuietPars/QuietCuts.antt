-- A `par` is cut between two iterations: where its own mark is the oldest, both parts owe their
-- ends, and what these merge to is what the whole piece owes.
use Rattle.std.proofs.Common.{◌≡◌, ℕ, zero, suc, ◌≤◌, Bool, true, false, List, [], ◌∷◌, length}
use Rattle.std.proofs.Common.{take, Some, refl, sym, ap, subst, ◌∙◌, arith}
use Rattle.std.specs.Prelude.{ℤ, pos, ◌+ℤ◌}
use Rattle.std.specs.List.{AllByRecursion}
use Rattle.std.proofs.lemmas.Int.{ints}
use Rattle.beat_count.specs.BeatState.{BeatState}
use Rattle.loop_syntax.specs.declared.Program.{Program}
use Rattle.loop_meaning.specs.declared.value.Variable.{Variable}
use Rattle.loop_meaning.specs.InRange.{InRange}
use Rattle.loop_meaning.specs.State as meaning
use Rattle.loop_meaning.specs.State.{Chance, Ran}
use Rattle.loop_meaning.specs.Statements.{iterate, run_list}
use Rattle.tpal_syntax.specs.declared.instructions.Instr.{Instr}
use Rattle.tpal_syntax.specs.declared.instructions.Instr.TheVariants as instr
use Rattle.tpal_syntax.specs.declared.instructions.Term.{Term}
use Rattle.tpal_syntax.specs.declared.words.Word.{Word}
use Rattle.tpal_syntax.specs.declared.words.Word.TheVariants as word
use Rattle.tpal_syntax.specs.Listing.{Listing}
use Rattle.tpal_machine.specs.declared.ends.Ending.{Ending}
use Rattle.tpal_machine.specs.declared.ends.Ending.TheVariants as ending
use Rattle.tpal_machine.specs.declared.ends.SideName.TheVariants.{Left, Right}
use Rattle.tpal_machine.specs.Owes.{Bound}
use Rattle.tpal_machine.specs.Reading.{block_at, note_of, register}
use Rattle.tpal_machine.specs.State as machine
use Rattle.tpal_syntax.specs.declared.notes.Note.TheVariants as note
use Rattle.expr_lower.specs.Standing.{Remains}
use Rattle.frame_machine.specs.Iterating.{body_setting, iterations_in}
use Rattle.frame_machine.specs.Joins.{names_of}
use Rattle.frame_machine.specs.Lawful.{Lawful}
use Rattle.handler_gen.specs.Halves.{KeepsPlace}
use Rattle.handler_gen.specs.Sites.{back_label, first_label, none_label, over_label, side_label}
use Rattle.handler_gen.proofs.Ready.{diverted_to, goes_in}
use Rattle.join_gen.specs.LoopJoins.{JoinsLoop}
use Rattle.scene_laws.specs.Code.{Opens, to}
use Rattle.scene_laws.specs.Layout.{Activation}
use Rattle.scene_laws.specs.Marked.{side_test, unmark}
use Rattle.scene_laws.proofs.Cuts.AtHandlers.{MergesTo, place_kept}
use Rattle.scene_laws.proofs.Cuts.CutGaps.{Halved, halved}
use Rattle.scene_laws.proofs.Cuts.Gaps.{IsGap, gap_more, gap_none}
use Rattle.scene_laws.proofs.Merges.JoinsModes.{covered}
use Rattle.scene_laws.proofs.Merges.JoinsSides.{child_side, left_side}
use Rattle.scene_laws.proofs.Scenes.Moves.{jumps, opened}
use Rattle.scene_laws.proofs.Cuts.OldestOwed.{PartsOwed, oldest_cut_owed}
use Rattle.scene_laws.proofs.Cuts.OwnWork.{OwnCut, has_iteration, own_child, own_left, own_rest}
use Rattle.scene_laws.proofs.Scenes.Pieces.{Apart, Piece}
use Rattle.scene_laws.proofs.Scenes.Promises.{CanRun, Promise, lesser}
use Rattle.par_laws.proofs.QuietPars.QuietBacks as backs
use Rattle.par_laws.proofs.QuietPars.QuietLoops.{OwnCutOwed, TurnBlocks, Turns}
use Rattle.par_laws.proofs.QuietPars.QuietMerged as merging
use Rattle.par_laws.proofs.QuietPars.QuietSides as sides
use Rattle.par_laws.proofs.QuietPars.QuietSides.{AllowsCuts, IsSplit}
use Rattle.scene_laws.proofs.Scenes.Regions.{Covers, Region}
use Rattle.scene_laws.proofs.Scenes.Results.{Result, fin, result}
use Rattle.scene_laws.proofs.Scenes.Scene.{GoesBack, IsUncut, Scene, ShowsIn}
use Rattle.scene_laws.proofs.Cuts.Sides.{child_region, left_region, side_by}
use Rattle.par_laws.proofs.QuietPars.Turned.{RunsBody, T}
use Rattle.par_laws.proofs.QuietPars.Turning.{ParAt, pieces, region_of}
use Rattle.scene_laws.proofs.Scenes.Variables.{var_names}

module _ (code : Listing) (heartbeat z : ℕ) (act : Activation) (q : ParAt code act)
    (S : Scene code heartbeat z) (lowest : S.lowest ≤ length q.names) (k : meaning.State → Result)
    (vs : List Variable) (named : var_names vs ≡ q.names) (fuel : ℕ) (p : Program) (room : ℕ)
    (exit : ℕ) (over : Opens code (over_label q.site.label) (unmark q.site ∷ side_test q.site exit)
    (to (side_label q.site.label))) (allows : AllowsCuts code heartbeat z act q S p room)
    (joins : JoinsLoop code heartbeat q.site) where
  abbrev P : Promise code heartbeat (Piece S.World)
  P = pieces code heartbeat z act q S lowest k

  abbrev Turning : Bool → ℤ → ℤ → Scene code heartbeat z
  Turning marked m j = T code heartbeat z act q S lowest k vs named marked m j

  abbrev x : List ℕ
  x = q.loop.var.text.items

  abbrev pub body : meaning.State → Ran
  body = run_list (body_setting p fuel room q.loop) q.loop.body.items

  abbrev ran : ℕ → ℤ → meaning.State → Ran
  ran n m st = iterations_in p fuel room q.loop (Chance ∷ []) [] n m st

  -- what a task owes where no iteration is left
  abbrev pub OverOwed : Type 0
  OverOwed =
      (marked : Bool) (m j : ℤ) (i : Piece S.World) (st : meaning.State) (task : machine.State)
      → ShowsIn code heartbeat z act fuel (Turning marked m j) i q.names st task
      → task.block ≡ over_label q.site.label → task.at ≡ 0 → (P.owing i (fin st)).Holds task

  module _ (over_owed : OverOwed) (m j : ℤ) (i : Piece S.World) (st : meaning.State)
      (other : machine.State)
      (h : IsSplit code heartbeat z act q S lowest k vs named fuel p room allows m j i st
      other)
      -- whoever goes back to the loop with so many iterations and one more owes them
      (goes_back : (a : ℕ) → a ≤ h.n → (to_n : ℤ) → IsGap (suc a) m to_n → InRange to_n
      → (o : Piece S.World) (u : machine.State) → GoesBack code other u
      → ShowsIn code heartbeat z act fuel (Turning true m to_n) o q.names st u
      → (P.owing o (result (ran (suc a) m st))).Holds u)
      -- and so whoever begins it
      (begins : (a : ℕ) → a ≤ h.n → (from_n : ℤ) → IsGap (suc a) from_n j → InRange from_n
      → (o : Piece S.World) (begin : meaning.State) (u : machine.State)
      → ShowsIn code heartbeat z act fuel (Turning true from_n j) o q.names begin u
      → u.block ≡ first_label q.site.label → u.at ≡ 0
      → (P.owing o (result (ran (suc a) from_n begin))).Holds u) where
    abbrev own : OwnCut
    own = sides.own_cut code heartbeat z act q S lowest k vs named fuel p room allows m j i
        st other h

    abbrev middle : ℤ
    middle = m +ℤ pos h.below

    abbrev region : Region
    region = region_of code heartbeat z act q S lowest i

    rules : Lawful p q.modes (names_of st.vars) q.loop
    rules = subst (λ (names : List (List ℕ)). Lawful p q.modes names q.loop) (sym h.shows.named)
        allows.may.rules

    -- ---- the left

    module _ (c : ℕ) (words : List Word) (beat : BeatState) (keeps : KeepsPlace other words beat)
      where
        abbrev left : machine.State
        left = own_left own c other words beat

        abbrev lower : Piece S.World
        lower = Apart (left_side q.loop c region middle st)

        left_covered : AllByRecursion (Covers (left_region st.vars middle q.loop.carries.items
            region))
            (ran h.below m st).notes
        left_covered =
            covered p q.modes q.loop fuel room (Chance ∷ []) [] h.below m middle st
            (left_region st.vars middle q.loop.carries.items region) rules
            (sides.left_holds code heartbeat z act q S lowest k vs named fuel p room allows
            m j
            i st other h) (tt, tt) tt (omega (arith, ints))

        shows_left : (marked : Bool) → has_iteration own ≡ marked
            → ShowsIn code heartbeat z act fuel (Turning marked m middle) lower q.names st left
        shows_left marked is =
            sides.shows_left code heartbeat z act q S lowest k vs named fuel p room allows m
            j
            i st other h c words beat keeps marked is

        -- it goes back where it has an iteration, and else ends
        left_holds : (a : ℕ) → h.below ≡ a → (P.owing lower (result (ran a m st))).Holds left
        unfolding iterate
        left_holds zero none =
            jumps code heartbeat (P.owing lower (fin st)) left (over_label q.site.label)
            (unmark q.site ∷ side_test q.site exit) _ none_opens over
            (over_owed false m middle lower st _ (shows_left false no_iteration) refl refl)
          where
            no_iteration : has_iteration own ≡ false
            no_iteration = gap_none m middle (omega (arith, ints, none))

            none_opens : Remains code left.block 0 [] (to (over_label q.site.label))
            none_opens =
                let opens : Remains code (none_label q.site.label) 0 []
                (to (over_label q.site.label)) =
                opened code (none_label q.site.label) [] (to (over_label q.site.label))
                allows.blocks.none in
                rw no_iteration opens
        left_holds (suc a) some =
            goes_back a (omega (arith, some, h.all)) middle gap in_middle lower left gone
            (shows_left true an_iteration)
          where
            gap : IsGap (suc a) m middle
            gap = omega (arith, ints, some)

            an_iteration : has_iteration own ≡ true
            an_iteration = gap_more a m middle gap

            in_middle : InRange middle
            in_middle = omega (arith, ints, h.in_m, h.in_j, h.gap, h.all)

            block_is : left.block ≡ back_label q.site.label
            block_is = rw an_iteration refl

            gone : GoesBack code other left
            gone =
                place_kept q.site.label q.is_site.handler.1.0 other h.turned left block_is refl keeps

        left_owes : CanRun code left
            → Bound code heartbeat false 0 left (ending.At c Left (side_by q.is_site.scope q.loop
            (left_side q.loop c region middle st) (result (ran h.below m st)).end))
        left_owes can = left_holds h.below refl left_covered can

    -- ---- the child

    module _ (c : ℕ) (words : List Word) (beat : BeatState) (size : length words ≡ 32)
        (base : register words 31 ≡ word.Int (pos z)) where
      abbrev child : machine.State
      child = own_child own c other words beat

      abbrev upper : Piece S.World
      upper = Apart (child_side q.loop c region middle st)

      abbrev begin : meaning.State
      begin = sides.upper_state code heartbeat z act q S lowest k vs named fuel p room allows
          m j i st other h

      child_rules : Lawful p q.modes (names_of begin.vars) q.loop
      child_rules =
          subst (λ (names : List (List ℕ)). Lawful p q.modes names q.loop)
          (sym (sides.upper_round code heartbeat z act q S lowest k vs named fuel p room allows m j
          i st other h).names) rules

      child_covered : AllByRecursion
          (Covers (child_region st.vars middle q.loop.carries.items region))
          (ran (suc h.above) middle begin).notes
      child_covered =
          covered p q.modes q.loop fuel room (Chance ∷ []) [] (suc h.above) middle j begin
          (child_region st.vars middle q.loop.carries.items region) child_rules
          (sides.child_holds code heartbeat z act q S lowest k vs named fuel p room allows m
          j i st other h) (tt, tt) tt (omega (arith, ints, h.gap, h.all))

      child_holds : (P.owing upper (result (ran (suc h.above) middle begin))).Holds child
      child_holds =
          begins h.above (omega (arith, h.all)) middle (omega (arith, ints, h.gap, h.all))
          (omega (arith, ints, h.in_m, h.in_j, h.gap, h.all)) upper begin child
          (sides.shows_child code heartbeat z act q S lowest k vs named fuel p room allows m j i st
          other h c words beat size base) refl refl

      child_owes : CanRun code child
          → Bound code heartbeat false 0 child (ending.At c Right (side_by q.is_site.scope q.loop
          (child_side q.loop c region middle st) (result (ran (suc h.above) middle begin)).end))
      child_owes can = child_holds child_covered can

    -- ---- both

    abbrev e : Ending
    e = P.ending i (result (ran (suc h.n) m st))

    forks_owed : P.given i (result (ran (suc h.n) m st)) → (c : ℕ)
        → PartsOwed code heartbeat own other e c
    forks_owed given c = record {
      p = side_by q.is_site.scope q.loop (left_side q.loop c region middle st)
          (result (ran h.below m st)).end;
      q = side_by q.is_site.scope q.loop (child_side q.loop c region middle st)
          (result (ran (suc h.above) middle
          (sides.upper_state code heartbeat z act q S lowest k vs named fuel p room allows m
          j i st other h))).end;
      so = true;
      left = λ words beat keeps can. left_owes c words beat keeps can;
      child = λ words beat size base can. child_owes c words beat size base can;
      merged = λ so belongs.
          subst (λ (n : ℕ). MergesTo code heartbeat (own_rest own c other)
          (merging.low_end code heartbeat z act q S lowest k vs named fuel p room allows m j
          i st other h joins c belongs)
          (merging.up_end code heartbeat z act q S lowest k vs named fuel p room allows m j
          i
          st other h joins c belongs) (P.ending i (result (ran n m st)))) h.all
          (merging.merges code heartbeat z act q S lowest k vs named fuel p room allows m j
          i
          st other h joins c belongs
          (λ task shows at_label at_begin. over_owed false m j i _ task shows at_label at_begin)
          (subst (λ (n : ℕ). P.given i (result (ran n m st))) (sym h.all) given));
    }

    -- a diverted task owes all iterations, where it owes them when it goes back
    pub split_owed : ((u : machine.State) → GoesBack code other u → IsUncut other u
        → (P.owing i (result (ran (suc h.n) m st))).Holds u)
        → (P.diverted i (result (ran (suc h.n) m st))).Holds other
    split_owed back =
        P.turned_closes i (result (ran (suc h.n) m st)) other
        (λ given can.
        oldest_cut_owed code heartbeat
        (sides.place code heartbeat z act q S lowest k vs named fuel p room allows m j i st
        other h) other
        (sides.at code heartbeat z act q S lowest k vs named fuel p room allows m j i st
        other h) e
        (λ u gone uncut can_u.
        lesser code heartbeat false (P.least i (result (ran (suc h.n) m st))) 0 u e (omega arith)
        (P.opens i (result (ran (suc h.n) m st)) u (back u gone uncut) given can_u))
        (λ c free. forks_owed given c) can)

  -- where the own mark is the oldest
  module _ (inner : List (List ℕ)) (inner_first : take (length q.names) inner ≡ q.names)
      (b : TurnBlocks code act q S.dispatch) where
    abbrev Turn : ℕ → Type 0
    Turn n = Turns code heartbeat z act q S lowest k vs named fuel x body inner inner_first b n

    abbrev Runs : List Instr → Term → Type 0
    Runs instrs end =
        RunsBody code heartbeat z act q S lowest k vs named fuel x body inner inner_first b.head
        (over_label q.site.label) instrs end

    module _ (child : Opens code (first_label q.site.label) [] (to b.first))
        (runs_first : Runs b.instrs b.last) (runs_again : Runs b.again b.half)
        (over_owed : OverOwed) where
      pub own_cut_owed : (n : ℕ)
          → OwnCutOwed code heartbeat z act q S lowest k vs named fuel x body inner inner_first b n
      own_cut_owed n m j i st state shows oldest beats gap in_m in_j short turns =
          split_owed over_owed m j i st other split_here back_at_head begins_first
          (backs.uncut_goes_on code heartbeat z act q S lowest k vs named fuel m j i st r other
          turned)
        where
          r : Result
          r = result (ran (suc n) m st)

          other : machine.State
          other = diverted_to heartbeat b.head S.dispatch state

          ready : note_of (block_at code b.head) ≡ note.Ready S.dispatch
          ready = ap note_of b.ready.found ∙ b.ready.noted

          opens_head : Remains code b.head 0 (instr.Tick ∷ b.again) b.half
          opens_head = record {
            block = b.ready.block;
            found = b.ready.found;
            rest = b.ready.body;
            ends = b.ready.ends;
          }

          turn : (o : Piece S.World) (task : machine.State)
              → ShowsIn code heartbeat z act fuel (Turning true m j) o q.names st task
              → task.block ≡ b.head → task.at ≡ 0 → (P.owing o r).Holds task
          turn o task shows_it at_label at_begin =
              turns n (omega arith) m j o st task shows_it gap in_m in_j b.again b.half runs_again
              (rw (at_label, at_begin) opens_head)

          turned : backs.IsTurned code heartbeat z act q S lowest k vs named fuel m j i st r other
          turned =
              backs.turned_at_head code heartbeat z act q S lowest k vs named fuel m j b.head ready
              i st r state shows beats turn

          back_at_head : (a : ℕ) → a ≤ n → (to_n : ℤ) → IsGap (suc a) m to_n → InRange to_n
              → (o : Piece S.World) (u : machine.State) → GoesBack code other u
              → ShowsIn code heartbeat z act fuel (Turning true m to_n) o q.names st u
              → (P.owing o (result (ran (suc a) m st))).Holds u
          back_at_head a few to_n gap_a in_n o u gone shows_u =
              backs.goes_back_to code heartbeat b.head S.dispatch ready
              (P.owing o (result (ran (suc a) m st))) other u
              (backs.label_there code heartbeat z act q S lowest k vs named fuel m j b.head ready i
              st r state shows beats turn) gone
              (turns a few m to_n o st (goes_in heartbeat b.head u) shows_u gap_a in_m in_n b.again
              b.half runs_again opens_head)

          begins_first : (a : ℕ) → a ≤ n → (from_n : ℤ) → IsGap (suc a) from_n j → InRange from_n
              → (o : Piece S.World) (begin : meaning.State) (u : machine.State)
              → ShowsIn code heartbeat z act fuel (Turning true from_n j) o q.names begin u
              → u.block ≡ first_label q.site.label → u.at ≡ 0
              → (P.owing o (result (ran (suc a) from_n begin))).Holds u
          begins_first a few from_n gap_a in_n o begin u shows_u at_label at_begin =
              let here : Remains code (first_label q.site.label) 0 [] (to b.first) =
              opened code (first_label q.site.label) [] (to b.first) child in
              jumps code heartbeat (P.owing o (result (ran (suc a) from_n begin))) u b.first
              (instr.Tick ∷ b.instrs) b.last (rw (at_label, at_begin) here) b.begins
              (turns a few from_n j o begin _ shows_u gap_a in_n in_j b.instrs b.last runs_first
              (opened code b.first (instr.Tick ∷ b.instrs) b.last b.begins))

          half : Halved n m j
          half = halved n m j gap

          split_here : IsSplit code heartbeat z act q S lowest k vs named fuel p room allows m
              j i st other
          split_here = record {
            shows = turned.shows;
            turned = turned.turned;
            oldest = oldest;
            n = n;
            gap = gap;
            short = short;
            in_m = in_m;
            in_j = in_j;
            below = half.lower;
            above = half.upper;
            all = half.all;
            cuts = half.cut ∙ ap Some (sym half.is);
          }
