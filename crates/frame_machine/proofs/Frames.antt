-- The law of a range that is cut, over frames, and of what each part touches.
use Rattle.frame_machine.proofs.Begins.{accs_around, lawful_reduced, names_kept, ops_all}
use Rattle.frame_machine.proofs.Framing.{accs_in, accs_merged, iterations_join_from, round_around}
use Rattle.frame_machine.proofs.Framing.{units_are}
use Rattle.frame_machine.proofs.Following.{goes_done}
use Rattle.frame_machine.proofs.Joining.{low_done, lower_kept, lower_kept_from, up_done}
use Rattle.frame_machine.proofs.Joining.{upper_kept_from}
use Rattle.frame_machine.proofs.Numbers.{gap_back}
use Rattle.frame_machine.proofs.Ranges.{Around, middle}
use Rattle.frame_machine.specs.Fitting.{RangeFits}
use Rattle.frame_machine.specs.FrameLaws.{AllInRange, RangeJoins, child_start, ops_of}
use Rattle.frame_machine.specs.Iterating.{LoopInRange, iterations_in}
use Rattle.frame_machine.specs.Joins.{Joins, SameRound, names_of, units_for, upper_start}
use Rattle.frame_machine.specs.Lawful.{FixedIn, Lawful, TargetsIn, modes_in}
use Rattle.frame_machine.specs.Modes.{Modes}
use Rattle.frame_machine.specs.Parts.{AgreeOn, Below, Cells, From, NotesKeep, Seen, Written}
use Rattle.frame_machine.specs.Splitting.{merged, with_units}
use Rattle.loop_meaning.specs.Frames.{FrameRan, OfPar, accs_of, run_frame, with_accs}
use Rattle.loop_meaning.specs.InRange.{InRange}
use Rattle.loop_meaning.specs.State.{Chance, Note, Ran, State}
use Rattle.loop_meaning.specs.declared.frame.Frame.TheVariants.{Range}
use Rattle.loop_meaning.specs.declared.value.Variable.{Variable}
use Rattle.loop_syntax.specs.declared.ParLoop.{ParLoop}
use Rattle.loop_syntax.specs.declared.Program.{Program}
use Rattle.std.proofs.Common.{List, [], ap, arith, pos, subst, sym, ℕ, ℤ, ◌+ℤ◌, ◌+◌, ◌-◌, ◌∙◌, ◌∷◌}
use Rattle.std.proofs.Common.{◌≡◌, ◌≤ℤ◌, ◌≤◌}
use Rattle.std.proofs.lemmas.Int.{ints}
use Rattle.std.specs.Int.{int_gap}
use Rattle.tp_value.specs.declared.Op.{Op}
use Rattle.tp_value.specs.declared.Stop.TheVariants.{Done}
use Rattle.tp_value.specs.declared.Table.{Table}
use Rattle.tp_value.specs.declared.limits.TheConstants.{MAX_CALL_DEPTH}

between : (a b c : ℤ) → InRange a → InRange c → a ≤ℤ b → b ≤ℤ c → InRange b
between a b c f g h k = omega (arith, ints, h, k)

gap_sum : (next middle end : ℤ) → next ≤ℤ middle → middle ≤ℤ end → int_gap next end ≡ int_gap next middle + int_gap middle end
gap_sum next middle end h k =
    let p : next +ℤ pos (int_gap next middle) ≡ middle = gap_back next middle h in
    let q : middle +ℤ pos (int_gap middle end) ≡ end = gap_back middle end k in
    let r : next +ℤ pos (int_gap next end) ≡ end = gap_back next end (omega (arith, ints, h, k)) in
    omega (arith, ints, p, q, r)

module _ (p : Program) (fuel depth : ℕ) (outer : Modes) (l : ParLoop) where
  abbrev room : ℕ
  room = MAX_CALL_DEPTH - depth

  abbrev chance : List Note
  chance = Chance ∷ []

  -- the run of a frame is that of its iterations
  abbrev ran : ℤ → ℤ → State → Ran
  ran next end s = iterations_in p fuel room l chance chance (int_gap next end) next s

  ends_named : (n : ℕ) (i : ℤ) (s : State) → Lawful p outer (names_of s.vars) l → (iterations_in p fuel room l chance chance n i s).stop ≡ Done → names_of (iterations_in p fuel room l chance chance n i s).state.vars ≡ names_of s.vars
  ends_named n i s rules d =
      let k = ((lower_kept p outer l fuel room chance chance n i (i +ℤ pos n) s rules (tt, tt) (tt, tt) (omega (arith, ints))).leaves (goes_done d)).claim in
      names_kept _ s.vars (iterations_in p fuel room l chance chance n i s).state.vars k.keeps k.size

  module _ (first last next middle end : ℤ) (accs : List (Op × ℤ)) (s : State) (vs : List Variable) (ts : List Table)
      (rules : Lawful p outer (names_of s.vars) l) (fits : RangeFits l first last next end accs) (low : next ≤ℤ middle) (high : middle ≤ℤ end)
      (range : AllInRange p l s) (within : s.ticks ≤ fuel) (same : SameRound l.reduces.items s.vars vs) (given : AgreeOn (Seen (From middle) s.vars (modes_in outer l)) ts s.tables) where
    abbrev start : State
    start = record s { vars = with_accs l.reduces.items accs s.vars }

    abbrev seen : Cells
    seen = Seen (From middle) s.vars (modes_in outer l)

    abbrev written : Cells
    written = Written (From middle) s.vars (modes_in outer l)

    abbrev low_frame : FrameRan
    low_frame = run_frame p fuel depth (OfPar l) (Range next middle accs) s

    abbrev up_frame : FrameRan
    up_frame = run_frame p fuel depth (OfPar l) (Range middle end (with_units accs)) (child_start vs ts)

    abbrev whole_frame : FrameRan
    whole_frame = run_frame p fuel depth (OfPar l) (Range next end accs) s

    start_around : Around (FixedIn (names_of s.vars) l.reduces.items l.var.text.items) s.vars (with_accs l.reduces.items accs s.vars)
    start_around = accs_around _ l.reduces.items accs s.vars (lawful_reduced p outer l s.vars rules)

    start_range : LoopInRange p l start next middle
    start_range = record {
      funcs = range.funcs;
      par = range.par;
      state = record { vars = accs_in l.reduces.items accs s.vars fits.numbers range.state.vars; tables = range.state.tables };
      begins = between first next last fits.first_in_range fits.last_in_range fits.begins (omega (arith, ints, low, high, fits.ends));
      ends = between first middle last fits.first_in_range fits.last_in_range (omega (arith, ints, low, fits.begins)) (omega (arith, ints, high, fits.ends));
    }

    joined : Joins fuel l.reduces.items seen written (ran next middle start) (ran middle end (upper_start l.reduces.items vs ts)) (ran next end start)
    joined =
        let a : ℕ = int_gap next middle in
        let b : ℕ = int_gap middle end in
        let e : next +ℤ pos a ≡ middle = gap_back next middle low in
        let j = iterations_join_from p outer l fuel room chance chance chance chance a b next s.vars start vs ts rules (omega arith) (subst (λ (z : ℤ). LoopInRange p l start next z) (sym e) start_range) within start_around same
        (subst (λ (z : ℤ). AgreeOn (Seen (From z) s.vars (modes_in outer l)) ts s.tables) (sym e) given) in
        let k = subst (λ (z : ℤ). Joins fuel l.reduces.items (Seen (From z) s.vars (modes_in outer l)) (Written (From z) s.vars (modes_in outer l)) (ran next middle start) (iterations_in p fuel room l chance chance b z (upper_start l.reduces.items vs ts)) (iterations_in p fuel room l chance chance (a + b) next start)) e j in
        subst (λ (n : ℕ). Joins fuel l.reduces.items seen written (ran next middle start) (ran middle end (upper_start l.reduces.items vs ts)) (iterations_in p fuel room l chance chance n next start)) (sym (gap_sum next middle end low high)) k

    upper_is : ran middle end (upper_start l.reduces.items vs ts) ≡ up_frame.ran
    upper_is = ap (λ xs. ran middle end (record { vars = with_accs l.reduces.items xs vs; tables = ts; output = []; ticks = 0 })) (sym (units_are l.reduces.items accs fits.operators))

    upper_results : accs_of l.reduces.items (ran middle end (upper_start l.reduces.items vs ts)).state.vars ≡ up_frame.results
    upper_results = ap (λ (r : Ran). accs_of l.reduces.items r.state.vars) upper_is

    start_names : names_of (with_accs l.reduces.items accs s.vars) ≡ names_of s.vars
    start_names = names_kept _ s.vars (with_accs l.reduces.items accs s.vars) start_around.keeps start_around.size

    units_names : names_of (with_accs l.reduces.items (units_for l.reduces.items) vs) ≡ names_of s.vars
    units_names =
        let a = round_around l s.vars vs rules.distinct rules.targets same (units_for l.reduces.items) (lawful_reduced p outer l s.vars rules) rules.fresh in
        names_kept _ s.vars (with_accs l.reduces.items (units_for l.reduces.items) vs) a.keeps a.size

    results : (ran next end start).stop ≡ Done → accs_of l.reduces.items (ran next end start).state.vars ≡ merged (ops_of l.reduces.items) (accs_of l.reduces.items (ran next middle start).state.vars) (accs_of l.reduces.items (ran middle end (upper_start l.reduces.items vs ts)).state.vars)
    results d =
        let lows : (ran next middle start).stop ≡ Done = low_done (ran next middle start).stop (ran next middle start).state.ticks (ran middle end (upper_start l.reduces.items vs ts)).stop (ran middle end (upper_start l.reduces.items vs ts)).state.ticks fuel (sym joined.stop ∙ d) in
        let ups : (ran middle end (upper_start l.reduces.items vs ts)).stop ≡ Done = up_done (ran next middle start).stop (ran next middle start).state.ticks (ran middle end (upper_start l.reduces.items vs ts)).stop (ran middle end (upper_start l.reduces.items vs ts)).state.ticks fuel (sym joined.stop ∙ d) in
        let e : names_of (ran next middle start).state.vars ≡ names_of s.vars = ends_named (int_gap next middle) next start (subst (λ ns. Lawful p outer ns l) (sym start_names) rules) lows ∙ start_names in
        let f : names_of (ran middle end (upper_start l.reduces.items vs ts)).state.vars ≡ names_of s.vars = ends_named (int_gap middle end) middle (upper_start l.reduces.items vs ts) (subst (λ ns. Lawful p outer ns l) (sym units_names) rules) ups ∙ units_names in
        ap (accs_of l.reduces.items) (joined.vars d)
        ∙ accs_merged l.reduces.items (ran next middle start).state.vars (ran middle end (upper_start l.reduces.items vs ts)).state.vars (f ∙ sym e) l.reduces.items (ops_all l.reduces.items rules.targets) (subst (λ ns. TargetsIn ns l.reduces.items) (sym e) rules.visible)

    pub frames_join : RangeJoins fuel l seen written low_frame up_frame whole_frame
    frames_join = record {
      runs = subst (λ (r : Ran). Joins fuel l.reduces.items seen written (ran next middle start) r (ran next end start)) upper_is joined;
      results = λ d. results d ∙ ap (merged (ops_of l.reduces.items) (accs_of l.reduces.items (ran next middle start).state.vars)) upper_results;
    }

  -- ---- what each part touches

  -- the notes of a range that ends before c, and of one that begins from c on
  module _ (next end c : ℤ) (accs : List (Op × ℤ)) (s : State) (rules : Lawful p outer (names_of s.vars) l) where
    abbrev begun : State
    begun = record s { vars = with_accs l.reduces.items accs s.vars }

    around : Around (FixedIn (names_of s.vars) l.reduces.items l.var.text.items) s.vars (with_accs l.reduces.items accs s.vars)
    around = accs_around _ l.reduces.items accs s.vars (lawful_reduced p outer l s.vars rules)

    pub lower_frame_keeps : next ≤ℤ end → end ≤ℤ c → NotesKeep (Seen (Below c) s.vars (modes_in outer l)) (Written (Below c) s.vars (modes_in outer l)) (run_frame p fuel depth (OfPar l) (Range next end accs) s).ran.notes
    lower_frame_keeps h k =
        let e : next +ℤ pos (int_gap next end) ≡ end = gap_back next end h in
        (lower_kept_from p outer l fuel room chance chance (int_gap next end) next c s.vars begun rules around (tt, tt) (tt, tt) (omega (arith, ints, e, k))).notes

    pub upper_frame_keeps : c ≤ℤ next → NotesKeep (Seen (From c) s.vars (modes_in outer l)) (Written (From c) s.vars (modes_in outer l)) (run_frame p fuel depth (OfPar l) (Range next end accs) s).ran.notes
    upper_frame_keeps h =
        (upper_kept_from p outer l fuel room chance chance (int_gap next end) next c s.vars begun rules around (tt, tt) (tt, tt) h).notes
