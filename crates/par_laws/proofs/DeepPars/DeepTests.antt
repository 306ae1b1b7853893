-- From the begin of an iteration of a `par` that may be cut in the middle of it a task comes to the
-- turn, or to the end where none is left.
use Rattle.std.proofs.Common.{◌≡◌, ℕ, zero, suc, ◌+◌, ◌≤◌, Bool, true, false, List, [], ◌∷◌}
use Rattle.std.proofs.Common.{append-nil, length, Some, Ok, refl, sym, ap, subst, ◌∙◌, arith}
use Rattle.std.specs.Prelude.{ℤ, pos, negsuc, ◌+ℤ◌, ◌-ℤ◌, ◌<ℤ◌, int_lt, slice_set, filter}
use Rattle.std.proofs.lemmas.Int.{ints}
use Rattle.std.specs.Ordering.{int_eq}
use Rattle.std.proofs.lemmas.Bool.{true≢false}
use Rattle.std.proofs.lemmas.Bool.Decides.{Decides-int_eq}
use Rattle.std.proofs.lemmas.List.{length-set}
use Rattle.beat_count.specs.BeatState.{BeatState}
use Rattle.beat_count.specs.Heartbeat.{counted}
use Rattle.stack_marks.specs.Stacks.{StackValue, unmarked, word_at}
use Rattle.tp_value.specs.declared.limits.TheConstants.{MAX_PAR_LENGTH}
use Rattle.tp_value.specs.Number.{truth}
use Rattle.loop_meaning.specs.InRange.{InRange}
use Rattle.loop_meaning.specs.State as meaning
use Rattle.tpal_syntax.specs.declared.instructions.Alu.TheVariants as alu
use Rattle.tpal_syntax.specs.declared.instructions.Instr.{Instr}
use Rattle.tpal_syntax.specs.declared.instructions.Instr.TheVariants as instr
use Rattle.tpal_syntax.specs.declared.instructions.Term.{Term}
use Rattle.tpal_syntax.specs.declared.instructions.Value.TheVariants as value
use Rattle.tpal_syntax.specs.declared.words.Word.{Word}
use Rattle.tpal_syntax.specs.declared.words.Word.TheVariants as word
use Rattle.tpal_syntax.specs.Listing.{Listing}
use Rattle.tpal_machine.specs.Calculation.{calculated}
use Rattle.tpal_machine.specs.Effect as effect
use Rattle.tpal_machine.specs.Reading.{register}
use Rattle.tpal_machine.specs.State as machine
use Rattle.tpal_machine.specs.Step.{advanced}
use Rattle.tpal_machine.proofs.Kit.{Back, on_if, on_if_not}
use Rattle.expr_lower.specs.Standing.{Remains}
use Rattle.expr_lower.proofs.Keeping.{register_other}
use Rattle.expr_lower.proofs.Standing.{behind, next}
use Rattle.handler_gen.proofs.Marks.{on_prmpop}
use Rattle.handler_gen.specs.Sites.{over_label}
use Rattle.scene_laws.specs.Code.{Opens, to}
use Rattle.scene_laws.specs.DeepMarked.{last_begun, next_begun}
use Rattle.scene_laws.specs.Layout.{Activation, value_cell}
use Rattle.scene_laws.specs.Marked.{unmark}
use Rattle.scene_laws.proofs.Scenes.Activations.{clear_above}
use Rattle.par_laws.proofs.DeepPars.DeepHeads.{IsBegun, begins_next, begun_task, shows_over}
use Rattle.par_laws.proofs.DeepPars.DeepHeads.{shows_running, stored}
use Rattle.par_laws.proofs.DeepPars.DeepHeads.{stored_many, stored_other, world}
use Rattle.par_laws.proofs.DeepPars.DeepRunning.{Handles, Running, are_any, running}
use Rattle.par_laws.proofs.DeepPars.DeepScenes.{Deep, between, bound_is, cursor_is, ended_pieces}
use Rattle.par_laws.proofs.DeepPars.DeepScenes.{enough_of, mark_is}
use Rattle.par_laws.proofs.DeepPars.DeepScenes.{marks_of, own_marks}
use Rattle.scene_laws.proofs.Scenes.Moves.{calm, jumps, opened}
use Rattle.par_laws.proofs.QuietPars.Pars.{tests_in}
use Rattle.scene_laws.proofs.Scenes.Pieces.{Apart, Host, Piece}
use Rattle.form_laws.proofs.Marks.{not_at, unmarked_is}
use Rattle.scene_laws.proofs.Scenes.Scene.{ShowsIn}

module _ {code : Listing} {heartbeat z : ℕ} {act : Activation} (d : Deep code heartbeat z act)
    (n : ℕ) (m j : ℤ) (i : Piece d.S.World) (st : meaning.State) (task : machine.State)
    (shows : ShowsIn code heartbeat z act d.fuel (between d (are_any n) m j) i d.q.names st task)
    (far : j ≡ m +ℤ pos n) (in_m : InRange m) (in_j : InRange j) (short : n ≤ MAX_PAR_LENGTH)
    (K : Back code heartbeat)
    (stands : Remains code task.block task.at (next_begun d.q.site (length d.q.names) d.q.turn)
    (to d.q.is_deep.last)) (instrs : List Instr) (half : Term)
    (opens : Opens code d.q.turn (instr.Tick ∷ instrs) half)
    (over_instrs : List Instr) (over_end : Term)
    (over : Opens code (over_label d.q.site.label) over_instrs over_end) where
  abbrev level : ℕ
  level = length d.q.names

  abbrev place : ℕ
  place = z + d.q.site.mark

  abbrev end : Term
  end = to d.q.is_deep.last

  abbrev begun : List Word → BeatState → ℕ → ℕ → machine.State
  begun words beat label at =
      begun_task d (are_any n) n m j i st task shows far in_m in_j short words
      beat label at

  abbrev stack_there : StackValue
  stack_there = stored d (are_any n) n m j i st task shows far in_m in_j short

  -- the mark stands, as before
  is_begun : IsBegun d (are_any n) n m j i st task shows far in_m in_j short
      (marks_of d (are_any n) i) stack_there
  is_begun = record {
    base = refl;
    many = stored_many d (are_any n) n m j i st task shows far in_m in_j short;
    marked = shows.marked;
    words = λ a. refl;
  }

  -- ---- without the mark

  own_gone : filter (not_at place) (own_marks d true) ≡ []
  own_gone =
      let same : int_eq (pos place) (pos place) ≡ true =
      (Decides-int_eq (pos place) (pos place)).1 refl in
      rw same refl

  gone_of : (o : Piece d.S.World)
      → filter (not_at place) (marks_of d true o) ≡ marks_of d false o
  gone_of (Host w) =
      unmarked_is (d.S.marks w) (own_marks d true) place
      (clear_above (d.S.marks w) (z + value_cell d.S.lowest) place
      (omega (arith, d.lowest, mark_is d)) (d.S.below w)) own_gone
      ∙ sym (append-nil (d.S.marks w))
  gone_of (Apart part) = own_gone

  abbrev popped : StackValue
  popped = unmarked stack_there (pos place)

  is_popped : are_any n ≡ true
      → IsBegun d (are_any n) n m j i st task shows far in_m in_j short (marks_of d false i) popped
  is_popped any = record {
    base = refl;
    many = stored_many d (are_any n) n m j i st task shows far in_m in_j short;
    marked = ap (filter (not_at place))
        (shows.marked ∙ ap (λ (b : Bool). marks_of d b i) any) ∙ gone_of i;
    words = λ a. refl;
  }

  -- ---- the tests

  last_here : Remains code d.q.is_deep.last 0 (last_begun d.q.site) (to d.q.turn)
  last_here = opened code d.q.is_deep.last (last_begun d.q.site) (to d.q.turn) d.q.is_deep.ends

  -- the difference of the number and the bound is 0, or not
  is_zero : (w : Word) → w ≡ word.Int (m -ℤ j) → n ≡ 0
      → calculated alu.Eq w (word.Int (pos 0)) ≡ Ok (word.Int (truth true))
  is_zero w is none_more =
      let differ : m -ℤ j ≡ pos 0 = omega (arith, ints, far, none_more) in
      subst (λ (v : Word). calculated alu.Eq v (word.Int (pos 0)) ≡ Ok (word.Int (truth true)))
      (sym (is ∙ ap (λ (e : ℤ). word.Int e) differ)) refl

  is_below_zero : (w : Word) → w ≡ word.Int (m -ℤ j) → n ≡ 1
      → calculated alu.Eq w (word.Int (pos 0)) ≡ Ok (word.Int (truth false))
  is_below_zero w is one_more =
      let differ : m -ℤ j ≡ negsuc 0 = omega (arith, ints, far, one_more) in
      subst (λ (v : Word). calculated alu.Eq v (word.Int (pos 0)) ≡ Ok (word.Int (truth false)))
      (sym (is ∙ ap (λ (e : ℤ). word.Int e) differ)) refl

  no_more_zero : n ≡ 0 → int_lt (m -ℤ j) (negsuc 0) ≡ false
  no_more_zero none_more =
      let differ : m -ℤ j ≡ pos 0 = omega (arith, ints, far, none_more) in
      ap (λ (e : ℤ). int_lt e (negsuc 0)) differ

  no_more_one : n ≡ 1 → int_lt (m -ℤ j) (negsuc 0) ≡ false
  no_more_one one_more =
      let differ : m -ℤ j ≡ negsuc 0 = omega (arith, ints, far, one_more) in
      ap (λ (e : ℤ). int_lt e (negsuc 0)) differ

  -- at the block before the last iteration, or the end
  at_last : int_lt (m -ℤ j) (negsuc 0) ≡ false
      → ((words : List Word) (beat : BeatState) → length words ≡ 32
      → register words 31 ≡ word.Int (pos z) → register words 3 ≡ word.Int (m -ℤ j)
      → K.Holds (begun words beat d.q.is_deep.last 0)) → K.Holds task
  at_last no_more go =
      begins_next d (are_any n) n m j i st task shows far in_m in_j short K stands
      (λ words beat at size base third second left.
      let here : machine.State = begun words beat task.block at in
      on_if_not code heartbeat K here 2 d.q.turn (next code here _ [] end left)
      (second ∙ ap (λ (t : Bool). word.Int (truth t)) no_more)
      (jumps code heartbeat K (advanced here) d.q.is_deep.last (last_begun d.q.site) (to d.q.turn)
      (behind code task.block at _ [] end left) d.q.is_deep.ends
      (go words (counted (counted beat)) size base third)))

  -- where no iteration is left it comes to the end
  pub to_over : n ≡ 0 → ((t : machine.State)
      → ShowsIn code heartbeat z act d.fuel (ended_pieces d) i d.q.names st t
      → t.block ≡ over_label d.q.site.label → t.at ≡ 0 → K.Holds t) → K.Holds task
  to_over none_more go =
      at_last (no_more_zero none_more)
      (λ words beat size base third.
      let here : machine.State = begun words beat d.q.is_deep.last 0 in
      tests_in code heartbeat K here 2 3 alu.Eq (value.Int (pos 0)) true
      (over_label d.q.site.label) (unmark d.q.site ∷ []) (to d.q.turn) (omega (arith, size))
      last_here (is_zero (register words 3) third none_more)
      (calm code (over_label d.q.site.label) over_instrs over_end over)
      (λ yes_it. go (begun (slice_set words 2 (word.Int (pos 1))) (counted (counted beat))
      (over_label d.q.site.label) 0)
      (shows_over d (are_any n) n m j i st task shows far in_m in_j short
      (marks_of d (are_any n) i) stack_there is_begun (slice_set words 2 (word.Int (pos 1)))
      (counted (counted beat)) (over_label d.q.site.label) 0
      (length-set words 2 _ ∙ size)
      (register_other words 2 31 _ (λ (e : 31 ≡ 2). absurd (omega (arith, e))) ∙ base)
      (ap (λ (k : ℕ). marks_of d (are_any k) i) none_more)) refl refl)
      (λ no_it left. absurd (true≢false no_it)))

  module _ (N more : ℕ) (few : more ≤ N) (one_more : n ≡ suc more)
      (enough : enough_of d i st.vars m j) (handles : Handles d N) where
    abbrev pub turn_world : Running d N
    turn_world = world d (are_any n) n m j i st task shows far in_m in_j short N more few one_more
        enough

    abbrev Goes : Type 0
    Goes = (t : machine.State)
        → ShowsIn code heartbeat z act d.fuel (running d N handles) turn_world d.q.names st t
        → t.block ≡ d.q.turn → t.at ≡ 0 → K.Holds t

    any_left : are_any n ≡ true
    any_left = ap are_any one_more

    -- the last one runs without the mark
    runs_last : more ≡ 0 → Goes → K.Holds task
    runs_last none_more go =
        at_last (no_more_one (omega (arith, one_more, none_more)))
        (λ words beat size base third.
        let here : machine.State = begun words beat d.q.is_deep.last 0 in
        tests_in code heartbeat K here 2 3 alu.Eq (value.Int (pos 0)) false
        (over_label d.q.site.label) (unmark d.q.site ∷ []) (to d.q.turn) (omega (arith, size))
        last_here (is_below_zero (register words 3) third (omega (arith, one_more, none_more)))
        (calm code (over_label d.q.site.label) over_instrs over_end over)
        (λ yes_it. absurd (true≢false (sym yes_it)))
        (λ no_it left.
        let words_there : List Word = slice_set words 2 (word.Int (pos 0)) in
        let base_there : register words_there 31 ≡ word.Int (pos z) =
        register_other words 2 31 (word.Int (pos 0)) (λ (e : 31 ≡ 2). absurd (omega (arith, e)))
        ∙ base in
        let there : machine.State = begun words_there (counted (counted beat)) d.q.is_deep.last 2 in
        on_prmpop code heartbeat K there 31 d.q.site.mark (pos z) (word.Int j)
        (next code there _ _ (to d.q.turn) left) base_there bound_there
        (jumps code heartbeat K
        (effect.with_stack (advanced there) popped)
        d.q.turn (instr.Tick ∷ instrs) half
        (behind code d.q.is_deep.last 2 _ [] (to d.q.turn) left) opens
        (go _ (shows_running d (are_any n) n m j i st task shows far in_m in_j short
        (marks_of d false i) popped (is_popped any_left) words_there
        (counted (counted (counted (counted beat)))) d.q.turn 0
        (length-set words 2 _ ∙ size) base_there N more few one_more enough handles
        (ap (λ (k : ℕ). marks_of d (are_any k) i) (sym none_more))) refl refl))))
      where
        bound_there : word_at stack_there (pos (z + d.q.site.mark)) ≡ Some (word.Int j)
        bound_there =
            stored_other d (are_any n) n m j i st task shows far in_m in_j short
            (z + d.q.site.mark) (λ e. absurd (omega (arith, e, mark_is d)))
            (λ e. absurd (omega (arith, e, mark_is d, cursor_is d, d.q.nested)))
            ∙ (ap (λ (o : ℕ). word_at task.stack (pos (z + o))) (mark_is d ∙ sym (bound_is d))
            ∙ shows.keeps.bound)

    -- another one runs with the mark
    runs_more : (later : ℕ) → more ≡ suc later → Goes → K.Holds task
    runs_more later some_more go =
        begins_next d (are_any n) n m j i st task shows far in_m in_j short K stands
        (λ words beat at size base third second left.
        let here : machine.State = begun words beat task.block at in
        on_if code heartbeat K here 2 d.q.turn (pos 1) (next code here _ [] end left)
        (second ∙ ap (λ (t : Bool). word.Int (truth t)) less) refl
        (calm code d.q.turn (instr.Tick ∷ instrs) half opens)
        (go (begun words (counted beat) d.q.turn 0)
        (shows_running d (are_any n) n m j i st task shows far in_m in_j short
        (marks_of d (are_any n) i) stack_there is_begun words (counted beat) d.q.turn 0 size base N
        more few one_more enough handles
        (ap (λ (b : Bool). marks_of d b i) (any_left ∙ ap are_any (sym some_more)))) refl refl))
      where
        less : int_lt (m -ℤ j) (negsuc 0) ≡ true
        less =
            let lt : (m -ℤ j) <ℤ negsuc 0 = omega (arith, ints, far, one_more, some_more) in
            grind (arith, ints)

    -- an iteration comes to its turn
    pub to_turn : Goes → K.Holds task
    to_turn go = by_more more refl
      where
        by_more : (k : ℕ) → more ≡ k → K.Holds task
        by_more zero none_more = runs_last none_more go
        by_more (suc later) some_more = runs_more later some_more go
