-- The begin of a `par` that is cut between two iterations alone.
use Rattle.std.proofs.Common.{◌≡◌, ◌≢◌, ℕ, suc, ◌+◌, ◌<◌, ◌≤◌, Bool, true, false, List, [], ◌∷◌}
use Rattle.std.proofs.Common.{◌++◌, length, Some, refl, sym, ap, subst, ◌∙◌, arith}
use Rattle.std.specs.Prelude.{ℤ, pos, nat_lt, not}
use Rattle.std.proofs.lemmas.Bool.Decides.{nat_tests}
use Rattle.beat_count.specs.BeatState.{BeatState}
use Rattle.beat_count.specs.Heartbeat.{counted}
use Rattle.stack_marks.specs.Causes.{HoldsMark}
use Rattle.stack_marks.specs.declared.mark.Mark.{Mark}
use Rattle.stack_marks.specs.Stacks.{StackValue, marked, with_word, word_at}
use Rattle.tp_value.specs.declared.limits.TheConstants.{MAX_PAR_LENGTH}
use Rattle.tp_value.specs.declared.TrapKind.TheVariants.{Wide}
use Rattle.tp_value.specs.Number.{truth}
use Rattle.loop_meaning.specs.InRange.{InRange}
use Rattle.loop_meaning.specs.State as meaning
use Rattle.loop_meaning.specs.State.{Chance, Ran}
use Rattle.loop_meaning.specs.Statements.{Setting, iterate, run_list, too_wide, unless_wide}
use Rattle.tpal_syntax.specs.declared.instructions.Instr.TheVariants as instr
use Rattle.tpal_syntax.specs.declared.instructions.Term.{Term}
use Rattle.tpal_syntax.specs.declared.instructions.Value.TheVariants as value
use Rattle.tpal_syntax.specs.declared.sites.LoopSite.{LoopSite}
use Rattle.tpal_syntax.specs.declared.words.Word.{Word}
use Rattle.tpal_syntax.specs.declared.words.Word.TheVariants as word
use Rattle.tpal_syntax.specs.Conditions.{is_ready}
use Rattle.tpal_syntax.specs.Listing.{Listing}
use Rattle.tpal_machine.specs.Effect as effect
use Rattle.tpal_machine.specs.Effect.{is_marked_from}
use Rattle.tpal_machine.specs.Reading.{note_of, register}
use Rattle.tpal_machine.specs.State as machine
use Rattle.tpal_machine.specs.Step.{advanced}
use Rattle.tpal_machine.proofs.Kit.{Back, IsCalm, on_if, on_if_not, on_jump}
use Rattle.expr_lower.specs.Bodies.{trap_block}
use Rattle.expr_lower.specs.Leaving.{moved}
use Rattle.expr_lower.specs.Standing.{AreAt, Remains}
use Rattle.expr_lower.proofs.Standing.{at_end, behind, next}
use Rattle.handler_gen.proofs.Marks.{on_prmpush}
use Rattle.handler_gen.specs.LoopCuts.{loop_mark}
use Rattle.handler_gen.specs.Sites.{split_label}
use Rattle.expr_lower.specs.Registers.{base_register}
use Rattle.handler_gen.proofs.Words.{word_other, word_same, words_as_many}
use Rattle.scene_laws.specs.Code.{Opens, to}
use Rattle.scene_laws.specs.Layout.{Activation, bound_cell, levels_cell, value_cell}
use Rattle.scene_laws.specs.Marked.{length_test, marked_begin}
use Rattle.scene_laws.proofs.Cuts.Gaps.{IsGap}
use Rattle.scene_laws.proofs.Scenes.Activations.{clear_above}
use Rattle.scene_laws.proofs.Scenes.Fixed.{fixed_same, held_fixed}
use Rattle.par_laws.proofs.QuietPars.Pars.{Begun, iterating, measured, runs_narrow, stops_wide}
use Rattle.par_laws.proofs.QuietPars.Pars.{traps_wide}
use Rattle.scene_laws.proofs.Scenes.Pieces.{Host}
use Rattle.scene_laws.proofs.Scenes.Results.{Result, result, then}
use Rattle.scene_laws.proofs.Scenes.Scene.{Scene, ShowsIn}
use Rattle.form_laws.proofs.Forms.Simple.{stores_in}
use Rattle.par_laws.proofs.QuietPars.Turned.{T}
use Rattle.par_laws.proofs.QuietPars.Turning.{ParAt, clear_of, mark_is, rec_is}
use Rattle.scene_laws.proofs.Scenes.Values.{ExprLaw}
use Rattle.scene_laws.proofs.Scenes.Variables.{held_same, var_names}

module _ (code : Listing) (heartbeat z : ℕ) (act : Activation) (q : ParAt code act)
    (S : Scene code heartbeat z) (lowest : S.lowest ≤ length q.names) (k : meaning.State → Result)
    (fuel : ℕ) (i : S.World) (st : meaning.State) (task : machine.State)
    (shows : ShowsIn code heartbeat z act fuel S i q.names st task) (free_rec : S.may q.site.rec)
    (m j : ℤ)
    (next_in : word_at task.stack (pos (z + value_cell (length q.names))) ≡ Some (word.Int m))
    (bound_in : word_at task.stack (pos (z + bound_cell (length q.names))) ≡ Some
    (word.Int j)) where
  abbrev level : ℕ
  level = length q.names

  -- no side has a record yet
  abbrev stored : StackValue
  stored = with_word task.stack (pos (z + q.site.rec)) word.Nil

  abbrev pub begun_stack : StackValue
  begun_stack = marked stored (loop_mark q.site z)

  -- the task with that stack
  abbrev pub begun_task : List Word → BeatState → ℕ → ℕ → machine.State
  begun_task words beat label at = record task {
    registers = words;
    stack = begun_stack;
    beat = beat;
    block = label;
    at = at;
  }

  from : task.stack.base ≤ z + q.site.rec
  from = omega (arith, shows.low)

  within : z + q.site.rec < task.stack.base + length task.stack.cells
  within = omega (arith, shows.room, q.nested, rec_is code heartbeat z act q S lowest)

  others : (a : ℕ) → a ≢ z + q.site.rec → word_at stored (pos a) ≡ word_at task.stack (pos a)
  others a ne = word_other task.stack (z + q.site.rec) a word.Nil from ne

  -- cells of variables
  value_same : (x : ℕ)
      → word_at stored (pos (z + value_cell x)) ≡ word_at task.stack (pos (z + value_cell x))
  value_same x =
      others (z + value_cell x)
      (λ e. absurd (omega (arith, e, rec_is code heartbeat z act q S lowest, q.nested)))

  pub shows_begun : (words : List Word) (beat : BeatState) (label at : ℕ) → length words ≡ 32
      → register words 31 ≡ word.Int (pos z)
      → ShowsIn code heartbeat z act fuel
      (T code heartbeat z act q S lowest k st.vars shows.named true m j) (Host i) q.names st
      (begun_task words beat label at)
  shows_begun words beat label at size base = record {
    size = size;
    base = base;
    limit = shows.limit;
    limited = shows.limited;
    tall = shows.tall;
    ticks = shows.ticks;
    within = shows.within;
    begun = shows.begun;
    printed = shows.printed;
    ends = shows.ends;
    free = shows.free;
    unmet = shows.unmet;
    marked = ap (λ (ms : List Mark). ms ++ loop_mark q.site z ∷ []) shows.marked;
    named = shows.named;
    few = shows.few;
    tabled = shows.tabled;
    held = shows.held;
    can = shows.can;
    ranged = shows.ranged;
    levels = others (z + levels_cell)
        (λ e. absurd (omega (arith, e, rec_is code heartbeat z act q S lowest))) ∙ shows.levels;
    unmarked =
        ap (λ (ms : List Mark). is_marked_from (ms ++ loop_mark q.site z ∷ []) (z + act.size))
        shows.marked
        ∙ clear_above (S.marks i ++ loop_mark q.site z ∷ []) (z + value_cell (suc level))
        (z + act.size) (omega (arith, shows.top, shows.room, q.fits))
        (clear_of code heartbeat z act q S lowest true (Host i));
    top = omega (arith, shows.top, words_as_many task.stack (z + q.site.rec) word.Nil);
    low = shows.low;
    room = omega (arith, shows.room, words_as_many task.stack (z + q.site.rec) word.Nil);
    vars = held_same task.stack begun_stack z 0 st.vars (λ x low high. value_same x) shows.vars;
    keeps = record {
      outer = S.stable i level task.stack begun_stack lowest
          (record { base = refl; at = λ a lt apart. others a (apart q.site.rec free_rec) })
          shows.keeps;
      rec = word_same task.stack (z + q.site.rec) word.Nil from within;
      next = value_same level ∙ next_in;
      bound = others (z + bound_cell level)
          (λ e. absurd (omega (arith, e, rec_is code heartbeat z act q S lowest, q.nested)))
          ∙ bound_in;
      fixed = fixed_same q.loop.reduces.items task.stack begun_stack z 0 st.vars
          (λ x below apart. value_same x)
          (held_fixed q.loop.reduces.items task.stack z 0 st.vars shows.vars);
      enough = tt;
    };
  }

  mark_held : HoldsMark stored (loop_mark q.site z)
  mark_held =
      let cells : q.site.cells ≡ act.size = ap (λ (s : LoopSite). s.cells) q.is_site.is in
      let many : length stored.cells ≡ length task.stack.cells =
      words_as_many task.stack (z + q.site.rec) word.Nil in (
        (omega (arith, shows.low), omega (arith, cells, many, shows.top)),
        omega arith,
        omega (
          arith,
          cells,
          mark_is code heartbeat z act q S lowest,
          shows.top,
          shows.room,
          q.fits,
        ),
      )

  mark_free : is_marked_from stored.marks (z + q.site.mark) ≡ false
  mark_free =
      ap (λ (ms : List Mark). is_marked_from ms (z + q.site.mark)) shows.marked
      ∙ clear_above (S.marks i) (z + value_cell S.lowest) (z + q.site.mark)
      (omega (arith, lowest, mark_is code heartbeat z act q S lowest)) (S.below i)

  -- the record is none, and the mark is set
  pub begins_marked : (K : Back code heartbeat) (first : ℕ) (end : Term) (words : List Word)
      (beat : BeatState) (at : ℕ) → register words 31 ≡ word.Int (pos z)
      → Remains code task.block at (marked_begin q.site first) end
      → (Remains code task.block (at + 1 + 1) (instr.IfJump 3 first ∷ []) end
      → K.Holds (begun_task words (counted (counted beat)) task.block (at + 1 + 1)))
      → K.Holds (moved task words beat at)
  begins_marked K first end words beat at base stands go =
      stores_in code heartbeat z act fuel K (moved task words beat at) q.site.rec value.Nil _ end
      stands base shows.low within
      (on_prmpush code heartbeat K one 31 q.site.mark q.site.cells _ z
      (next code one _ _ end second) base mark_held mark_free
      (go (behind code task.block (at + 1) _ _ end second)))
    where
      one : machine.State
      one = effect.with_stack (advanced (moved task words beat at)) stored

      second : Remains code task.block (at + 1)
          (instr.PrmPush base_register q.site.mark q.site.cells (split_label q.site)
          ∷ instr.IfJump 3 first ∷ []) end
      second = behind code task.block at _ _ end stands

-- ---- the law

module _ (code : Listing) (heartbeat z : ℕ) (act : Activation) (q : ParAt code act)
    (S : Scene code heartbeat z) (lowest : S.lowest ≤ length q.names) (k : meaning.State → Result)
    (set : Setting) (expr_law : ExprLaw code heartbeat) (first : ℕ) (calm_first : IsCalm code first)
  where
    abbrev body : meaning.State → Ran
    body = run_list (record set { reduces = q.loop.reduces.items }) q.loop.body.items

    -- a task at the block where the whole loop begins owes all iterations
    abbrev pub FirstOwed : Type 0
    FirstOwed =
        (n : ℕ) → suc n ≤ MAX_PAR_LENGTH → (m j : ℤ) → IsGap (suc n) m j → InRange m → InRange j
        → (i : S.World) (st : meaning.State) (named : var_names st.vars ≡ q.names)
        (task : machine.State)
        → ShowsIn code heartbeat z act set.fuel
        (T code heartbeat z act q S lowest k st.vars named true m j) (Host i) q.names st task
        → task.block ≡ first → task.at ≡ 0
        → (S.owing i (then (result (iterate set.fuel q.loop.var.text.items body (Chance ∷ []) []
        (suc n) m st)) k)).Holds task

    pub quiet_begins : (free_rec : S.may q.site.rec) (check wide : ℕ)
        → Opens code check (length_test wide (marked_begin q.site first)) (to wide)
        → AreAt code wide (trap_block wide Wide q.loop.place ∷ []) → FirstOwed
        → Begun code heartbeat z act set expr_law S q.names lowest q.fits k q.loop check
    quiet_begins free_rec check wide tests trap owed n m j gap some in_m in_j i st task shows
        at_label at_begin is_m is_j cell bound =
        measured code heartbeat z act set.fuel S i q.names st r check wide q.loop.place
        (marked_begin q.site first) (suc n) m j in_m in_j gap tests trap task shows at_label
        at_begin is_m is_j
        (stops_wide code heartbeat z act set expr_law S q.names lowest q.fits k q.loop
        (suc n) m j st
        some)
        (λ fits width words beat at shows_words is_fit is_first is_second left.
        begins_marked code heartbeat z act q S lowest k set.fuel i st task shows free_rec m j cell
        bound (S.owing i r) first (to wide) words beat at shows_words.base left
        (by_fit fits width words beat at shows_words.size shows_words.base is_fit))
      where
        r : Result
        r = then (result (unless_wide (too_wide m j) q.loop.place
            (iterating code heartbeat z act set expr_law S q.names lowest q.fits k q.loop m j) st))
            k

        there : List Word → BeatState → ℕ → ℕ → machine.State
        there words beat label at =
            begun_task code heartbeat z act q S lowest k set.fuel i st task shows free_rec m j cell
            bound words beat label at

        by_fit : (fits : Bool) → nat_lt MAX_PAR_LENGTH (suc n) ≡ not fits → (words : List Word)
            (beat : BeatState) (at : ℕ) → length words ≡ 32 → register words 31 ≡ word.Int (pos z)
            → register words 3 ≡ word.Int (truth fits)
            → Remains code task.block (at + 1 + 1) (instr.IfJump 3 first ∷ []) (to wide)
            → (S.owing i r).Holds (there words (counted (counted beat)) task.block (at + 1 + 1))
        by_fit true narrow words beat at size base is left =
            let here : machine.State = there words (counted (counted beat)) task.block
            (at + 1 + 1) in
            let short : suc n ≤ MAX_PAR_LENGTH = grind (arith, nat_tests) in
            on_if code heartbeat (S.owing i r) here 3 first (pos 1)
            (next code here _ [] (to wide) left) is refl
            calm_first
            (subst (λ (ran : Ran). (S.owing i (then (result ran) k)).Holds
            (there words (counted (counted (counted beat))) first 0))
            (sym (runs_narrow code heartbeat z act set expr_law S q.names lowest q.fits k q.loop
            (suc n) m j st some narrow))
            (owed n short m j gap in_m in_j i st shows.named _
            (shows_begun code heartbeat z act q S lowest k set.fuel i st task shows free_rec m j
            cell
            bound words (counted (counted (counted beat))) first 0 size base) refl refl))
        by_fit false wide_it words beat at size base is left =
            let here : machine.State = there words (counted (counted beat)) task.block
            (at + 1 + 1) in
            on_if_not code heartbeat (S.owing i r) here 3 first
            (next code here _ [] (to wide) left) is
            (on_jump code heartbeat (S.owing i r) (advanced here) (value.Label wide) wide
            (at_end code (advanced here) (to wide)
            (behind code task.block (at + 1 + 1) _ [] (to wide) left)) refl
            (ap (λ o. is_ready (note_of o)) trap.0)
            (traps_wide code heartbeat z act set.fuel S i q.names st r wide q.loop.place trap
            (stops_wide code heartbeat z act set expr_law S q.names lowest q.fits k q.loop
            (suc n) m j
            st some wide_it) task shows words
            (begun_stack code heartbeat z act q S lowest k set.fuel i st task shows free_rec m j
            cell
            bound) _))
