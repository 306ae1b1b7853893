-- The begin of a `par` that may be cut in the middle of an iteration.
use Rattle.std.proofs.Common.{◌≡◌, ◌≢◌, ℕ, suc, ◌+◌, ◌<◌, ◌≤◌, Bool, true, false, List, [], ◌∷◌}
use Rattle.std.proofs.Common.{◌++◌, length}
use Rattle.std.proofs.Common.{Some, refl, sym, ap, subst, ◌∙◌, arith}
use Rattle.std.specs.Prelude.{ℤ, pos, nat_lt, not}
use Rattle.std.proofs.lemmas.Bool.Decides.{nat_tests}
use Rattle.beat_count.specs.BeatState.{BeatState}
use Rattle.beat_count.specs.Heartbeat.{counted}
use Rattle.stack_marks.specs.Causes.{HoldsMark}
use Rattle.stack_marks.specs.declared.mark.Mark.{Mark}
use Rattle.stack_marks.specs.Stacks.{StackValue, marked, with_word, word_at}
use Rattle.tp_value.specs.declared.limits.TheConstants.{MAX_PAR_LENGTH}
use Rattle.tp_value.specs.Number.{truth}
use Rattle.loop_syntax.specs.declared.Reduce.{Reduce}
use Rattle.loop_meaning.specs.Calls.{call_at}
use Rattle.loop_meaning.specs.State as meaning
use Rattle.loop_meaning.specs.State.{Ran}
use Rattle.loop_meaning.specs.Statements.{Setting, too_wide, unless_wide}
use Rattle.tpal_syntax.specs.declared.instructions.Instr.TheVariants as instr
use Rattle.tpal_syntax.specs.declared.instructions.Term.{Term}
use Rattle.tpal_syntax.specs.declared.instructions.Value.TheVariants as value
use Rattle.tpal_syntax.specs.declared.words.Word.{Word}
use Rattle.tpal_syntax.specs.declared.words.Word.TheVariants as word
use Rattle.tpal_syntax.specs.Conditions.{is_ready}
use Rattle.tpal_syntax.specs.Listing.{Listing}
use Rattle.tpal_machine.specs.Effect as effect
use Rattle.tpal_machine.specs.Effect.{is_marked_from}
use Rattle.tpal_machine.specs.Reading.{note_of, register}
use Rattle.tpal_machine.specs.State as machine
use Rattle.tpal_machine.specs.Step.{advanced}
use Rattle.tpal_machine.proofs.Kit.{Back, on_if, on_if_not, on_jump}
use Rattle.expr_lower.specs.Leaving.{moved}
use Rattle.expr_lower.specs.Standing.{Remains}
use Rattle.expr_lower.proofs.Standing.{at_end, behind, next}
use Rattle.handler_gen.proofs.Marks.{on_prmpush}
use Rattle.handler_gen.specs.LoopCuts.{loop_mark}
use Rattle.handler_gen.specs.Sites.{first_label, split_label}
use Rattle.expr_lower.specs.Registers.{base_register}
use Rattle.handler_gen.proofs.Words.{word_other, word_same, words_as_many}
use Rattle.scene_laws.specs.Code.{store, to}
use Rattle.scene_laws.specs.DeepMarked.{next_begun}
use Rattle.scene_laws.specs.Layout.{Activation, bound_cell, levels_cell, value_cell}
use Rattle.scene_laws.specs.Marked.{marked_begin}
use Rattle.scene_laws.proofs.Scenes.Activations.{clear_above}
use Rattle.par_laws.proofs.DeepPars.DeepScenes.{Deep, FirstOwed, between, bound_is, cells_are}
use Rattle.par_laws.proofs.DeepPars.DeepScenes.{clear_of}
use Rattle.par_laws.proofs.DeepPars.DeepScenes.{cursor_is}
use Rattle.par_laws.proofs.DeepPars.DeepScenes.{mark_is, rec_is}
use Rattle.scene_laws.proofs.Scenes.Moves.{calm}
use Rattle.par_laws.proofs.QuietPars.Pars.{Begun, iterating, measured, runs_narrow, stops_wide}
use Rattle.par_laws.proofs.QuietPars.Pars.{traps_wide}
use Rattle.scene_laws.proofs.Scenes.Pieces.{Host}
use Rattle.scene_laws.proofs.Scenes.Results.{Result, result, then}
use Rattle.scene_laws.proofs.Scenes.Scene.{ShowsIn}
use Rattle.form_laws.proofs.Forms.Simple.{stores_in}
use Rattle.scene_laws.proofs.Scenes.Values.{ExprLaw}
use Rattle.scene_laws.proofs.Scenes.Variables.{held_same}

module _ {code : Listing} {heartbeat z : ℕ} {act : Activation} (d : Deep code heartbeat z act)
    (i : d.S.World) (st : meaning.State) (task : machine.State)
    (shows : ShowsIn code heartbeat z act d.fuel d.S i d.q.names st task) (m j : ℤ)
    (bound_in : word_at task.stack (pos (z + bound_cell (length d.q.names)))
    ≡ Some (word.Int j)) where
  abbrev level : ℕ
  level = length d.q.names

  -- the number of the first iteration is that of the next one, and no side has a record yet
  abbrev cursor_set : StackValue
  cursor_set = with_word task.stack (pos (z + d.q.site.cursor)) (word.Int m)

  abbrev stored : StackValue
  stored = with_word cursor_set (pos (z + d.q.site.rec)) word.Nil

  abbrev pub begun_stack : StackValue
  begun_stack = marked stored (loop_mark d.q.site z)

  -- the task with that stack
  abbrev pub begun_task : List Word → BeatState → ℕ → ℕ → machine.State
  begun_task words beat label at = record task {
    registers = words;
    stack = begun_stack;
    beat = beat;
    block = label;
    at = at;
  }

  many_set : length cursor_set.cells ≡ length task.stack.cells
  many_set = words_as_many task.stack (z + d.q.site.cursor) (word.Int m)

  many_stored : length stored.cells ≡ length task.stack.cells
  many_stored = words_as_many cursor_set (z + d.q.site.rec) word.Nil ∙ many_set

  cursor_from : task.stack.base ≤ z + d.q.site.cursor
  cursor_from = omega (arith, shows.low)

  cursor_in : z + d.q.site.cursor < task.stack.base + length task.stack.cells
  cursor_in = omega (arith, shows.room, d.q.nested, cursor_is d)

  rec_from : cursor_set.base ≤ z + d.q.site.rec
  rec_from = omega (arith, shows.low)

  rec_in : z + d.q.site.rec < cursor_set.base + length cursor_set.cells
  rec_in = omega (arith, many_set, shows.room, d.q.nested, rec_is d)

  others : (a : ℕ) → a ≢ z + d.q.site.cursor → a ≢ z + d.q.site.rec
      → word_at stored (pos a) ≡ word_at task.stack (pos a)
  others a not_cursor not_rec =
      word_other cursor_set (z + d.q.site.rec) a word.Nil rec_from not_rec
      ∙ word_other task.stack (z + d.q.site.cursor) a (word.Int m) cursor_from not_cursor

  -- cells of variables
  value_same : (x : ℕ)
      → word_at stored (pos (z + value_cell x)) ≡ word_at task.stack (pos (z + value_cell x))
  value_same x =
      others (z + value_cell x) (λ e. absurd (omega (arith, e, cursor_is d, d.q.nested)))
      (λ e. absurd (omega (arith, e, rec_is d, d.q.nested)))

  marks_there : begun_stack.marks ≡ d.S.marks i ++ loop_mark d.q.site z ∷ []
  marks_there = ap (λ (ms : List Mark). ms ++ loop_mark d.q.site z ∷ []) shows.marked

  pub shows_begun : (words : List Word) (beat : BeatState) (label at : ℕ) → length words ≡ 32
      → register words 31 ≡ word.Int (pos z)
      → ShowsIn code heartbeat z act d.fuel (between d true m j) (Host i) d.q.names st
      (begun_task words beat label at)
  shows_begun words beat label at size base = record {
    size = size;
    base = base;
    limit = shows.limit;
    limited = shows.limited;
    tall = shows.tall;
    ticks = shows.ticks;
    within = shows.within;
    begun = shows.begun;
    printed = shows.printed;
    ends = shows.ends;
    free = shows.free;
    unmet = shows.unmet;
    marked = marks_there;
    named = shows.named;
    few = shows.few;
    tabled = shows.tabled;
    held = shows.held;
    can = shows.can;
    ranged = shows.ranged;
    levels = others (z + levels_cell) (λ e. absurd (omega (arith, e, cursor_is d)))
        (λ e. absurd (omega (arith, e, rec_is d))) ∙ shows.levels;
    unmarked =
        ap (λ (ms : List Mark). is_marked_from ms (z + act.size)) marks_there
        ∙ clear_above (d.S.marks i ++ loop_mark d.q.site z ∷ []) (z + value_cell (suc level))
        (z + act.size) (omega (arith, d.space, d.q.fits)) (clear_of d true (Host i));
    top = omega (arith, shows.top, many_stored);
    low = shows.low;
    room = omega (arith, shows.room, many_stored);
    vars = held_same task.stack begun_stack z 0 st.vars (λ x low high. value_same x) shows.vars;
    keeps = record {
      outer = d.S.stable i level task.stack begun_stack d.lowest
          (record {
            base = refl;
            at = λ a lt apart. others a (apart d.q.site.cursor d.free_cursor)
                (apart d.q.site.rec d.free_rec);
          }) shows.keeps;
      rec = word_same cursor_set (z + d.q.site.rec) word.Nil rec_from rec_in;
      cursor = word_other cursor_set (z + d.q.site.rec) (z + d.q.site.cursor) word.Nil rec_from
          (λ e. absurd (omega (arith, e, rec_is d, cursor_is d)))
          ∙ word_same task.stack (z + d.q.site.cursor) (word.Int m) cursor_from cursor_in;
      bound = ap (λ (o : ℕ). word_at stored (pos (z + o))) (bound_is d)
          ∙ (others (z + bound_cell level)
          (λ e. absurd (omega (arith, e, cursor_is d, d.q.nested)))
          (λ e. absurd (omega (arith, e, rec_is d, d.q.nested))) ∙ bound_in);
    };
  }

  mark_held : HoldsMark stored (loop_mark d.q.site z)
  mark_held = (
    (omega (arith, shows.low), omega (arith, cells_are d, many_stored, shows.top)),
    omega arith,
    omega (arith, cells_are d, mark_is d, d.space, d.q.fits),
  )

  mark_free : is_marked_from stored.marks (z + d.q.site.mark) ≡ false
  mark_free =
      ap (λ (ms : List Mark). is_marked_from ms (z + d.q.site.mark)) shows.marked
      ∙ clear_above (d.S.marks i) (z + value_cell d.S.lowest) (z + d.q.site.mark)
      (omega (arith, d.lowest, mark_is d)) (d.S.below i)

  -- the cursor is set, the record is none, and the mark is set
  pub begins_marked : (K : Back code heartbeat) (first : ℕ) (end : Term) (words : List Word)
      (beat : BeatState) (at : ℕ) → register words 31 ≡ word.Int (pos z)
      → register words 1 ≡ word.Int m
      → Remains code task.block at
      (store d.q.site.cursor (value.Reg 1) ∷ marked_begin d.q.site first) end
      → (Remains code task.block (at + 1 + 1 + 1) (instr.IfJump 3 first ∷ []) end
      → K.Holds (begun_task words (counted (counted (counted beat))) task.block (at + 1 + 1 + 1)))
      → K.Holds (moved task words beat at)
  begins_marked K first end words beat at base is_first stands go =
      stores_in code heartbeat z act d.fuel K (moved task words beat at) d.q.site.cursor
      (value.Reg 1) _ end stands base shows.low cursor_in
      (subst (λ (w : Word). K.Holds (effect.with_stack (advanced (moved task words beat at))
      (with_word task.stack (pos (z + d.q.site.cursor)) w))) (sym is_first)
      (stores_in code heartbeat z act d.fuel K one d.q.site.rec value.Nil _ end second base
      shows.low rec_in
      (on_prmpush code heartbeat K two 31 d.q.site.mark d.q.site.cells _ z
      (next code two _ _ end third) base mark_held mark_free
      (go (behind code task.block (at + 1 + 1) _ _ end third)))))
    where
      one : machine.State
      one = effect.with_stack (advanced (moved task words beat at)) cursor_set

      two : machine.State
      two = effect.with_stack (advanced one) stored

      second : Remains code task.block (at + 1) (marked_begin d.q.site first) end
      second = behind code task.block at _ _ end stands

      third : Remains code task.block (at + 1 + 1)
          (instr.PrmPush base_register d.q.site.mark d.q.site.cells (split_label d.q.site)
          ∷ instr.IfJump 3 first ∷ []) end
      third = behind code task.block (at + 1) _ _ end second

-- ---- the begin of the statement

module _ {code : Listing} {heartbeat z : ℕ} {act : Activation} (d : Deep code heartbeat z act)
    (expr_law : ExprLaw code heartbeat) (reduces : List Reduce) where
  abbrev pub set : Setting
  set = record { reduces = reduces; fuel = d.fuel; call = call_at d.p.funcs.items d.fuel d.room }

  pub deep_begins : ((n : ℕ) → FirstOwed d n)
      → Begun code heartbeat z act set expr_law d.S d.q.names d.lowest d.q.fits d.k d.q.loop
      d.q.check
  deep_begins owed n m j gap some in_m in_j i st task shows at_label at_begin is_m is_j cell bound =
      measured code heartbeat z act d.fuel d.S i d.q.names st r d.q.check d.q.is_deep.wide
      d.q.loop.place
      (store d.q.site.cursor (value.Reg 1) ∷ marked_begin d.q.site first) (suc n) m j in_m in_j gap
      d.q.is_deep.begins d.q.is_deep.too_wide task shows at_label at_begin is_m is_j
      (stops_wide code heartbeat z act set expr_law d.S d.q.names d.lowest d.q.fits d.k d.q.loop
      (suc n) m j st some)
      (λ fits width words beat at shows_words is_fit is_first is_second left.
      begins_marked d i st task shows m j bound (d.S.owing i r) first (to d.q.is_deep.wide) words
      beat at shows_words.base is_first left
      (by_fit fits width words beat at shows_words.size shows_words.base is_fit))
    where
      first : ℕ
      first = first_label d.q.site.label

      r : Result
      r = then (result (unless_wide (too_wide m j) d.q.loop.place
          (iterating code heartbeat z act set expr_law d.S d.q.names d.lowest d.q.fits d.k d.q.loop
          m j) st)) d.k

      there : List Word → BeatState → ℕ → ℕ → machine.State
      there words beat label at = begun_task d i st task shows m j bound words beat label at

      by_fit : (fits : Bool) → nat_lt MAX_PAR_LENGTH (suc n) ≡ not fits → (words : List Word)
          (beat : BeatState) (at : ℕ) → length words ≡ 32 → register words 31 ≡ word.Int (pos z)
          → register words 3 ≡ word.Int (truth fits)
          → Remains code task.block (at + 1 + 1 + 1) (instr.IfJump 3 first ∷ [])
          (to d.q.is_deep.wide)
          → (d.S.owing i r).Holds
          (there words (counted (counted (counted beat))) task.block (at + 1 + 1 + 1))
      by_fit true narrow words beat at size base is left =
          let here : machine.State =
          there words (counted (counted (counted beat))) task.block (at + 1 + 1 + 1) in
          let short : suc n ≤ MAX_PAR_LENGTH = grind (arith, nat_tests) in
          on_if code heartbeat (d.S.owing i r) here 3 first (pos 1)
          (next code here _ [] (to d.q.is_deep.wide) left) is refl
          (calm code first (next_begun d.q.site (length d.q.names) d.q.turn) (to d.q.is_deep.last)
          d.q.is_deep.first)
          (subst (λ (ran : Ran). (d.S.owing i (then (result ran) d.k)).Holds
          (there words (counted (counted (counted (counted beat)))) first 0))
          (sym (runs_narrow code heartbeat z act set expr_law d.S d.q.names d.lowest d.q.fits d.k
          d.q.loop (suc n) m j st some narrow))
          (owed n m j (Host i) st _
          (shows_begun d i st task shows m j bound words
          (counted (counted (counted (counted beat)))) first 0 size base) tt gap in_m in_j short
          refl
          refl))
      by_fit false wide_it words beat at size base is left =
          let here : machine.State =
          there words (counted (counted (counted beat))) task.block (at + 1 + 1 + 1) in
          on_if_not code heartbeat (d.S.owing i r) here 3 first
          (next code here _ [] (to d.q.is_deep.wide) left) is
          (on_jump code heartbeat (d.S.owing i r) (advanced here) (value.Label d.q.is_deep.wide)
          d.q.is_deep.wide
          (at_end code (advanced here) (to d.q.is_deep.wide)
          (behind code task.block (at + 1 + 1 + 1) _ [] (to d.q.is_deep.wide) left)) refl
          (ap (λ o. is_ready (note_of o)) d.q.is_deep.too_wide.0)
          (traps_wide code heartbeat z act d.fuel d.S i d.q.names st r d.q.is_deep.wide
          d.q.loop.place d.q.is_deep.too_wide
          (stops_wide code heartbeat z act set expr_law d.S d.q.names d.lowest d.q.fits d.k d.q.loop
          (suc n) m j st some wide_it) task shows words (begun_stack d i st task shows m j bound)
          _))
