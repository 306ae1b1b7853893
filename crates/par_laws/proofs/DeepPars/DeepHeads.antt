-- The begin of an iteration of a `par` that may be cut in the middle of it: the cursor goes on, and
-- the mark goes before the last iteration.
use Rattle.std.proofs.Common.{◌≡◌, ◌≢◌, ℕ, suc, ◌+◌, ◌<◌, ◌≤◌, Bool, false, List, [], ◌∷◌}
use Rattle.std.proofs.Common.{length, Some, Ok, refl, sym, ap, subst, ◌∙◌, arith}
use Rattle.std.specs.Prelude.{ℤ, pos, negsuc, ◌+ℤ◌, ◌-ℤ◌, int_lt, slice_set}
use Rattle.std.specs.Int.{int_wrap, w64}
use Rattle.std.proofs.lemmas.Int.{ints, int_wrap_fits}
use Rattle.std.proofs.lemmas.List.{length-set}
use Rattle.beat_count.specs.BeatState.{BeatState}
use Rattle.beat_count.specs.Heartbeat.{counted}
use Rattle.stack_marks.specs.declared.mark.Mark.{Mark}
use Rattle.stack_marks.specs.Stacks.{StackValue, with_word, word_at}
use Rattle.tp_value.specs.declared.limits.TheConstants.{MAX_PAR_LENGTH}
use Rattle.tp_value.specs.Number.{truth}
use Rattle.loop_meaning.specs.InRange.{InRange}
use Rattle.loop_meaning.specs.State as meaning
use Rattle.tpal_syntax.specs.declared.instructions.Alu.TheVariants as alu
use Rattle.tpal_syntax.specs.declared.instructions.Instr.{Instr}
use Rattle.tpal_syntax.specs.declared.instructions.Instr.TheVariants as instr
use Rattle.tpal_syntax.specs.declared.instructions.Term.{Term}
use Rattle.tpal_syntax.specs.declared.instructions.Value.TheVariants as value
use Rattle.tpal_syntax.specs.declared.words.Word.{Word}
use Rattle.tpal_syntax.specs.declared.words.Word.TheVariants as word
use Rattle.tpal_syntax.specs.Listing.{Listing}
use Rattle.tpal_machine.specs.Calculation.{calculated}
use Rattle.tpal_machine.specs.Effect as effect
use Rattle.tpal_machine.specs.Effect.{is_marked_from}
use Rattle.tpal_machine.specs.Reading.{register, with_register}
use Rattle.tpal_machine.specs.State as machine
use Rattle.tpal_machine.specs.Step.{advanced}
use Rattle.tpal_machine.proofs.Kit.{Back, on_calc, on_load}
use Rattle.expr_lower.specs.Standing.{Remains}
use Rattle.expr_lower.proofs.Keeping.{register_other, register_set}
use Rattle.expr_lower.proofs.Standing.{behind, next}
use Rattle.handler_gen.proofs.Words.{word_other, word_same, words_as_many}
use Rattle.scene_laws.specs.Code.{load, store, to}
use Rattle.scene_laws.specs.DeepMarked.{next_begun}
use Rattle.scene_laws.specs.Layout.{Activation, levels_cell, value_cell}
use Rattle.scene_laws.proofs.Scenes.Activations.{clear_above}
use Rattle.scene_laws.proofs.Scenes.Changing.{changed_refl}
use Rattle.par_laws.proofs.DeepPars.DeepRunning.{Handles, Running, are_any, running}
use Rattle.par_laws.proofs.DeepPars.DeepScenes.{Deep, between, bound_is, clear_of, cursor_is}
use Rattle.par_laws.proofs.DeepPars.DeepScenes.{enough_of}
use Rattle.par_laws.proofs.DeepPars.DeepScenes.{marks_of}
use Rattle.par_laws.proofs.DeepPars.DeepScenes.{ended_pieces, outer_stable, rec_is, rec_of}
use Rattle.scene_laws.proofs.Scenes.Fixed.{held_fixed}
use Rattle.scene_laws.proofs.Scenes.Pieces.{Piece}
use Rattle.scene_laws.proofs.Scenes.Scene.{Same, ShowsIn}
use Rattle.scene_laws.proofs.Scenes.Showing.{as_many}
use Rattle.form_laws.proofs.Forms.Simple.{stores, stores_in}
use Rattle.scene_laws.proofs.Scenes.Variables.{AreHeld, held_in_range, held_same}

module _ {code : Listing} {heartbeat z : ℕ} {act : Activation} (d : Deep code heartbeat z act)
    (stood : Bool) (n : ℕ) (m j : ℤ) (i : Piece d.S.World) (st : meaning.State)
    (task : machine.State)
    (shows : ShowsIn code heartbeat z act d.fuel (between d stood m j) i d.q.names st task)
    (far : j ≡ m +ℤ pos n) (in_m : InRange m) (in_j : InRange j) (short : n ≤ MAX_PAR_LENGTH) where
  abbrev level : ℕ
  level = length d.q.names

  abbrev s : StackValue
  s = task.stack

  -- the number behind the cursor, in 64 bits
  abbrev later : ℤ
  later = int_wrap w64 (m +ℤ pos 1)

  abbrev one_stored : StackValue
  one_stored = with_word s (pos (z + value_cell level)) (word.Int m)

  abbrev pub stored : StackValue
  stored = with_word one_stored (pos (z + d.q.site.cursor)) (word.Int later)

  -- the task behind its begin
  abbrev pub begun_task : List Word → BeatState → ℕ → ℕ → machine.State
  begun_task words beat label at = record task {
    registers = words;
    stack = stored;
    beat = beat;
    block = label;
    at = at;
  }

  from_value : s.base ≤ z + value_cell level
  from_value = omega (arith, shows.low)

  value_in : z + value_cell level < s.base + length s.cells
  value_in = omega (arith, shows.room, d.q.fits)

  from_cursor : one_stored.base ≤ z + d.q.site.cursor
  from_cursor = omega (arith, shows.low)

  many_one : length one_stored.cells ≡ length s.cells
  many_one = words_as_many s (z + value_cell level) (word.Int m)

  cursor_in : z + d.q.site.cursor < one_stored.base + length one_stored.cells
  cursor_in = omega (arith, many_one, cursor_is d, d.q.nested, shows.room)

  pub stored_many : length stored.cells ≡ length s.cells
  stored_many =
      words_as_many one_stored (z + d.q.site.cursor) (word.Int later) ∙ many_one

  pub stored_value : word_at stored (pos (z + value_cell level)) ≡ Some (word.Int m)
  stored_value =
      word_other one_stored (z + d.q.site.cursor) (z + value_cell level) (word.Int later)
      from_cursor
      (λ e. absurd (omega (arith, e, cursor_is d, d.q.nested)))
      ∙ word_same s (z + value_cell level) (word.Int m) from_value value_in

  pub stored_cursor : word_at stored (pos (z + d.q.site.cursor)) ≡ Some (word.Int later)
  stored_cursor =
      word_same one_stored (z + d.q.site.cursor) (word.Int later) from_cursor cursor_in

  pub stored_other : (a : ℕ) → a ≢ z + value_cell level → a ≢ z + d.q.site.cursor
      → word_at stored (pos a) ≡ word_at s (pos a)
  stored_other a not_value not_cursor =
      word_other one_stored (z + d.q.site.cursor) a (word.Int later) from_cursor not_cursor
      ∙ word_other s (z + value_cell level) a (word.Int m) from_value not_value

  -- the world in which an iteration runs, where so many more aren't begun
  module _ (N more : ℕ) (few : more ≤ N) (one_more : n ≡ suc more)
      (enough : enough_of d i st.vars m j) where
    abbrev pub world : Running d N
    world = record {
      piece = i;
      from = m;
      to = j;
      more = more;
      start = st;
      far = omega (arith, ints, far, one_more);
      few = few;
      short = omega (arith, short, one_more);
      in_from = in_m;
      in_to = in_j;
      named = shows.named;
      tabled = shows.tabled;
      ranged = record { vars = held_in_range s z 0 st.vars shows.vars; tables = shows.ranged };
      within = shows.within;
      begins = shows.begun;
    }

    next_fits : InRange (m +ℤ pos 1)
    next_fits = omega (arith, ints, in_m, in_j, far, one_more)

  -- ---- the instructions

  module _ (K : Back code heartbeat)
      (stands : Remains code task.block task.at (next_begun d.q.site level d.q.turn)
      (to d.q.is_deep.last)) where
    abbrev end : Term
    end = to d.q.is_deep.last

    abbrev rest_six : List Instr
    rest_six = instr.Calc 2 3 alu.Lt (value.Int (negsuc 0)) ∷ instr.IfJump 2 d.q.turn ∷ []

    abbrev rest_five : List Instr
    rest_five = store d.q.site.cursor (value.Reg 1) ∷ rest_six

    abbrev rest_four : List Instr
    rest_four = instr.Calc 1 1 alu.Add (value.Int (pos 1)) ∷ rest_five

    abbrev rest_three : List Instr
    rest_three = store (value_cell level) (value.Reg 1) ∷ rest_four

    abbrev rest_two : List Instr
    rest_two = instr.Calc 3 1 alu.Sub (value.Reg 0) ∷ rest_three

    abbrev rest_one : List Instr
    rest_one = load 0 d.q.site.bound ∷ rest_two

    abbrev one : List Word
    one = slice_set task.registers 1 (word.Int m)

    abbrev two : List Word
    two = slice_set one 0 (word.Int j)

    abbrev three : List Word
    three = slice_set two 3 (word.Int (m -ℤ j))

    abbrev four : List Word
    four = slice_set three 1 (word.Int later)

    abbrev five : List Word
    five = slice_set four 2 (word.Int (truth (int_lt (m -ℤ j) (negsuc 0))))

    size_one : length one ≡ 32
    size_one = length-set task.registers 1 (word.Int m) ∙ shows.size

    size_two : length two ≡ 32
    size_two = length-set one 0 (word.Int j) ∙ size_one

    size_three : length three ≡ 32
    size_three = length-set two 3 (word.Int (m -ℤ j)) ∙ size_two

    size_four : length four ≡ 32
    size_four = length-set three 1 (word.Int later) ∙ size_three

    size_five : length five ≡ 32
    size_five = length-set four 2 _ ∙ size_four

    base_one : register one 31 ≡ word.Int (pos z)
    base_one =
        register_other task.registers 1 31 (word.Int m) (λ (e : 31 ≡ 1). absurd (omega (arith, e)))
        ∙ shows.base

    base_two : register two 31 ≡ word.Int (pos z)
    base_two =
        register_other one 0 31 (word.Int j) (λ (e : 31 ≡ 0). absurd (omega (arith, e))) ∙ base_one

    base_three : register three 31 ≡ word.Int (pos z)
    base_three =
        register_other two 3 31 (word.Int (m -ℤ j)) (λ (e : 31 ≡ 3). absurd (omega (arith, e)))
        ∙ base_two

    base_four : register four 31 ≡ word.Int (pos z)
    base_four =
        register_other three 1 31 (word.Int later) (λ (e : 31 ≡ 1). absurd (omega (arith, e)))
        ∙ base_three

    base_five : register five 31 ≡ word.Int (pos z)
    base_five =
        register_other four 2 31 _ (λ (e : 31 ≡ 2). absurd (omega (arith, e))) ∙ base_four

    first_two : register two 1 ≡ word.Int m
    first_two =
        register_other one 0 1 (word.Int j) (λ (e : 1 ≡ 0). absurd (omega (arith, e)))
        ∙ register_set task.registers 1 (word.Int m) (omega (arith, shows.size))

    second_two : register two 0 ≡ word.Int j
    second_two = register_set one 0 (word.Int j) (omega (arith, size_one))

    first_three : register three 1 ≡ word.Int m
    first_three =
        register_other two 3 1 (word.Int (m -ℤ j)) (λ (e : 1 ≡ 3). absurd (omega (arith, e)))
        ∙ first_two

    third_three : register three 3 ≡ word.Int (m -ℤ j)
    third_three = register_set two 3 (word.Int (m -ℤ j)) (omega (arith, size_two))

    first_four : register four 1 ≡ word.Int later
    first_four = register_set three 1 (word.Int later) (omega (arith, size_three))

    third_four : register four 3 ≡ word.Int (m -ℤ j)
    third_four =
        register_other three 1 3 (word.Int later) (λ (e : 3 ≡ 1). absurd (omega (arith, e)))
        ∙ third_three

    third_five : register five 3 ≡ word.Int (m -ℤ j)
    third_five =
        register_other four 2 3 _ (λ (e : 3 ≡ 2). absurd (omega (arith, e))) ∙ third_four

    second_five : register five 2 ≡ word.Int (truth (int_lt (m -ℤ j) (negsuc 0)))
    second_five = register_set four 2 _ (omega (arith, size_four))

    differ_fits : InRange (m -ℤ j)
    differ_fits = omega (arith, ints, far, short)

    sub_is : calculated alu.Sub (register two 1) (register two 0) ≡ Ok (word.Int (m -ℤ j))
    sub_is = rw (first_two, second_two)
        (ap (λ e. Ok (word.Int e)) (int_wrap_fits w64 (m -ℤ j) differ_fits))

    add_is : calculated alu.Add (register three 1) (word.Int (pos 1)) ≡ Ok (word.Int later)
    add_is = rw first_three refl

    less_is : calculated alu.Lt (register four 3) (word.Int (negsuc 0))
        ≡ Ok (word.Int (truth (int_lt (m -ℤ j) (negsuc 0))))
    less_is = rw third_four refl

    -- the tasks on the way
    abbrev at_one : machine.State
    at_one = with_register (advanced task) 1 (word.Int m)

    abbrev at_two : machine.State
    at_two = with_register (advanced at_one) 0 (word.Int j)

    abbrev at_three : machine.State
    at_three = with_register (advanced at_two) 3 (word.Int (m -ℤ j))

    abbrev at_four : machine.State
    at_four = effect.with_stack (advanced at_three) one_stored

    abbrev at_five : machine.State
    at_five = with_register (advanced at_four) 1 (word.Int later)

    abbrev at_six : machine.State
    at_six = effect.with_stack (advanced at_five) stored

    after_one : Remains code task.block (task.at + 1) rest_one end
    after_one = behind code task.block task.at _ _ end stands

    after_two : Remains code task.block (task.at + 1 + 1) rest_two end
    after_two = behind code task.block (task.at + 1) _ _ end after_one

    after_three : Remains code task.block (task.at + 1 + 1 + 1) rest_three end
    after_three = behind code task.block (task.at + 1 + 1) _ _ end after_two

    after_four : Remains code task.block (task.at + 1 + 1 + 1 + 1) rest_four end
    after_four = behind code task.block (task.at + 1 + 1 + 1) _ _ end after_three

    after_five : Remains code task.block (task.at + 1 + 1 + 1 + 1 + 1) rest_five end
    after_five = behind code task.block (task.at + 1 + 1 + 1 + 1) _ _ end after_four

    after_six : Remains code task.block (task.at + 1 + 1 + 1 + 1 + 1 + 1) rest_six end
    after_six = behind code task.block (task.at + 1 + 1 + 1 + 1 + 1) _ _ end after_five

    after_seven : Remains code task.block (task.at + 1 + 1 + 1 + 1 + 1 + 1 + 1)
        (instr.IfJump 2 d.q.turn ∷ []) end
    after_seven = behind code task.block (task.at + 1 + 1 + 1 + 1 + 1 + 1) _ _ end after_six

    -- the next iteration's number is in the loop's variable, the cursor is one more, and the
    -- difference of the number and the bound is compared with -1
    pub begins_next : ((words : List Word) (beat : BeatState) (at : ℕ) → length words ≡ 32
        → register words 31 ≡ word.Int (pos z) → register words 3 ≡ word.Int (m -ℤ j)
        → register words 2 ≡ word.Int (truth (int_lt (m -ℤ j) (negsuc 0)))
        → Remains code task.block at (instr.IfJump 2 d.q.turn ∷ []) end
        → K.Holds (begun_task words beat task.block at)) → K.Holds task
    begins_next go =
        on_load code heartbeat K task 1 31 d.q.site.cursor (pos z) (word.Int m)
        (next code task _ _ end stands) shows.base shows.keeps.cursor
        (on_load code heartbeat K at_one 0 31 d.q.site.bound (pos z) (word.Int j)
        (next code at_one _ _ end after_one) base_one shows.keeps.bound
        (on_calc code heartbeat K at_two 3 1 alu.Sub (value.Reg 0) (word.Int (m -ℤ j))
        (next code at_two _ _ end after_two) sub_is
        (stores code heartbeat z act d.fuel K at_three (value_cell level) (value.Reg 1) _ end
        after_three base_three shows.low shows.room (omega (arith, d.q.fits))
        (subst (λ (w : Word). K.Holds (effect.with_stack (advanced at_three)
        (with_word s (pos (z + value_cell level)) w))) (sym first_three)
        (on_calc code heartbeat K at_four 1 1 alu.Add (value.Int (pos 1)) (word.Int later)
        (next code at_four _ _ end after_four) add_is
        (stores_in code heartbeat z act d.fuel K at_five d.q.site.cursor (value.Reg 1) _ end
        after_five base_four shows.low cursor_in
        (subst (λ (w : Word). K.Holds (effect.with_stack (advanced at_five)
        (with_word one_stored (pos (z + d.q.site.cursor)) w))) (sym first_four)
        (on_calc code heartbeat K at_six 2 3 alu.Lt (value.Int (negsuc 0)) _
        (next code at_six _ _ end after_six) less_is
        (go five (counted (counted (counted (counted (counted (counted (counted task.beat)))))))
        (task.at + 1 + 1 + 1 + 1 + 1 + 1 + 1) size_five base_five third_five second_five
        after_seven)))))))))

  -- ---- what it shows

  -- a stack behind the begin, with the mark or without it
  pub record IsBegun (marks : List Mark) (t : StackValue) : Type 0 where
    pub base : t.base ≡ s.base
    pub many : length t.cells ≡ length s.cells
    pub marked : t.marks ≡ marks
    pub words : (a : ℕ) → word_at t (pos a) ≡ word_at stored (pos a)

  module _ (marks : List Mark) (t : StackValue) (b : IsBegun marks t) where
    other : (a : ℕ) → a ≢ z + value_cell level → a ≢ z + d.q.site.cursor
        → word_at t (pos a) ≡ word_at s (pos a)
    other a not_value not_cursor = b.words a ∙ stored_other a not_value not_cursor

    same_below : Same z d.S.may level s t
    same_below = record {
      base = b.base;
      at = λ a low others. other a (λ e. absurd (omega (arith, e, low)))
          (others d.q.site.cursor d.free_cursor);
    }

    top : t.base + length t.cells ≡ z + act.size
    top = omega (arith, b.base, b.many, shows.top)

    levels : word_at t (pos (z + levels_cell)) ≡ Some (word.Int (pos d.S.levels))
    levels =
        other (z + levels_cell) (λ e. absurd (omega (arith, e)))
        (λ e. absurd (omega (arith, e, cursor_is d))) ∙ shows.levels

    vars : AreHeld t z 0 st.vars
    vars =
        held_same s t z 0 st.vars
        (λ x low high.
        let many : length st.vars ≡ level = as_many st.vars d.q.names shows.named in
        other (z + value_cell x) (λ e. absurd (omega (arith, e, high, many)))
        (λ e. absurd (omega (arith, e, cursor_is d, d.q.nested)))) shows.vars

    rec : word_at t (pos (z + d.q.site.rec)) ≡ Some (rec_of d i)
    rec =
        other (z + d.q.site.rec) (λ e. absurd (omega (arith, e, rec_is d, d.q.nested)))
        (λ e. absurd (omega (arith, e, rec_is d, cursor_is d))) ∙ shows.keeps.rec

    bound : word_at t (pos (z + d.q.site.bound)) ≡ Some (word.Int j)
    bound =
        other (z + d.q.site.bound) (λ e. absurd (omega (arith, e, bound_is d)))
        (λ e. absurd (omega (arith, e, bound_is d, cursor_is d, d.q.nested)))
        ∙ shows.keeps.bound

    module _ (words : List Word) (beat : BeatState) (label at : ℕ) (size : length words ≡ 32)
        (base : register words 31 ≡ word.Int (pos z)) where
      abbrev there : machine.State
      there = record task { registers = words; stack = t; beat = beat; block = label; at = at }

      -- no iteration is left
      pub shows_over : marks ≡ marks_of d false i
          → ShowsIn code heartbeat z act d.fuel (ended_pieces d) i d.q.names st there
      shows_over is = record {
        size = size;
        base = base;
        limit = shows.limit;
        limited = shows.limited;
        tall = shows.tall;
        ticks = shows.ticks;
        within = shows.within;
        begun = shows.begun;
        printed = shows.printed;
        ends = shows.ends;
        free = shows.free;
        unmet = shows.unmet;
        marked = b.marked ∙ is;
        named = shows.named;
        few = shows.few;
        tabled = shows.tabled;
        held = shows.held;
        can = shows.can;
        ranged = shows.ranged;
        levels = levels;
        unmarked =
            ap (λ (ms : List Mark). is_marked_from ms (z + act.size)) (b.marked ∙ is)
            ∙ clear_above (marks_of d false i) (z + value_cell (suc level)) (z + act.size)
            (omega (arith, d.space, d.q.fits)) (clear_of d false i);
        top = top;
        low = omega (arith, b.base, shows.low);
        room = omega (arith, top, d.space);
        vars = vars;
        keeps = record {
          outer = outer_stable d i s t same_below shows.keeps.outer;
          rec = rec;
        };
      }

      -- an iteration runs
      module _ (N more : ℕ) (few : more ≤ N) (one_more : n ≡ suc more)
          (enough : enough_of d i st.vars m j) (handles : Handles d N)
        where
          pub shows_running : marks ≡ marks_of d (are_any more) i
              → ShowsIn code heartbeat z act d.fuel (running d N handles)
              (world N more few one_more enough) d.q.names st
              there
          shows_running is = record {
            size = size;
            base = base;
            limit = shows.limit;
            limited = shows.limited;
            tall = omega arith;
            ticks = shows.ticks;
            within = shows.within;
            begun = shows.begun;
            printed = shows.printed;
            ends = shows.ends;
            free = shows.free;
            unmet = shows.unmet;
            marked = b.marked ∙ is;
            named = shows.named;
            few = shows.few;
            tabled = shows.tabled;
            held = shows.held;
            can = (shows.can, changed_refl _ st.tables);
            ranged = shows.ranged;
            levels = levels;
            unmarked =
                ap (λ (ms : List Mark). is_marked_from ms (z + act.size)) (b.marked ∙ is)
                ∙ clear_above (marks_of d (are_any more) i) (z + value_cell (suc level))
                (z + act.size) (omega (arith, d.space, d.q.fits)) (clear_of d (are_any more) i);
            top = top;
            low = omega (arith, b.base, shows.low);
            room = omega (arith, top, d.space);
            vars = vars;
            keeps = record {
              outer = outer_stable d i s t same_below shows.keeps.outer;
              levels = levels;
              rec = rec;
              cursor = b.words (z + d.q.site.cursor)
                  ∙ (stored_cursor
                  ∙ ap (λ e. Some (word.Int e)) (int_wrap_fits w64 (m +ℤ pos 1)
                  (next_fits N more few one_more enough)));
              bound = bound;
              next = b.words (z + value_cell level) ∙ stored_value;
              fixed = held_fixed d.q.loop.reduces.items t z 0 st.vars vars;
              enough = enough;
            };
          }
