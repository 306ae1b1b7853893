-- The begin of the first call of a pair, from the tick's end up to its test: its levels and its
-- label to return to stand in its activation, and the mark stands.
use Rattle.std.proofs.Common.{◌<◌, ◌≡◌, ℕ, ◌+◌, ◌≤◌, false, List, [], ◌∷◌, length, Ok, sym, ap}
use Rattle.std.proofs.Common.{subst, ◌∙◌, arith}
use Rattle.std.specs.Prelude.{ℤ, pos, ◌-ℤ◌, slice_set}
use Rattle.std.proofs.lemmas.List.{length-set}
use Rattle.beat_count.specs.BeatState.{BeatState}
use Rattle.stack_marks.specs.Causes.{HoldsMark}
use Rattle.stack_marks.specs.declared.mark.Mark.{Mark}
use Rattle.stack_marks.specs.Stacks.{StackValue, marked, with_word}
use Rattle.tp_value.specs.Number.{wrapped}
use Rattle.tp_value.specs.declared.Place.{Place}
use Rattle.tp_value.specs.declared.TrapKind.TheVariants.{Deep}
use Rattle.loop_meaning.specs.State as meaning
use Rattle.tpal_syntax.specs.declared.instructions.Alu.TheVariants as alu
use Rattle.tpal_syntax.specs.declared.instructions.Instr.{Instr}
use Rattle.tpal_syntax.specs.declared.instructions.Instr.TheVariants as instr
use Rattle.tpal_syntax.specs.declared.instructions.Term.TheVariants as term
use Rattle.tpal_syntax.specs.declared.instructions.Value.TheVariants as value
use Rattle.tpal_syntax.specs.declared.sites.CallSite.{CallSite}
use Rattle.tpal_syntax.specs.declared.words.Word.{Word}
use Rattle.tpal_syntax.specs.declared.words.Word.TheVariants as word
use Rattle.tpal_syntax.specs.Listing.{Listing}
use Rattle.tpal_machine.specs.Effect as effect
use Rattle.tpal_machine.specs.Effect.{is_marked_from}
use Rattle.tpal_machine.specs.Reading.{register, with_register}
use Rattle.tpal_machine.specs.State as machine
use Rattle.tpal_machine.specs.Step.{advanced}
use Rattle.tpal_machine.proofs.Kit.{Back, on_calc, on_load}
use Rattle.expr_lower.specs.Standing.{Remains}
use Rattle.expr_lower.proofs.Keeping.{register_other, register_set}
use Rattle.expr_lower.proofs.Standing.{behind, next}
use Rattle.handler_gen.specs.CallCuts.{call_mark}
use Rattle.handler_gen.proofs.Marks.{on_prmpush}
use Rattle.expr_lower.specs.Registers.{base_register}
use Rattle.handler_gen.proofs.Words.{words_as_many}
use Rattle.scene_laws.specs.Code.{load, store}
use Rattle.scene_laws.specs.Layout.{Activation, kept_cell, kept_mark, levels_cell, return_cell}
use Rattle.scene_laws.specs.Layout.{value_cell}
use Rattle.scene_laws.specs.Pairs.{call_given}
use Rattle.scene_laws.proofs.Scenes.Activations.{clear_above}
use Rattle.form_laws.proofs.Forms.Arguments.{wider}
use Rattle.scene_laws.proofs.Scenes.Scene.{Scene, ShowsIn}
use Rattle.form_laws.proofs.Forms.Simple.{stores_in}

-- a number of levels and a label to return to, in the first cells of an activation
abbrev pub given_stack : ℕ → ℕ → ℤ → ℕ → StackValue → StackValue
given_stack z size less back s =
    with_word (with_word s (pos (z + (size + levels_cell))) (word.Int less))
    (pos (z + (size + return_cell))) (word.Label back)

-- the test of a pair of calls
abbrev pub pair_test : Place → ℕ → List Instr
pair_test place go = instr.IfJump 0 go ∷ instr.Trap Deep place ∷ []

abbrev pub pair_marks : CallSite → Place → ℕ → List Instr
pair_marks site place go =
    instr.PrmPush base_register site.mark site.cells site.label ∷ pair_test place go

module _ (code : Listing) (heartbeat z : ℕ) (act : Activation) (fuel size : ℕ)
    (S : Scene code heartbeat z) (i : S.World) (names : List (List ℕ))
    (lowest : S.lowest ≤ length names) (few : length names ≤ act.most)
    (site : CallSite) (cells : site.cells ≡ act.size)
    (mark_is : site.mark ≡ kept_cell act kept_mark)
    (fits : site.mark < act.size) (place : Place) (between go : ℕ)
    (room : value_cell 0 ≤ size) (less : ℤ)
    (is_less : wrapped (pos S.levels -ℤ pos 1) ≡ less) (st : meaning.State) (task : machine.State)
    (shows : ShowsIn code heartbeat z (wider act size) fuel S i names st task)
    (stands : Remains code task.block task.at
    (load 0 levels_cell ∷ call_given 1 act.size between (pair_marks site place go)) term.Halt) where
  at_calc : Remains code task.block (task.at + 1)
      (call_given 1 act.size between (pair_marks site place go)) term.Halt
  at_calc = behind code task.block task.at _ _ term.Halt stands

  at_levels : Remains code task.block (task.at + 1 + 1)
      (store (act.size + levels_cell) (value.Reg 1)
      ∷ store (act.size + return_cell) (value.Label between) ∷ pair_marks site place go) term.Halt
  at_levels = behind code task.block (task.at + 1) _ _ term.Halt at_calc

  at_return : Remains code task.block (task.at + 1 + 1 + 1)
      (store (act.size + return_cell) (value.Label between) ∷ pair_marks site place go) term.Halt
  at_return = behind code task.block (task.at + 1 + 1) _ _ term.Halt at_levels

  at_mark : Remains code task.block (task.at + 1 + 1 + 1 + 1) (pair_marks site place go) term.Halt
  at_mark = behind code task.block (task.at + 1 + 1 + 1) _ _ term.Halt at_return

  at_test : Remains code task.block (task.at + 1 + 1 + 1 + 1 + 1) (pair_test place go) term.Halt
  at_test = behind code task.block (task.at + 1 + 1 + 1 + 1) _ _ term.Halt at_mark

  -- ---- registers

  abbrev loaded : List Word
  loaded = slice_set task.registers 0 (word.Int (pos S.levels))

  many_loaded : length loaded ≡ 32
  many_loaded = length-set task.registers 0 (word.Int (pos S.levels)) ∙ shows.size

  left_loaded : register loaded 0 ≡ word.Int (pos S.levels)
  left_loaded = register_set task.registers 0 (word.Int (pos S.levels)) (omega (arith, shows.size))

  abbrev words : List Word
  words = slice_set loaded 1 (word.Int less)

  many : length words ≡ 32
  many = length-set loaded 1 (word.Int less) ∙ many_loaded

  base : register words 31 ≡ word.Int (pos z)
  base =
      register_other loaded 1 31 (word.Int less) (λ (e : 31 ≡ 1). absurd (omega (arith, e)))
      ∙ (register_other task.registers 0 31 (word.Int (pos S.levels))
      (λ (e : 31 ≡ 0). absurd (omega (arith, e))) ∙ shows.base)

  left : register words 0 ≡ word.Int (pos S.levels)
  left = register_other loaded 1 0 (word.Int less) (λ (e : 0 ≡ 1). absurd (omega (arith, e)))
      ∙ left_loaded

  one_less : register words 1 ≡ word.Int less
  one_less = register_set loaded 1 (word.Int less) (omega (arith, many_loaded))

  -- ---- the stack

  abbrev first_stack : StackValue
  first_stack = with_word task.stack (pos (z + (act.size + levels_cell))) (word.Int less)

  abbrev stack : StackValue
  stack = given_stack z act.size less between task.stack

  long_first : length first_stack.cells ≡ length task.stack.cells
  long_first = words_as_many task.stack (z + (act.size + levels_cell)) (word.Int less)

  long : length stack.cells ≡ length task.stack.cells
  long = words_as_many first_stack (z + (act.size + return_cell)) (word.Label between) ∙ long_first

  held : HoldsMark stack (call_mark site z)
  held = (
    (omega (arith, shows.low), omega (arith, cells, long, shows.top)),
    omega arith,
    omega (arith, cells, mark_is, fits),
  )

  free : is_marked_from stack.marks (z + site.mark) ≡ false
  free =
      ap (λ (ms : List Mark). is_marked_from ms (z + site.mark)) shows.marked
      ∙ clear_above (S.marks i) (z + value_cell S.lowest) (z + site.mark)
      (omega (arith, lowest, few, mark_is)) (S.below i)

  -- ---- up to the test

  abbrev one : machine.State
  one = with_register (advanced task) 0 (word.Int (pos S.levels))

  abbrev two : machine.State
  two = with_register (advanced one) 1 (word.Int less)

  abbrev three : machine.State
  three = effect.with_stack (advanced two) first_stack

  abbrev four : machine.State
  four = effect.with_stack (advanced three) stack

  abbrev pub tested : List Word → BeatState → ℕ → machine.State
  tested others beat at = record task {
    registers = others;
    stack = marked stack (call_mark site z);
    beat = beat;
    at = at;
  }

  pub up_to_test : (K : Back code heartbeat)
      → ((others : List Word) (beat : BeatState) (at : ℕ) → length others ≡ 32
      → register others 31 ≡ word.Int (pos z) → register others 0 ≡ word.Int (pos S.levels)
      → Remains code task.block at (pair_test place go) term.Halt
      → K.Holds (tested others beat at))
      → K.Holds task
  up_to_test K go_on =
      on_load code heartbeat K task 0 31 levels_cell (pos z) (word.Int (pos S.levels))
      (next code task _ _ term.Halt stands) shows.base shows.levels
      (on_calc code heartbeat K one 1 0 alu.Sub (value.Int (pos 1)) (word.Int less)
      (next code one _ _ term.Halt at_calc)
      (rw left_loaded (ap (λ n. Ok (word.Int n)) is_less))
      (stores_in code heartbeat z act fuel K two (act.size + levels_cell) (value.Reg 1) _ term.Halt
      at_levels base shows.low (omega (arith, shows.top, room))
      (subst (λ (x : Word). K.Holds (effect.with_stack (advanced two)
      (with_word task.stack (pos (z + (act.size + levels_cell))) x))) (sym one_less)
      (stores_in code heartbeat z act fuel K three (act.size + return_cell) (value.Label between) _
      term.Halt at_return base shows.low (omega (arith, shows.top, room, long_first))
      (on_prmpush code heartbeat K four 31 site.mark site.cells site.label z
      (next code four _ _ term.Halt at_mark) base held free
      (go_on words _ (task.at + 1 + 1 + 1 + 1 + 1) many base left at_test))))))
