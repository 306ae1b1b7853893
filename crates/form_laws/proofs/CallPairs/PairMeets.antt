-- Behind the join of a pair of calls all is as it is where the second call returns.
use Rattle.std.proofs.Common.{◌<◌, ◌≡◌, ℕ, ◌+◌, ◌-◌, ◌≤◌, ◌^◌, false, List, [], ◌∷◌, length, None}
use Rattle.std.proofs.Common.{Ok, refl, sym, ap, subst, ◌∙◌, arith}
use Rattle.std.specs.Prelude.{ℤ, pos, slice_set}
use Rattle.std.proofs.lemmas.List.{length-set}
use Rattle.beat_count.specs.BeatState.{BeatState}
use Rattle.stack_marks.specs.Stacks.{StackValue, pushed, with_word}
use Rattle.tpal_syntax.specs.declared.instructions.Alu.TheVariants as alu
use Rattle.tpal_syntax.specs.declared.instructions.Instr.{Instr}
use Rattle.tpal_syntax.specs.declared.instructions.Instr.TheVariants as instr
use Rattle.tpal_syntax.specs.declared.instructions.Term.{Term}
use Rattle.tpal_syntax.specs.declared.instructions.Value.TheVariants as value
use Rattle.tpal_syntax.specs.declared.sites.CallSite.{CallSite}
use Rattle.tpal_syntax.specs.declared.words.Word.{Word}
use Rattle.tpal_syntax.specs.declared.words.Word.TheVariants as word
use Rattle.tpal_syntax.specs.Listing.{Listing}
use Rattle.tpal_machine.specs.declared.ends.Side.{Side}
use Rattle.tpal_machine.specs.Effect as effect
use Rattle.tpal_machine.specs.Effect.{is_marked_from}
use Rattle.tpal_machine.specs.Merge.{merged_task}
use Rattle.tpal_machine.specs.Reading.{register, with_register}
use Rattle.tpal_machine.specs.RestState.{RestState}
use Rattle.tpal_machine.specs.State as machine
use Rattle.tpal_machine.specs.Step.{advanced, at_block}
use Rattle.tpal_machine.proofs.Kit.{Back, on_calc, on_move, on_salloc, on_sfree}
use Rattle.expr_lower.specs.Standing.{Remains}
use Rattle.expr_lower.proofs.Keeping.{register_other, register_set}
use Rattle.expr_lower.proofs.Standing.{behind, next}
use Rattle.handler_gen.specs.Blocks.{call_target}
use Rattle.handler_gen.specs.Sites.{joined_label}
use Rattle.handler_gen.proofs.Reaching.{reached}
use Rattle.join_gen.specs.CallJoins.{AreSidesOfCalls, JoinsCalls, Meets}
use Rattle.handler_gen.proofs.Words.{words_as_many}
use Rattle.scene_laws.specs.Code.{Opens, call_exit, to}
use Rattle.scene_laws.specs.Layout.{Activation}
use Rattle.scene_laws.specs.Pairs.{call_enters, pair_joined}
use Rattle.scene_laws.proofs.Scenes.Activations.{popped_pushed, pushed_length}
use Rattle.form_laws.proofs.Forms.Calls.{base_less, base_more}
use Rattle.scene_laws.proofs.Scenes.Moves.{jumps, opened}
use Rattle.form_laws.proofs.Forms.Simple.{stores_in}

module _ (code : Listing) (heartbeat z : ℕ) (act : Activation) (site : CallSite)
    (joins : JoinsCalls code heartbeat site) (size return : ℕ)
    (cell : ℕ) (joined : Opens code (joined_label site.label) (pair_joined code act cell size)
    (to return))
    (more : List Instr) (last : Term)
    (returns : Opens code return (call_exit size act.size more) last)
    (high : z + (act.size + size) ≤ 2 ^ 62) (fits : cell < act.size) where
  pub meets_then : (K : Back code heartbeat) (rest : RestState) (left right : Side) (ticks : ℕ)
      (output : List ℕ) (v u : ℤ) → rest.base ≡ z → rest.stack.base ≤ z
      → rest.stack.base + length rest.stack.cells ≡ z + act.size → rest.stack.marks ≡ []
      → AreSidesOfCalls site (word.Int v) (word.Int u) rest left right
      → ((words : List Word) (beat : BeatState) (at : ℕ) → length words ≡ 32
      → register words 31 ≡ word.Int (pos z) → register words 0 ≡ word.Int u
      → Remains code return at more last
      → K.Holds (record (merged_task (call_target site) rest left right ticks output) {
        registers = words;
        stack = with_word rest.stack (pos (z + cell)) (word.Int v);
        beat = beat;
        block = return;
        at = at;
        met = None;
      }))
      → K.Holds (merged_task (call_target site) rest left right ticks output)
  meets_then K rest left right ticks output v u base low top unmarked are go =
      reached code heartbeat K merged one m.comes
      (stores_in code heartbeat z act 0 K one cell (value.Reg 0) _
      (to return) (opened code (joined_label site.label) _ _ joined) base_one low
      (omega (arith, top, fits))
      (subst (λ (w : Word). K.Holds (effect.with_stack (advanced one)
      (with_word rest.stack (pos (z + cell)) w))) (sym m.first_value)
      (on_move code heartbeat K two 0 (value.Reg 1) (next code two _ _ (to return) second)
      (on_salloc code heartbeat K three size (next code three _ _ (to return) third)
      (omega (arith, top, high, as_many))
      (on_calc code heartbeat K four 31 31 alu.Add (value.Int (pos act.size))
      (word.Int (pos (z + act.size))) (next code four _ _ (to return) fourth)
      (rw base_four (ap (λ n. Ok (word.Int n)) (base_more z act.size (omega (arith, high)))))
      (jumps code heartbeat K five return _ last
      (behind code (joined_label site.label) (0 + 1 + 1 + 1) _ _ (to return) fourth) returns
      (on_sfree code heartbeat K six size (next code six _ _ last here)
      (omega (arith, pushed_length stack size)) clear
      (subst (λ (s : StackValue). K.Holds (effect.with_stack (advanced six) s))
      (sym (popped_pushed stack size))
      (on_calc code heartbeat K seven 31 31 alu.Sub (value.Int (pos act.size)) (word.Int (pos z))
      (next code seven _ more last (behind code return 0 _ _ last here))
      (rw base_seven (ap (λ n. Ok (word.Int n)) (base_less z act.size (omega (arith, high)))))
      (go words_last _ (0 + 1 + 1) many_last base_last value_last
      (behind code return (0 + 1) _ more last (behind code return 0 _ _ last here))))))))))))
    where
      merged : machine.State
      merged = merged_task (call_target site) rest left right ticks output

      m : Meets code heartbeat site (word.Int v) (word.Int u) rest merged
      m = joins.meets (word.Int v) (word.Int u) rest left right ticks output are

      one : machine.State
      one = record merged {
        registers = m.words;
        beat = m.beat;
        block = joined_label site.label;
        at = 0;
        met = None;
      }

      base_one : register m.words 31 ≡ word.Int (pos z)
      base_one = m.base ∙ ap (λ (n : ℕ). word.Int (pos n)) base

      stack : StackValue
      stack = with_word rest.stack (pos (z + cell)) (word.Int v)

      as_many : length stack.cells ≡ length rest.stack.cells
      as_many = words_as_many rest.stack (z + cell) (word.Int v)

      two : machine.State
      two = effect.with_stack (advanced one) stack

      second : Remains code (joined_label site.label) (0 + 1)
          (instr.Move 0 (value.Reg 1) ∷ instr.Salloc size ∷ call_enters act.size) (to return)
      second = behind code (joined_label site.label) 0 _ _ (to return)
          (opened code (joined_label site.label) _ _ joined)

      moved : List Word
      moved = slice_set m.words 0 (register m.words 1)

      three : machine.State
      three = effect.move 0 (value.Reg 1) (advanced two)

      third : Remains code (joined_label site.label) (0 + 1 + 1)
          (instr.Salloc size ∷ call_enters act.size) (to return)
      third = behind code (joined_label site.label) (0 + 1) _ _ (to return) second

      four : machine.State
      four = effect.with_stack (advanced three) (pushed stack size)

      fourth : Remains code (joined_label site.label) (0 + 1 + 1 + 1) (call_enters act.size)
          (to return)
      fourth = behind code (joined_label site.label) (0 + 1 + 1) _ _ (to return) third

      base_four : register moved 31 ≡ word.Int (pos z)
      base_four = register_other m.words 0 31 (register m.words 1)
          (λ (q : 31 ≡ 0). absurd (omega (arith, q))) ∙ base_one

      five : machine.State
      five = with_register (advanced four) 31 (word.Int (pos (z + act.size)))

      raised : List Word
      raised = slice_set moved 31 (word.Int (pos (z + act.size)))

      six : machine.State
      six = at_block return (advanced five)

      here : Remains code return 0 (call_exit size act.size more) last
      here = opened code return (call_exit size act.size more) last returns

      clear : is_marked_from (pushed stack size).marks
          ((pushed stack size).base + (length (pushed stack size).cells - size)) ≡ false
      clear = rw unmarked refl

      seven : machine.State
      seven = effect.with_stack (advanced six) stack

      many_moved : length moved ≡ 32
      many_moved = length-set m.words 0 (register m.words 1) ∙ m.size

      base_seven : register raised 31 ≡ word.Int (pos (z + act.size))
      base_seven = register_set moved 31 (word.Int (pos (z + act.size))) (omega (arith, many_moved))

      words_last : List Word
      words_last = slice_set raised 31 (word.Int (pos z))

      many_last : length words_last ≡ 32
      many_last = length-set raised 31 (word.Int (pos z))
          ∙ (length-set moved 31 (word.Int (pos (z + act.size))) ∙ many_moved)

      base_last : register words_last 31 ≡ word.Int (pos z)
      base_last = register_set raised 31 (word.Int (pos z))
          (omega (arith, length-set moved 31 (word.Int (pos (z + act.size))), many_moved))

      value_last : register words_last 0 ≡ word.Int u
      value_last =
          register_other raised 31 0 (word.Int (pos z)) (λ (q : 0 ≡ 31). absurd (omega (arith, q)))
          ∙ (register_other moved 31 0 (word.Int (pos (z + act.size)))
          (λ (q : 0 ≡ 31). absurd (omega (arith, q)))
          ∙ (register_set m.words 0 (register m.words 1) (omega (arith, m.size)) ∙ m.second_value))
