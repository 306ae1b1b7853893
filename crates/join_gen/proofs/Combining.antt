-- The accumulators of both sides are combined, one after another, and put back in their cells.
use Rattle.std.proofs.Common.{◌≡◌, ℕ, suc, ◌+◌, ◌<◌, ◌≤◌, All, List, [], ◌∷◌, ◌++◌, length, Ok}
use Rattle.std.proofs.Common.{refl, ap, subst, ◌∙◌, arith}
use Rattle.std.proofs.lemmas.List.{length-set}
use Rattle.std.proofs.lemmas.List.Elements.{All-head, All-tail}
use Rattle.std.specs.Prelude.{ℤ, pos, slice_set}
use Rattle.beat_count.specs.BeatState.{BeatState}
use Rattle.beat_count.specs.Heartbeat.{counted}
use Rattle.frame_machine.specs.Splitting.{merged}
use Rattle.reduce_ops.specs.Reduction.{combine}
use Rattle.stack_marks.specs.Stacks.{StackValue, with_word}
use Rattle.tp_value.specs.declared.Op.{Op}
use Rattle.tp_value.specs.declared.Op.TheVariants as op
use Rattle.tpal_syntax.specs.declared.instructions.Instr.{Instr}
use Rattle.tpal_syntax.specs.declared.instructions.Instr.TheVariants as instr
use Rattle.tpal_syntax.specs.declared.instructions.Term.{Term}
use Rattle.tpal_syntax.specs.declared.instructions.Value.TheVariants as value
use Rattle.tpal_syntax.specs.declared.words.Word.{Word}
use Rattle.tpal_syntax.specs.declared.words.Word.TheVariants.{Int}
use Rattle.tpal_syntax.specs.Listing.{Listing}
use Rattle.tpal_machine.specs.Calculation.{calculated}
use Rattle.tpal_machine.specs.Effect.{with_stack}
use Rattle.tpal_machine.specs.Reading.{register}
use Rattle.tpal_machine.specs.State.{State}
use Rattle.tpal_machine.proofs.Kit.{Back}
use Rattle.expr_lower.specs.Leaving.{moved}
use Rattle.expr_lower.specs.Standing.{Remains}
use Rattle.expr_lower.proofs.Keeping.{register_set, register_other}
use Rattle.handler_gen.proofs.Cells.{Has, some_word, has_set}
use Rattle.handler_gen.proofs.Offsets.{cells_of}
use Rattle.handler_gen.proofs.Straight.{calculates, stores}
use Rattle.join_gen.specs.Blocks.{alu_of, combines_from}
use Rattle.join_gen.specs.LoopJoins.{with_numbers, ops_of}
use Rattle.join_gen.proofs.Filled.{HoldNumbers, numbers_set}

-- the calculation of an operator combines two numbers
combined : (o : Op) (m n : ℤ) → calculated (alu_of o) (Int m) (Int n) ≡ Ok (Int (combine o m n))
combined op.Add m n = refl
combined op.Mul m n = refl
combined op.Min m n = refl
combined op.Max m n = refl
combined op.Affine m n = refl

-- registers of a task that changed only below 8
pub record AreHigh (before words : List Word) : Type 0 where
  pub size : length words ≡ length before
  pub high : (q : ℕ) → 8 ≤ q → register words q ≡ register before q

module _ (code : Listing) (heartbeat : ℕ) (K : Back code heartbeat) (end : Term) (z cells : ℕ) (more : List Instr) where
  pub combines_all : (accs : List (ℕ × Op)) (lefts rights : List ℤ) (s : State) (r : ℕ) (words : List Word) (beat : BeatState) (at : ℕ) → r + length accs ≤ 8 → length lefts ≡ length accs → length rights ≡ length accs → All (λ off. off < cells) (cells_of accs)
      → length words ≡ 32 → register words 31 ≡ Int (pos z) → HoldNumbers words r lefts → HoldNumbers words (8 + r) rights → Has s.stack z cells
      → Remains code s.block at (combines_from r accs ++ more) end
      → ((others : List Word) (later : BeatState) (there : ℕ) → AreHigh words others → later.quiet ≡ beat.quiet → later.granted ≡ beat.granted → Remains code s.block there more end → K.Holds (moved (with_stack s (with_numbers accs z (merged (ops_of accs) lefts rights) s.stack)) others later there))
      → K.Holds (moved s words beat at)
  combines_all [] lefts rights s r words beat at few left_many right_many inside size base left_in right_in has stands go = go words beat at (record { size = refl; high = λ q h. refl }) refl refl stands
  combines_all (a ∷ accs) [] rights s r words beat at few left_many right_many inside size base left_in right_in has stands go = absurd (omega (arith, left_many))
  combines_all (a ∷ accs) (m ∷ lefts) [] s r words beat at few left_many right_many inside size base left_in right_in has stands go = absurd (omega (arith, right_many))
  combines_all (a ∷ accs) (m ∷ lefts) (n ∷ rights) s r words beat at few left_many right_many inside size base left_in right_in has stands go =
      let many : r + suc (length accs) ≤ 8 = few in
      let both : ℤ = combine a.1 m n in
      let after : List Word = slice_set words r (Int both) in
      let own : a.0 < cells = All-head (λ (off : ℕ). off < cells) a.0 (cells_of accs) inside in
      let base_after : register after 31 ≡ Int (pos z) = register_other words r 31 (Int both) (λ e. absurd (omega (arith, e, many))) ∙ base in
      let stored : StackValue = with_word s.stack (pos (z + a.0)) (Int both) in
      let same : 8 + r + 1 ≡ 8 + (r + 1) = omega arith in
      let rights_after : HoldNumbers after (8 + (r + 1)) rights = subst (λ (q : ℕ). HoldNumbers after q rights) same (numbers_set rights words (8 + r + 1) r (Int both) (omega arith) right_in.1) in
      calculates code heartbeat K end s words beat at (instr.Store 31 a.0 (value.Reg r) ∷ combines_from (r + 1) accs ++ more) r r (alu_of a.1) (value.Reg (8 + r)) (Int both) stands
      (ap (λ u. calculated (alu_of a.1) u (register words (8 + r))) left_in.0 ∙ (ap (λ u. calculated (alu_of a.1) (Int m) u) right_in.0 ∙ combined a.1 m n)) (λ left.
      stores code heartbeat K end s after (counted beat) (at + 1) (combines_from (r + 1) accs ++ more) 31 a.0 (value.Reg r) (pos z) _ (Int both) left base_after
      (some_word s.stack z cells a.0 has own) (register_set words r (Int both) (omega (arith, many, size))) (λ left.
      combines_all accs lefts rights (with_stack s stored) (r + 1) after (counted (counted beat)) (at + 1 + 1) (omega (arith, many)) (omega (arith, left_many)) (omega (arith, right_many)) (All-tail (λ (off : ℕ). off < cells) a.0 (cells_of accs) inside)
      (length-set words r (Int both) ∙ size) base_after (numbers_set lefts words (r + 1) r (Int both) (omega arith) left_in.1) rights_after (has_set s.stack z cells (z + a.0) (Int both) has) left (λ others later there h quiet granted left.
      go others later there (record { size = h.size ∙ length-set words r (Int both); high = λ q from. h.high q from ∙ register_other words r q (Int both) (λ e. absurd (omega (arith, e, from, many))) }) quiet granted left)))
