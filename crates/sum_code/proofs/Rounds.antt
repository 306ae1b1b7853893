-- One iteration of the loop, whatever the run and the child begin with.
use Rattle.std.proofs.Common.{◌≡◌, ℕ, ◌+◌, ◌<◌, Bool, List, ap, ◌∙◌}
use Rattle.std.specs.Prelude.{ℤ, pos, ◌^◌, int_lt, nat_lt}
use Rattle.beat_count.specs.BeatState.{BeatState}
use Rattle.beat_count.specs.Heartbeat.{counted}
use Rattle.stack_marks.specs.declared.mark.Mark.{Mark}
use Rattle.tp_value.specs.Number.{wrapped, truth}
use Rattle.tpal_syntax.specs.declared.blocks.Block.{Block}
use Rattle.tpal_syntax.specs.declared.words.Word.{Word}
use Rattle.tpal_syntax.specs.declared.words.Word.TheVariants as word
use Rattle.tpal_machine.specs.State.{State}
use Rattle.tpal_machine.specs.Step.{Goes}
use Rattle.sum_code.specs.Sum.{sum_with}
use Rattle.sum_code.proofs.Sums.{wrap_is}
use Rattle.sum_code.proofs.Tasks.{Whose, words, task}
use Rattle.sum_code.proofs.Walking.{steps}

-- a task behind an iteration, by its sum, the next number, and whether that is to be added
abbrev pub iterated : (limit : ℕ) → Whose → (b : ℕ) (sum next : ℤ) (r4 r5 r6 r7 r30 kept : Word)
    → List Mark → BeatState → Bool → State
iterated limit whose b sum next r4 r5 r6 r7 r30 kept marks beat more =
    record
    (task limit whose 2
    (words (word.Int next) (word.Int (pos b)) (word.Int sum) (word.Int (truth more)) r4 r5 r6 r7
    r30)
    kept marks (counted (counted (counted beat))))
    { at = 3 }

module _ (main end child : Block) (heartbeat limit : ℕ) where
  pub iterates_once : (whose : Whose) (a b s sum : ℕ) (kept : Word) (marks : List Mark)
      (beat : BeatState) (r3 r4 r5 r6 r7 r30 : Word) (more : Bool)
      → s + a ≡ sum → sum < 2 ^ 63 → a + 1 < 2 ^ 63 → nat_lt (a + 1) b ≡ more
      → steps (sum_with main end child) heartbeat 3
      (task limit whose 2
      (words (word.Int (pos a)) (word.Int (pos b)) (word.Int (pos s)) r3 r4 r5 r6 r7 r30) kept marks
      beat)
      ≡ Goes (iterated limit whose b (pos sum) (pos (a + 1)) r4 r5 r6 r7 r30 kept marks beat more)
  unfolding steps
  iterates_once whose a b s sum kept marks beat r3 r4 r5 r6 r7 r30 more is low high test =
      ap
      (λ x.
      Goes (iterated limit whose b x (wrapped (pos (a + 1))) r4 r5 r6 r7 r30 kept marks beat
      (int_lt (wrapped (pos (a + 1))) (pos b))))
      (ap (λ n. wrapped (pos n)) is ∙ wrap_is sum low)
      ∙ ap
      (λ y.
      Goes (iterated limit whose b (pos sum) y r4 r5 r6 r7 r30 kept marks beat
      (int_lt y (pos b))))
      (wrap_is (a + 1) high)
      ∙ ap
      (λ t.
      Goes (iterated limit whose b (pos sum) (pos (a + 1)) r4 r5 r6 r7 r30 kept marks beat t))
      test
