-- What the task that goes on behind the merge of a cut `par` has on its stack.
use Rattle.std.proofs.Common.{◌≡◌, ◌≢◌, ℕ, ◌+◌, ◌-◌, ◌<◌, All, List, [], length, Some, take}
use Rattle.std.proofs.Common.{ap, sym, ◌∙◌, arith}
use Rattle.std.proofs.lemmas.List.{length-take-le}
use Rattle.std.specs.Prelude.{pos}
use Rattle.loop_meaning.specs.declared.value.Variable.{Variable}
use Rattle.stack_marks.specs.Causes.{Holds}
use Rattle.stack_marks.specs.Stacks.{StackValue, rest_of, word_at}
use Rattle.tpal_syntax.specs.declared.words.Word.TheVariants.{Int}
use Rattle.handler_gen.proofs.Cells.{Has}
use Rattle.handler_gen.proofs.Offsets.{cells_of}
use Rattle.scene_laws.proofs.Scenes.Activations.{word_popped}
use Rattle.scene_laws.proofs.Cuts.OwnWork.{OwnCut}
use Rattle.scene_laws.proofs.Scenes.Variables.{AreHeld}

-- The stack of the task that was cut, up to the end of the loop's activation: the variables have
-- these values, no mark stands, and all but the accumulators is as before.
pub record HasMerged (c : OwnCut) (us : List Variable) (s t : StackValue) : Type 0 where
  pub base : t.base ≡ s.base
  pub top : t.base + length t.cells ≡ c.z + c.site.cells
  pub marked : t.marks ≡ []
  pub vars : AreHeld t c.z 0 us
  pub rec : word_at t (pos (c.z + c.site.rec)) ≡ word_at s (pos (c.z + c.site.rec))
  pub cursor : word_at t (pos (c.z + c.site.cursor)) ≡ Some (Int c.next)
  pub bound : word_at t (pos (c.z + c.site.bound)) ≡ Some (Int c.end)
  pub others : (a : ℕ) → a < c.z + c.site.cells → All (λ x. a ≢ c.z + x) (cells_of c.site.accs)
      → word_at t (pos a) ≡ word_at s (pos a)

module _ (s : StackValue) (z cells : ℕ) (held : Holds s z cells) where
  -- the rest's stack ends with the activation
  pub rest_many : length (rest_of s z cells).cells ≡ z + cells - s.base
  rest_many = length-take-le (z + cells - s.base) s.cells (omega (arith, held.0, held.1))

  pub rest_holds : Holds (rest_of s z cells) z cells
  rest_holds = (held.0, omega (arith, held.0, rest_many))

  pub rest_has : Has (rest_of s z cells) z cells
  rest_has = record { low = rest_holds.0; high = rest_holds.1 }

  pub rest_word : (a : ℕ) → a < z + cells
      → word_at (rest_of s z cells) (pos a) ≡ word_at s (pos a)
  rest_word a below =
      ap (λ (n : ℕ). word_at (record { base = s.base; cells = take n s.cells; marks = [] })
      (pos a)) (sym kept)
      ∙ word_popped s gone a (omega (arith, below, held.0, held.1))
    where
      gone : ℕ
      gone = length s.cells - (z + cells - s.base)

      kept : length s.cells - gone ≡ z + cells - s.base
      kept = omega (arith, held.0, held.1)
