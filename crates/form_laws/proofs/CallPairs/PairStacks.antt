-- What the parts of a pair of calls that is cut have on their stacks.
use Rattle.std.proofs.Common.{◌≡◌, ◌≢◌, ℕ, ◌+◌, ◌-◌, ◌<◌, ◌≤◌, false, List, [], ◌∷◌, length, Some}
use Rattle.std.proofs.Common.{drop, refl, ap, ◌∙◌, arith}
use Rattle.std.specs.Prelude.{pos, filter, nat_le}
use Rattle.std.specs.List.{AllByRecursion}
use Rattle.std.proofs.lemmas.Bool.Decides.{nat_tests}
use Rattle.std.proofs.lemmas.List.{length-drop, length-take-le}
use Rattle.stack_marks.specs.Causes.{Holds}
use Rattle.stack_marks.specs.declared.mark.Mark.{Mark}
use Rattle.stack_marks.specs.Stacks.{StackValue, child_of, left_of, with_word, word_at}
use Rattle.tpal_syntax.specs.declared.notes.CutKind.TheVariants.{Call}
use Rattle.tpal_syntax.specs.declared.sites.CallSite.{CallSite}
use Rattle.tpal_syntax.specs.declared.words.Word.TheVariants.{Label, Rec}
use Rattle.handler_gen.specs.CallCuts.{call_mark, child_call_cells, left_call_cells}
use Rattle.handler_gen.specs.Sites.{left_end_label}
use Rattle.handler_gen.proofs.CutCells.{child_call_rec, child_call_word, left_call_label}
use Rattle.handler_gen.proofs.CutCells.{left_call_rec, left_call_word}
use Rattle.handler_gen.proofs.Marks.{le_true}
use Rattle.handler_gen.proofs.Words.{words_as_many}
use Rattle.scene_laws.proofs.Scenes.Activations.{StandsFrom}

-- a stack that begins where the activation of the first function does: that returns to where the
-- left ends, under the record in its next cell, and all above is as on the stack that was cut
pub record HasFirst (site : CallSite) (z k : ℕ) (marks : List Mark) (s t : StackValue) : Type 0
  where
    pub base : t.base ≡ z + site.cells
    pub top : t.base + length t.cells ≡ s.base + length s.cells
    pub marked : t.marks ≡ marks
    pub label : word_at t (pos (z + site.cells)) ≡ Some (Label (left_end_label site.label))
    pub rec : word_at t (pos (z + site.cells + 1)) ≡ Some (Rec k)
    pub others : (a : ℕ) → z + site.cells + 2 ≤ a → word_at t (pos a) ≡ word_at s (pos a)

-- a stack that has the activation of a pair of calls alone, with a record
pub record HasSecond (site : CallSite) (z k : ℕ) (s t : StackValue) : Type 0 where
  pub base : t.base ≡ z
  pub top : t.base + length t.cells ≡ z + site.cells
  pub marked : t.marks ≡ []
  pub rec : word_at t (pos (z + site.rec)) ≡ Some (Rec k)
  pub others : (off : ℕ) → off < site.cells → off ≢ site.rec
      → word_at t (pos (z + off)) ≡ word_at s (pos (z + off))

-- marks from a position on stay in a stack that begins there
stay : (low : ℕ) (marks : List Mark) → AllByRecursion (StandsFrom low) marks
    → filter (λ m. nat_le low m.at) marks ≡ marks
stay low [] from = refl
stay low (m ∷ ms) from =
    rw (le_true low m.at from.0) (ap (λ (others : List Mark). m ∷ others) (stay low ms from.1))

module _ (site : CallSite) (z k : ℕ) (more : List Mark) (s : StackValue)
    (held : Holds s z (site.cells + 2)) (inside : site.rec < site.cells) where
  pub first_has : s.marks ≡ call_mark site z ∷ more → site.mark < site.cells
      → AllByRecursion (StandsFrom (z + site.cells)) more
      → HasFirst site z k more s (left_call_cells site z k s)
  first_has marked low above = record {
    base = refl;
    top = top;
    marked = ap (filter (λ (m : Mark). nat_le (z + site.cells) m.at)) marked ∙ gone;
    label = left_call_label site z k s held;
    rec = left_call_rec site z k s held;
    others = λ a from. left_call_word site z k s held a from;
  }
    where
      left : StackValue
      left = left_of s z site.cells Call

      one : StackValue
      one = with_word left (pos (z + site.cells)) (Label (left_end_label site.label))

      top : z + site.cells + length (left_call_cells site z k s).cells ≡ s.base + length s.cells
      top = omega (
        arith,
        words_as_many one (z + site.cells + 1) (Rec k),
        words_as_many left (z + site.cells) (Label (left_end_label site.label)),
        length-drop (z + site.cells - s.base) s.cells,
        held.0,
        held.1,
      )

      gone : filter (λ (m : Mark). nat_le (z + site.cells) m.at) (call_mark site z ∷ more) ≡ more
      gone =
          let lower : nat_le (z + site.cells) (z + site.mark) ≡ false =
          grind (arith, nat_tests, low) in
          rw lower (stay (z + site.cells) more above)

  pub second_has : HasSecond site z k s (child_call_cells site z k s)
  second_has = record {
    base = refl;
    top = top;
    marked = refl;
    rec = child_call_rec site z k s held inside;
    others = λ off below apart. child_call_word site z k s held off below apart;
  }
    where
      top : z + length (child_call_cells site z k s).cells ≡ z + site.cells
      top = omega (
        arith,
        words_as_many (child_of s z site.cells) (z + site.rec) (Rec k),
        length-take-le site.cells (drop (z - s.base) s.cells)
            (omega (arith, length-drop (z - s.base) s.cells, held.0, held.1)),
      )
