-- Lists of marks: none from a cell on in two of them, and one whose mark goes.
use Rattle.std.proofs.Common.{◌≡◌, ℕ, ◌<◌, Bool, true, false, List, [], ◌∷◌, ◌++◌, refl, ap, arith}
use Rattle.std.specs.Prelude.{pos, not, nat_le, filter}
use Rattle.std.specs.Ordering.{int_eq}
use Rattle.std.proofs.lemmas.Bool.Decides.{nat_tests}
use Rattle.std.proofs.lemmas.Int.{ints}
use Rattle.stack_marks.specs.declared.mark.Mark.{Mark}
use Rattle.tpal_machine.specs.Effect.{is_marked_from}

-- no mark from a cell on is in two lists together where none is in each
pub clear_both : (xs ys : List Mark) (a : ℕ) → is_marked_from xs a ≡ false
    → is_marked_from ys a ≡ false → is_marked_from (xs ++ ys) a ≡ false
clear_both [] ys a first second = second
clear_both (m ∷ ms) ys a first second =
    go (λ rest. clear_both ms ys a rest second) (nat_le a m.at) refl
  where
    go : (is_marked_from ms a ≡ false → is_marked_from (ms ++ ys) a ≡ false) → (b : Bool)
        → nat_le a m.at ≡ b → is_marked_from (m ∷ ms ++ ys) a ≡ false
    go rest true is = let wrong : true ≡ false = rw is at first in cc
    go rest false is = let others : is_marked_from ms a ≡ false = rw is at first in
        rw is (rest others)

-- the marks that aren't those of this cell
abbrev pub not_at : ℕ → Mark → Bool
not_at a m = not (int_eq (pos m.at) (pos a))

-- the mark of a cell goes, and those below it stay
pub unmarked_is : (marks own : List Mark) (a : ℕ) → is_marked_from marks a ≡ false
    → filter (not_at a) own ≡ [] → filter (not_at a) (marks ++ own) ≡ marks
unmarked_is [] own a below gone = gone
unmarked_is (m ∷ ms) own a below gone =
    go (λ rest. unmarked_is ms own a rest gone) (nat_le a m.at) refl
  where
    go : (is_marked_from ms a ≡ false → filter (not_at a) (ms ++ own) ≡ ms) → (b : Bool)
        → nat_le a m.at ≡ b → filter (not_at a) (m ∷ ms ++ own) ≡ m ∷ ms
    go rest true is = let wrong : true ≡ false = rw is at below in cc
    go rest false is =
        let others : is_marked_from ms a ≡ false = rw is at below in
        let lower : m.at < a = grind (arith, nat_tests) in
        let apart : int_eq (pos m.at) (pos a) ≡ false = grind (arith, nat_tests, ints) in
        rw apart (ap (λ (xs : List Mark). m ∷ xs) (rest others))
