-- Stacks with an activation more on top, and without it again.
use Rattle.std.proofs.Common.{◌≡◌, ℕ, zero, suc, ◌+◌, ◌-◌, ◌<◌, ◌≤◌, Bool, true, false, List, []}
use Rattle.std.proofs.Common.{◌∷◌, ◌++◌, length, take, Option, None, Some, refl, ap, ◌∙◌, arith}
use Rattle.std.specs.Prelude.{pos, nat_le, slice_get, replicate}
use Rattle.std.specs.List.{AllByRecursion}
use Rattle.std.proofs.lemmas.Bool.Decides.{nat_tests}
use Rattle.std.proofs.lemmas.List.{length-append, length-replicate, length-take-le, take_at}
use Rattle.tpal_syntax.specs.declared.words.Word.{Word}
use Rattle.tpal_syntax.specs.declared.words.Word.TheVariants.{Nil}
use Rattle.tpal_machine.specs.Effect.{is_marked_from}
use Rattle.stack_marks.specs.Stacks.{StackValue, word_at, pushed, popped}
use Rattle.stack_marks.specs.declared.mark.Mark.{Mark}

-- ---- elements of longer and shorter lists

get_longer : (xs ys : List Word) (k : ℕ) (w : Word) → slice_get xs k ≡ Some w → slice_get (xs ++ ys) k ≡ Some w
get_longer [] ys k w is = cc
get_longer (x ∷ xs) ys zero w is = is
get_longer (x ∷ xs) ys (suc k) w is = get_longer xs ys k w is

get_first : (n : ℕ) (xs : List Word) (k : ℕ) → k < n → slice_get (take n xs) k ≡ slice_get xs k
get_first zero xs k below = absurd (omega (arith, below))
get_first (suc n) [] k below = refl
get_first (suc n) (x ∷ xs) zero below = refl
get_first (suc n) (x ∷ xs) (suc k) below = get_first n xs k (omega (arith, below))

-- ---- cells

abbrev no_word : Option Word
no_word = None

-- with more cells on top each word is in its cell
pub word_pushed : (s : StackValue) (n a : ℕ) (w : Word) → word_at s (pos a) ≡ Some w → word_at (pushed s n) (pos a) ≡ Some w
word_pushed s n a w is = go (nat_le s.base a) refl
  where
    go : (test : Bool) → nat_le s.base a ≡ test → word_at (pushed s n) (pos a) ≡ Some w
    go true e =
        let found : slice_get s.cells (a - s.base) ≡ Some w = rw e at is in
        rw e (get_longer s.cells (replicate n Nil) (a - s.base) w found)
    go false e = let none : no_word ≡ Some w = rw e at is in cc

-- without the cells on top the others are the same
pub word_popped : (s : StackValue) (n a : ℕ) → a < s.base + (length s.cells - n) → word_at (popped s n) (pos a) ≡ word_at s (pos a)
word_popped s n a below = go (nat_le s.base a) refl
  where
    go : (test : Bool) → nat_le s.base a ≡ test → word_at (popped s n) (pos a) ≡ word_at s (pos a)
    go true e =
        let from : s.base ≤ a = grind (arith, nat_tests) in
        rw e (get_first (length s.cells - n) s.cells (a - s.base) (omega (arith, below, from)))
    go false e = rw e refl

pub popped_length : (s : StackValue) (n : ℕ) → length (popped s n).cells ≡ length s.cells - n
popped_length s n = length-take-le (length s.cells - n) s.cells (omega arith)

pub pushed_length : (s : StackValue) (n : ℕ) → length (pushed s n).cells ≡ length s.cells + n
pushed_length s n = omega (arith, length-append s.cells (replicate n Nil), length-replicate n Nil)

-- what was pushed is popped
pub popped_pushed : (s : StackValue) (n : ℕ) → popped (pushed s n) n ≡ s
popped_pushed s n =
    let many : length (s.cells ++ replicate n Nil) - n ≡ length s.cells = omega (arith, pushed_length s n) in
    ap (λ k. record { base = s.base; cells = take k (s.cells ++ replicate n Nil); marks = s.marks }) many
    ∙ ap (λ ws. record { base = s.base; cells = ws; marks = s.marks }) (take_at s.cells (replicate n Nil) (length s.cells) refl)

-- ---- marks

-- where no mark stands from a position on, none stands from a higher one on
pub clear_above : (marks : List Mark) (a b : ℕ) → a ≤ b → is_marked_from marks a ≡ false → is_marked_from marks b ≡ false
clear_above [] a b le clear = refl
clear_above (m ∷ ms) a b le clear = go (λ others. clear_above ms a b le others) (nat_le a m.at) refl
  where
    go : (is_marked_from ms a ≡ false → is_marked_from ms b ≡ false) → (test : Bool) → nat_le a m.at ≡ test → is_marked_from (m ∷ ms) b ≡ false
    go rest true e = let wrong : true ≡ false = rw e at clear in cc
    go rest false e =
        let others : is_marked_from ms a ≡ false = rw e at clear in
        let lower : nat_le b m.at ≡ false = grind (arith, nat_tests) in
        rw lower (rest others)

-- a mark stands at a cell or above
abbrev pub StandsFrom : ℕ → Mark → Type 0
StandsFrom a m = a ≤ m.at

pub marks_from : (marks : List Mark) (a b : ℕ) → a ≤ b → AllByRecursion (StandsFrom b) marks → AllByRecursion (StandsFrom a) marks
marks_from [] a b le from = tt
marks_from (m ∷ ms) a b le from = (omega (arith, le, from.0), marks_from ms a b le from.1)
