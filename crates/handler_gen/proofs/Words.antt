-- Words of a stack after one of them is set.
use Rattle.std.proofs.Common.{◌≡◌, ◌≢◌, ℕ, ◌+◌, ◌-◌, ◌<◌, ◌≤◌, Bool, true, false, List, length}
use Rattle.std.proofs.Common.{Some, refl, sym, ap, ◌∙◌, arith, ⊎_elim}
use Rattle.std.specs.Prelude.{pos, nat_le, slice_get, slice_set, slice_index_or}
use Rattle.std.proofs.lemmas.Bool.{cases_lt}
use Rattle.std.proofs.lemmas.Bool.Decides.{nat_tests}
use Rattle.std.proofs.lemmas.List.{get_or-set_same, get_or-set_other, length-set}
use Rattle.std.proofs.lemmas.Option.{slice_get-get_or, slice_get_past}
use Rattle.tpal_syntax.specs.declared.words.Word.{Word}
use Rattle.tpal_syntax.specs.declared.words.Word.TheVariants.{Nil}
use Rattle.stack_marks.specs.Stacks.{StackValue, word_at, with_word}

get_set_same : (xs : List Word) (k : ℕ) (w : Word) → k < length xs → slice_get (slice_set xs k w) k ≡ Some w
get_set_same xs k w h =
    let l : k < length (slice_set xs k w) = omega (arith, length-set xs k w) in
    slice_get-get_or (slice_set xs k w) k w l ∙ ap Some (get_or-set_same xs k w w h)

get_set_other : (xs : List Word) (k j : ℕ) (w : Word) → j ≢ k → slice_get (slice_set xs k w) j ≡ slice_get xs j
get_set_other xs k j w ne = ⊎_elim
    (λ (lt : j < length xs).
    let l : j < length (slice_set xs k w) = omega (arith, length-set xs k w) in
    slice_get-get_or (slice_set xs k w) j w l ∙ (ap Some (get_or-set_other xs k j w w ne) ∙ sym (slice_get-get_or xs j w lt)))
    (λ (ge : length xs ≤ j).
    let l : length (slice_set xs k w) ≤ j = omega (arith, length-set xs k w) in
    slice_get_past (slice_set xs k w) j l ∙ sym (slice_get_past xs j ge))
    (cases_lt j (length xs))

-- a cell of the stack has some word
pub word_there : (s : StackValue) (a : ℕ) → s.base ≤ a → a < s.base + length s.cells → word_at s (pos a) ≡ Some (slice_index_or s.cells (a - s.base) Nil)
word_there s a low high =
    let test : nat_le s.base a ≡ true = grind (arith, nat_tests) in
    let inside : a - s.base < length s.cells = omega arith in
    rw test (slice_get-get_or s.cells (a - s.base) Nil inside)

-- the word that was set
pub word_same : (s : StackValue) (a : ℕ) (w : Word) → s.base ≤ a → a < s.base + length s.cells → word_at (with_word s (pos a) w) (pos a) ≡ Some w
word_same s a w low high =
    let test : nat_le s.base a ≡ true = grind (arith, nat_tests) in
    let inside : a - s.base < length s.cells = omega arith in
    rw test (get_set_same s.cells (a - s.base) w inside)

-- another word
pub word_other : (s : StackValue) (a b : ℕ) (w : Word) → s.base ≤ a → b ≢ a → word_at (with_word s (pos a) w) (pos b) ≡ word_at s (pos b)
word_other s a b w low ne = go (nat_le s.base b) refl
  where
    go : (test : Bool) → nat_le s.base b ≡ test → word_at (with_word s (pos a) w) (pos b) ≡ word_at s (pos b)
    go true e =
        let from : s.base ≤ b = grind (arith, nat_tests) in
        let other : (b - s.base) ≢ (a - s.base) = λ (q : b - s.base ≡ a - s.base). ne (omega (arith, q)) in
        rw e (get_set_other s.cells (a - s.base) (b - s.base) w other)
    go false e = rw e refl

pub words_as_many : (s : StackValue) (a : ℕ) (w : Word) → length (with_word s (pos a) w).cells ≡ length s.cells
words_as_many s a w = length-set s.cells (a - s.base) w
