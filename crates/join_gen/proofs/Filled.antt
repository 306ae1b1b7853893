-- The registers of a task that two sides merge to.
use Rattle.std.proofs.Common.{◌≡◌, ◌≢◌, ℕ, suc, ◌+◌, ◌<◌, ◌≤◌, List, [], ◌∷◌, ◌++◌, length, map}
use Rattle.std.proofs.Common.{refl, ap, sym, subst, ◌∙◌, arith}
use Rattle.std.proofs.lemmas.List.{length-set}
use Rattle.std.specs.Prelude.{ℤ, pos, ⊤, slice_set}
use Rattle.tp_value.specs.declared.Op.{Op}
use Rattle.tpal_syntax.specs.declared.words.Word.{Word}
use Rattle.tpal_syntax.specs.declared.words.Word.TheVariants.{Int, Rec}
use Rattle.tpal_machine.specs.Merge.{filled, renamed, merged_registers}
use Rattle.tpal_machine.specs.Reading.{register}
use Rattle.tpal_machine.specs.State.{no_words}
use Rattle.expr_lower.proofs.Keeping.{register_set, register_other}
use Rattle.handler_gen.specs.Blocks.{renames_from}
use Rattle.join_gen.specs.LoopJoins.{words_from, handed}

-- ---- numbers in registers

-- registers from one on hold these numbers
abbrev pub HoldNumbers : List Word → ℕ → List ℤ → Type 0
HoldNumbers words r [] = ⊤
HoldNumbers words r (n ∷ numbers) = (register words r ≡ Int n) × HoldNumbers words (r + 1) numbers

-- others in which those are the same hold them too
pub numbers_same : (numbers : List ℤ) (words others : List Word) (r : ℕ) → ((q : ℕ) → r ≤ q → q < r + length numbers → register others q ≡ register words q) → HoldNumbers words r numbers → HoldNumbers others r numbers
numbers_same [] words others r same hold = tt
numbers_same (n ∷ numbers) words others r same (first, rest) = (same r (omega arith) (omega arith) ∙ first, numbers_same numbers words others (r + 1) (λ q from below. same q (omega (arith, from)) (omega (arith, below))) rest)

pub numbers_set : (numbers : List ℤ) (words : List Word) (r q : ℕ) (w : Word) → q < r → HoldNumbers words r numbers → HoldNumbers (slice_set words q w) r numbers
numbers_set numbers words r q w below hold = numbers_same numbers words (slice_set words q w) r (λ p from lt. register_other words q p w (λ e. absurd (omega (arith, e, from, below)))) hold

-- ---- words that are filled in

filled_append : (registers : List Word) (xs ys : List (ℕ × Word)) → filled registers (xs ++ ys) ≡ filled (filled registers xs) ys
filled_append registers [] ys = refl
filled_append registers (x ∷ xs) ys = filled_append (slice_set registers x.0 x.1) xs ys

-- registers with numbers filled in from one on
record AreFilled (r : ℕ) (numbers : List ℤ) (before words : List Word) : Type 0 where
  size : length words ≡ length before
  below : (q : ℕ) → q < r → register words q ≡ register before q
  above : (q : ℕ) → r + length numbers ≤ q → register words q ≡ register before q
  hold : HoldNumbers words r numbers

abbrev ints_of : List ℤ → List Word
ints_of numbers = map (λ (n : ℤ). Int n) numbers

are_filled : (numbers : List ℤ) (r : ℕ) (before : List Word) → r + length numbers ≤ length before → AreFilled r numbers before (filled before (words_from r (ints_of numbers)))
are_filled [] r before few = record { size = refl; below = λ q h. refl; above = λ q h. refl; hold = tt }
are_filled (n ∷ numbers) r before few =
    let many : r + suc (length numbers) ≤ length before = few in
    let m : AreFilled (r + 1) numbers (slice_set before r (Int n)) (filled (slice_set before r (Int n)) (words_from (r + 1) (ints_of numbers))) =
    are_filled numbers (r + 1) (slice_set before r (Int n)) (omega (arith, many, length-set before r (Int n))) in
    record {
      size = m.size ∙ length-set before r (Int n);
      below = λ q h. m.below q (omega (arith, h)) ∙ register_other before r q (Int n) (λ e. absurd (omega (arith, e, h)));
      above = λ q h. m.above q (omega (arith, h)) ∙ register_other before r q (Int n) (λ e. absurd (omega (arith, e, h)));
      hold = (m.below r (omega arith) ∙ register_set before r (Int n) (omega (arith, many)), m.hold);
    }

-- the words of the right under the new names
renamed_is : (accs : List (ℕ × Op)) (numbers : List ℤ) (r : ℕ) (w : Word) → length numbers ≡ length accs → renamed (renames_from r accs ++ (24, 25) ∷ []) (words_from r (ints_of numbers) ++ (24, w) ∷ []) ≡ words_from (8 + r) (ints_of numbers) ++ (25, w) ∷ []
renamed_is [] [] r w many = refl
renamed_is [] (n ∷ numbers) r w many = absurd (omega (arith, many))
renamed_is (a ∷ accs) [] r w many = absurd (omega (arith, many))
renamed_is (a ∷ accs) (n ∷ numbers) r w many =
    let same : 8 + (r + 1) ≡ 8 + r + 1 = omega arith in
    ap (λ l. (8 + r, Int n) ∷ l) (renamed_is accs numbers (r + 1) w (omega (arith, many)) ∙ ap (λ (q : ℕ). words_from q (ints_of numbers) ++ (25, w) ∷ []) same)

-- ---- the merged task

-- the registers of the task that two sides of a loop merge to
pub record AreMerged (base k : ℕ) (lefts rights : List ℤ) (words : List Word) : Type 0 where
  pub size : length words ≡ 32
  pub base_in : register words 31 ≡ Int (pos base)
  pub rec_in : register words 24 ≡ Rec k
  pub lefts_in : HoldNumbers words 0 lefts
  pub rights_in : HoldNumbers words 8 rights

module _ (accs : List (ℕ × Op)) (few : length accs ≤ 8) (base k : ℕ) (lefts rights : List ℤ) (left_many : length lefts ≡ length accs) (right_many : length rights ≡ length accs) where
  abbrev based : List Word
  based = slice_set no_words 31 (Int (pos base))

  based_size : length based ≡ 32
  based_size = length-set no_words 31 (Int (pos base))

  abbrev first : List Word
  first = filled based (words_from 0 (ints_of lefts))

  first_filled : AreFilled 0 lefts based first
  first_filled = are_filled lefts 0 based (omega (arith, few, left_many, based_size))

  abbrev second : List Word
  second = slice_set first 24 (Rec k)

  second_size : length second ≡ 32
  second_size = length-set first 24 (Rec k) ∙ (first_filled.size ∙ based_size)

  abbrev third : List Word
  third = filled second (words_from 8 (ints_of rights))

  third_filled : AreFilled 8 rights second third
  third_filled = are_filled rights 8 second (omega (arith, few, right_many, second_size))

  abbrev fourth : List Word
  fourth = slice_set third 25 (Rec k)

  in_order : merged_registers base (renames_from 0 accs ++ (24, 25) ∷ []) (handed lefts k) (handed rights k) ≡ fourth
  in_order =
      ap (λ (ws : List (ℕ × Word)). filled (filled based (handed lefts k)) ws) (renamed_is accs rights 0 (Rec k) right_many)
      ∙ (ap (λ (rs : List Word). filled rs (words_from 8 (ints_of rights) ++ (25, Rec k) ∷ [])) (filled_append based (words_from 0 (ints_of lefts)) ((24, Rec k) ∷ []))
      ∙ filled_append second (words_from 8 (ints_of rights)) ((25, Rec k) ∷ []))

  -- a register above those of the right
  from_second : (q : ℕ) → 16 ≤ q → q ≢ 25 → register fourth q ≡ register second q
  from_second q from other = register_other third 25 q (Rec k) other ∙ third_filled.above q (omega (arith, from, few, right_many))

  from_third : (q : ℕ) → q < 25 → register fourth q ≡ register third q
  from_third q below = register_other third 25 q (Rec k) (λ e. absurd (omega (arith, e, below)))

  lefts_there : HoldNumbers fourth 0 lefts
  lefts_there = numbers_same lefts first fourth 0
      (λ q from below. from_third q (omega (arith, below, few, left_many)) ∙ (third_filled.below q (omega (arith, below, few, left_many)) ∙ register_other first 24 q (Rec k) (λ e. absurd (omega (arith, e, below, few, left_many)))))
      first_filled.hold

  rights_there : HoldNumbers fourth 8 rights
  rights_there = numbers_same rights third fourth 8 (λ q from below. from_third q (omega (arith, below, few, right_many))) third_filled.hold

  fourth_merged : AreMerged base k lefts rights fourth
  fourth_merged = record {
    size = length-set third 25 (Rec k) ∙ (third_filled.size ∙ second_size);
    base_in = from_second 31 (omega arith) (λ e. absurd (omega (arith, e)))
        ∙ (register_other first 24 31 (Rec k) (λ e. absurd (omega (arith, e)))
        ∙ (first_filled.above 31 (omega (arith, few, left_many)) ∙ register_set no_words 31 (Int (pos base)) (omega arith)));
    rec_in = from_second 24 (omega arith) (λ e. absurd (omega (arith, e))) ∙ register_set first 24 (Rec k) (omega (arith, first_filled.size, based_size));
    lefts_in = lefts_there;
    rights_in = rights_there;
  }

  pub are_merged : AreMerged base k lefts rights (merged_registers base (renames_from 0 accs ++ (24, 25) ∷ []) (handed lefts k) (handed rights k))
  are_merged = subst (AreMerged base k lefts rights) (sym in_order) fourth_merged
