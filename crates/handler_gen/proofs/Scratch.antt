-- The registers that handlers use, r24 to r29: what they hold, and that no others change.
use Rattle.std.proofs.Common.{◌≡◌, ℕ, ◌<◌, ◌≤◌, List, length, refl, ◌∙◌, arith}
use Rattle.std.specs.Prelude.{slice_set}
use Rattle.std.proofs.lemmas.List.{length-set}
use Rattle.tpal_syntax.specs.declared.words.Word.{Word}
use Rattle.tpal_machine.specs.Reading.{register}
use Rattle.expr_lower.proofs.Keeping.{register_set, register_other}

-- what r24, r25 and r26 hold; all others but r27 are those of a task
pub record Scratch (before words : List Word) (rec place next : Word) : Type 0 where
  pub size : length words ≡ 32
  pub low : (r : ℕ) → r < 24 → register words r ≡ register before r
  pub r24 : register words 24 ≡ rec
  pub r25 : register words 25 ≡ place
  pub r26 : register words 26 ≡ next
  pub r28 : register words 28 ≡ register before 28
  pub high : (r : ℕ) → 30 ≤ r → register words r ≡ register before r

-- as a task has them
pub unused : (words : List Word) → length words ≡ 32 → Scratch words words (register words 24) (register words 25) (register words 26)
unused words size = record { size = size; low = λ r h. refl; r24 = refl; r25 = refl; r26 = refl; r28 = refl; high = λ r h. refl }

module _ (before words : List Word) (rec place next w : Word) (has : Scratch before words rec place next) where
  kept_size : (r : ℕ) → length (slice_set words r w) ≡ 32
  kept_size r = length-set words r w ∙ has.size

  kept_low : (r : ℕ) → 24 ≤ r → (q : ℕ) → q < 24 → register (slice_set words r w) q ≡ register before q
  kept_low r from q h = register_other words r q w (λ e. absurd (omega (arith, e))) ∙ has.low q h

  kept_high : (r : ℕ) → r < 30 → (q : ℕ) → 30 ≤ q → register (slice_set words r w) q ≡ register before q
  kept_high r below q h = register_other words r q w (λ e. absurd (omega (arith, e))) ∙ has.high q h

  is_set : (r : ℕ) → r < 32 → register (slice_set words r w) r ≡ w
  is_set r inside = register_set words r w (omega (arith, has.size))

  pub set_24 : Scratch before (slice_set words 24 w) w place next
  set_24 = record {
    size = kept_size 24;
    low = kept_low 24 (omega arith);
    r24 = is_set 24 (omega arith);
    r25 = register_other words 24 25 w (λ e. absurd (omega (arith, e))) ∙ has.r25;
    r26 = register_other words 24 26 w (λ e. absurd (omega (arith, e))) ∙ has.r26;
    r28 = register_other words 24 28 w (λ e. absurd (omega (arith, e))) ∙ has.r28;
    high = kept_high 24 (omega arith);
  }

  pub set_25 : Scratch before (slice_set words 25 w) rec w next
  set_25 = record {
    size = kept_size 25;
    low = kept_low 25 (omega arith);
    r24 = register_other words 25 24 w (λ e. absurd (omega (arith, e))) ∙ has.r24;
    r25 = is_set 25 (omega arith);
    r26 = register_other words 25 26 w (λ e. absurd (omega (arith, e))) ∙ has.r26;
    r28 = register_other words 25 28 w (λ e. absurd (omega (arith, e))) ∙ has.r28;
    high = kept_high 25 (omega arith);
  }

  pub set_26 : Scratch before (slice_set words 26 w) rec place w
  set_26 = record {
    size = kept_size 26;
    low = kept_low 26 (omega arith);
    r24 = register_other words 26 24 w (λ e. absurd (omega (arith, e))) ∙ has.r24;
    r25 = register_other words 26 25 w (λ e. absurd (omega (arith, e))) ∙ has.r25;
    r26 = is_set 26 (omega arith);
    r28 = register_other words 26 28 w (λ e. absurd (omega (arith, e))) ∙ has.r28;
    high = kept_high 26 (omega arith);
  }

  pub set_27 : Scratch before (slice_set words 27 w) rec place next
  set_27 = record {
    size = kept_size 27;
    low = kept_low 27 (omega arith);
    r24 = register_other words 27 24 w (λ e. absurd (omega (arith, e))) ∙ has.r24;
    r25 = register_other words 27 25 w (λ e. absurd (omega (arith, e))) ∙ has.r25;
    r26 = register_other words 27 26 w (λ e. absurd (omega (arith, e))) ∙ has.r26;
    r28 = register_other words 27 28 w (λ e. absurd (omega (arith, e))) ∙ has.r28;
    high = kept_high 27 (omega arith);
  }

  -- the word of a test
  pub test_is : register (slice_set words 27 w) 27 ≡ w
  test_is = is_set 27 (omega arith)
