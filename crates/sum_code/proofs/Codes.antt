-- The listings are codes.
use Rattle.std.proofs.Common.{◌≡◌, ℕ, zero, suc, ◌<◌, Bool, true, false, ◌&&◌, ◌||◌, List, []}
use Rattle.std.proofs.Common.{◌∷◌, length, get_or, Option, Some, None, Result, Ok, Err, IfOk, IfNone}
use Rattle.std.proofs.Common.{IsSome, refl, sym, ap, ◌∙◌, arith}
use Rattle.std.specs.Prelude.{not, bytes_eq}
use Rattle.std.specs.List.{list_any}
use Rattle.std.proofs.lemmas.Bool.{and_parts, lt-ltb, not-true, false≢true}
use Rattle.std.proofs.lemmas.Slice.Eq.{bytes_eq-Decides}
use Rattle.tpal_syntax.specs.declared.blocks.Block.{Block}
use Rattle.tpal_syntax.specs.Conditions.{IsCode, IsBlock, AreDistinct, block_names}
use Rattle.sum_code.specs.Sum.{sum_with, main_block, end_block, child_block, sum_below}
use Rattle.sum_code.specs.Wrong.{keeping_child, unmarked_main, unmarked_end, unmarked_child}
use Rattle.sum_code.specs.Wrong.{with_kept_sum, with_no_mark}

-- ---- names that differ

abbrev are_distinct : List (List ℕ) → Bool
are_distinct [] = true
are_distinct (n ∷ names) = not (list_any (bytes_eq n) names) && are_distinct names

among : (n : List ℕ) (names : List (List ℕ)) (j : ℕ) (d : List ℕ) → j < length names
    → n ≡ get_or names j d → list_any (bytes_eq n) names ≡ true
among n [] j d low is = absurd (omega (arith, low))
among n (m ∷ names) zero d low is =
    ap (λ b. b || list_any (bytes_eq n) names) ((bytes_eq-Decides n m).1 is)
among n (m ∷ names) (suc j) d low is =
    either (bytes_eq n m) (among n names j d (omega (arith, low)) is)
  where
    either : (a : Bool) {b : Bool} → b ≡ true → (a || b) ≡ true
    either true e = refl
    either false e = e

distinct : (names : List (List ℕ)) → are_distinct names ≡ true → AreDistinct names
distinct [] ok i j d less low = absurd (omega (arith, low))
distinct (n ∷ names) ok zero zero d less low = absurd (omega (arith, less))
distinct (n ∷ names) ok zero (suc j) d less low = λ is.
    let parts = and_parts (not (list_any (bytes_eq n) names)) (are_distinct names) ok in
    false≢true (sym (not-true (list_any (bytes_eq n) names) parts.0)
    ∙ among n names j d (omega (arith, low)) is)
distinct (n ∷ names) ok (suc i) zero d less low = absurd (omega (arith, less))
distinct (n ∷ names) ok (suc i) (suc j) d less low =
    distinct names (and_parts (not (list_any (bytes_eq n) names)) (are_distinct names) ok).1 i j d
    (omega (arith, less)) (omega (arith, low))

-- ---- codes

module _ (main end child : Block) where
  abbrev blocks : List Block
  blocks = (sum_with main end child).blocks

  -- the code with these three blocks, where its names differ
  with_blocks : are_distinct (block_names blocks) ≡ true → IsBlock [] blocks main
      → IsBlock [] blocks end → IsBlock [] blocks child → IsCode [] blocks
  with_blocks differ begins ends cut = record {
    some_block = omega arith;
    few_blocks = omega arith;
    few_tables = omega arith;
    block_names_differ = distinct (block_names blocks) differ;
    inputs = record {
      words = refl;
      names_differ = λ i j d less low e. absurd (omega (arith, low));
    };
    each_block = (
      begins,
      (
        record { name = refl; note = refl; body = refl; term = refl },
        (
          record { name = refl; note = tt; body = refl; term = refl },
          (
            ends,
            (
              record { name = refl; note = tt; body = refl; term = refl },
              (
                record { name = refl; note = tt; body = refl; term = refl },
                (
                  record { name = refl; note = tt; body = refl; term = refl },
                  (
                    cut,
                    (
                      record { name = refl; note = tt; body = refl; term = refl },
                      (
                        record {
                          name = refl;
                          note = record {
                            registers = refl;
                            names_differ = refl;
                            comb_is_block = omega arith;
                            few_carries = omega arith;
                            carries = refl;
                            tables_differ = refl;
                          };
                          body = refl;
                          term = refl;
                        },
                        tt,
                      ),
                    ),
                  ),
                ),
              ),
            ),
          ),
        ),
      ),
    );
  }

pub sum_is_code : (count : ℕ) → count < 9223372036854775808 → IsCode [] (sum_below count).blocks
sum_is_code count few =
    with_blocks (main_block count) end_block child_block refl
    record {
      name = refl;
      note = tt;
      body = ap (λ b. b && true) (lt-ltb count 9223372036854775808 few);
      term = refl;
    }
    record { name = refl; note = tt; body = refl; term = refl }
    record { name = refl; note = tt; body = refl; term = refl }

pub kept_is_code : IsCode [] with_kept_sum.blocks
kept_is_code =
    with_blocks (main_block 3) end_block keeping_child refl
    record { name = refl; note = tt; body = refl; term = refl }
    record { name = refl; note = tt; body = refl; term = refl }
    record { name = refl; note = tt; body = refl; term = refl }

pub unmarked_is_code : IsCode [] with_no_mark.blocks
unmarked_is_code =
    with_blocks unmarked_main unmarked_end unmarked_child refl
    record { name = refl; note = tt; body = refl; term = refl }
    record { name = refl; note = tt; body = refl; term = refl }
    record { name = refl; note = tt; body = refl; term = refl }

-- where none comes only for what is no code, and this is one, none comes
pub comes : {A E : Type 0} {P : Type 0} (r : Result (Option A) E)
    → IfOk r (λ made. IfNone made (¬ P)) → P → IfOk r (λ made. IsSome made)
comes (Ok (Some a)) none p = refl
comes (Ok None) none p = absurd (none p)
comes (Err e) none p = tt
