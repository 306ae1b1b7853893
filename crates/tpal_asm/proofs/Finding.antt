-- Labels that are looked up.
use Rattle.std.proofs.Common.{◌≡◌, inl, inr, ℕ, zero, suc, ◌<◌, ◌≤◌, Bool, true, false, List, []}
use Rattle.std.proofs.Common.{◌∷◌, length, get_or, refl, sym, ap, ◌∙◌, arith}
use Rattle.std.specs.Prelude.{not, bytes_eq}
use Rattle.std.specs.List.{list_all}
use Rattle.std.proofs.lemmas.Bool.{lt-ltb, ltb-true, cases_lt}
use Rattle.std.proofs.lemmas.Slice.Eq.{bytes_eq-Decides}
use Rattle.std.proofs.lemmas.List.Sums.{prefix_len-le-length, prefix_len_passes, prefix_len_stops}
use Rattle.tpal_syntax.specs.Parts.{is_word}
use Rattle.tpal_asm.specs.Labels.{Head, names_of, place_of}
use Rattle.tpal_asm.proofs.InsideFaults.{Finds}

pub get-names : (hs : List Head) (k : ℕ) → get_or (names_of hs) k [] ≡ (get_or hs k ([], false)).0
get-names [] k = refl
get-names (h ∷ hs) zero = refl
get-names (h ∷ hs) (suc k) = get-names hs k

pub length-names : (hs : List Head) → length (names_of hs) ≡ length hs
length-names [] = refl
length-names (h ∷ hs) = ap suc (length-names hs)

not_false : (b : Bool) → not b ≡ false → b ≡ true
not_false true e = refl
not_false false e = absurd cc

pub place-le : (hs : List Head) (n : List ℕ) → place_of hs n ≤ length hs
place-le hs n = prefix_len-le-length (λ h. not (bytes_eq n h.0)) hs

-- at the place of a name stands the name
pub place-right : (hs : List Head) (n : List ℕ) → place_of hs n < length hs → get_or (names_of hs) (place_of hs n) [] ≡ n
place-right hs n lt =
    get-names hs (place_of hs n)
    ∙ sym ((bytes_eq-Decides n (get_or hs (place_of hs n) ([], false)).0).0 (not_false _ (prefix_len_stops (λ h. not (bytes_eq n h.0)) hs ([], false) lt)))

-- each name has a place
pub place-known : (hs : List Head) (l : ℕ) → l < length hs → place_of hs (get_or (names_of hs) l []) < length hs
place-known hs l lt = elim (cases_lt (place_of hs n) (length hs)) [
  | inl below ↦ below
  | inr past ↦ absurd (clash (prefix_len_passes (λ h. not (bytes_eq n h.0)) hs l ([], false) (omega arith)) ((bytes_eq-Decides n (get_or hs l ([], false)).0).1 (get-names hs l)))
]
  where
    n : List ℕ
    n = get_or (names_of hs) l []

    clash : {b : Bool} → not b ≡ true → b ≡ true → ⊥
    clash {b} e f = go b e f
      where
        go : (b : Bool) → not b ≡ true → b ≡ true → ⊥
        go true e f = cc
        go false e f = cc

pub finds-places : (hs : List Head) (most : ℕ) → list_all is_word (names_of hs) ≡ true → length hs < most → Finds (place_of hs) (names_of hs) most
finds-places hs most words few = record {
  words = words;
  low = λ n. lt-ltb (place_of hs n) most (omega (arith, place-le hs n));
  right = λ n lt. place-right hs n (omega (arith, ltb-true (place_of hs n) (length (names_of hs)) lt, length-names hs));
  known = λ l lt. lt-ltb (place_of hs (get_or (names_of hs) l [])) (length (names_of hs)) (omega (arith, place-known hs l (omega (arith, ltb-true l (length (names_of hs)) lt, length-names hs)), length-names hs));
}
