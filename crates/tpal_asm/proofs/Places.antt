-- Places of names.
use Rattle.std.proofs.Common.{◌≡◌, ℕ, suc, ◌+◌, Bool, true, false, cond, List, [], ◌∷◌, length, map}
use Rattle.std.proofs.Common.{Some, None, refl, sym, ap, Bor, arith}
use Rattle.std.specs.Prelude.{not, nat_lt, bytes_eq}
use Rattle.std.specs.List.{position_or_len, position}
use Rattle.std.specs.Map.{keys_of}
use Rattle.std.proofs.lemmas.Bool.Decides.{nat_tests}
use Rattle.std.proofs.lemmas.List.Sums.{prefix_len-le-length}

-- a name's place among the entries is its place among the keys
pub place-keys : (name : List ℕ) (es : List (Bor (List ℕ) × Bool)) → position_or_len {X = List ℕ × Bool} (λ h. bytes_eq name h.0) (map (λ e. (e.0.now, e.1)) es) ≡ position_or_len (λ k. bytes_eq name k.now) (keys_of es)
place-keys name [] = refl
place-keys name (e ∷ es) = ap (λ (n : ℕ). cond (not (bytes_eq name e.0.now)) (1 + n) 0) (place-keys name es)

found : (b : Bool) (p i : ℕ) → cond b (Some p) None ≡ Some i → p ≡ i
found true p i e = cc
found false p i e = absurd cc

absent : (b : Bool) (p : ℕ) → cond b (Some p) None ≡ None → b ≡ false
absent true p e = absurd cc
absent false p e = refl

pub found_at : {X : Type 0} (p : X → Bool) (xs : List X) (i : ℕ) → Some i ≡ position p xs → i ≡ position_or_len p xs
found_at p xs i e = sym (found (nat_lt (position_or_len p xs) (length xs)) (position_or_len p xs) i (sym e))

pub found_none : {X : Type 0} (p : X → Bool) (xs : List X) → None ≡ position p xs → length xs ≡ position_or_len p xs
found_none p xs e =
    let no : nat_lt (position_or_len p xs) (length xs) ≡ false = absent (nat_lt (position_or_len p xs) (length xs)) (position_or_len p xs) (sym e) in
    let le = prefix_len-le-length (λ x. not (p x)) xs in
    grind (arith, nat_tests)

pub length-keys : {K X : Type 0} (es : List (K × X)) → length (keys_of es) ≡ length es
length-keys [] = refl
length-keys (e ∷ es) = ap suc (length-keys es)
