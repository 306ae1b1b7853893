-- At which levels visible names stand.
use Rattle.std.proofs.Common.{◌≡◌, ℕ, zero, suc, ◌+◌, ◌<◌, Bool, true, false, cond, List, []}
use Rattle.std.proofs.Common.{◌∷◌, ◌++◌, length, bytes_eq, refl, arith}
use Rattle.std.specs.Prelude.{◌||◌, slice_index_or}
use Rattle.loop_rules.specs.Names.{is_in}
use Rattle.loop_check.proofs.Found.{eq_is}
use Rattle.scene_laws.specs.Names.{level_of}

pub get_before : (names : List (List ℕ)) (x : List ℕ) (j : ℕ) → j < length names → slice_index_or (names ++ x ∷ []) j [] ≡ slice_index_or names j []
get_before [] x j h = absurd (omega arith)
get_before (y ∷ ys) x zero h = refl
get_before (y ∷ ys) x (suc j) h = get_before ys x j (omega arith)

pub get_last : (names : List (List ℕ)) (x : List ℕ) → slice_index_or (names ++ x ∷ []) (length names) [] ≡ x
get_last [] x = refl
get_last (y ∷ ys) x = get_last ys x

-- a visible name stands at its level
pub at_level : (names : List (List ℕ)) (x : List ℕ) → is_in names x ≡ true → (level_of names x < length names) × (slice_index_or names (level_of names x) [] ≡ x)
at_level [] x h = absurd (cc)
at_level (n ∷ ns) x h = go (bytes_eq n x) refl h (at_level ns x)
  where
    go : (b : Bool) → bytes_eq n x ≡ b → (b || is_in ns x) ≡ true → (is_in ns x ≡ true → (level_of ns x < length ns) × (slice_index_or ns (level_of ns x) [] ≡ x))
        → (cond b 0 (suc (level_of ns x)) < length (n ∷ ns)) × (slice_index_or (n ∷ ns) (cond b 0 (suc (level_of ns x))) [] ≡ x)
    go true e h k = (omega arith, eq_is n x e)
    go false e h k = (let below : level_of ns x < length ns = (k h).0 in omega arith, (k h).1)
