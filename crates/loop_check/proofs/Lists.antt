-- What holds of the elements of a list, and what a list contains.
use Rattle.std.proofs.Common.{◌≡◌, ℕ, zero, suc, ◌<◌, List, [], ◌∷◌, ◌++◌, ◌⊎◌, inl, inr, refl, sym}
use Rattle.std.proofs.Common.{subst, arith, length, Contains, slice_index_or}

-- P holds of each element
abbrev pub Each : {X : Type 0} → (X → Type 0) → List X → Type 0
Each P [] = Unit
Each P (x ∷ xs) = P x × Each P xs

pub each_left : {X : Type 0} (P : X → Type 0) (xs ys : List X) → Each P (xs ++ ys) → Each P xs
each_left P [] ys h = tt
each_left P (x ∷ xs) ys h = (h.0, each_left P xs ys h.1)

pub each_right : {X : Type 0} (P : X → Type 0) (xs ys : List X) → Each P (xs ++ ys) → Each P ys
each_right P [] ys h = h
each_right P (x ∷ xs) ys h = each_right P xs ys h.1

pub each_both : {X : Type 0} (P : X → Type 0) (xs ys : List X) → Each P xs → Each P ys → Each P (xs ++ ys)
each_both P [] ys h k = k
each_both P (x ∷ xs) ys h k = (h.0, each_both P xs ys h.1 k)

pub contains_here : {X : Type 0} (xs : List X) (x : X) → Contains (x ∷ xs) x
contains_here xs x = (0, omega arith, refl)

pub contains_there : {X : Type 0} (xs : List X) (y x : X) → Contains xs x → Contains (y ∷ xs) x
contains_there xs y x h = (suc h.0, (let k : h.0 < length xs = h.1 in omega arith), h.2)

pub contains_none : {X : Type 0} (x : X) → Contains [] x → ⊥
contains_none x h = (let k : h.0 < 0 = h.1 in absurd (omega arith))

pub contains_cons : {X : Type 0} (xs : List X) (y x : X) → Contains (y ∷ xs) x → (y ≡ x) ⊎ Contains xs x
contains_cons {X} xs y x h = go h.0 h.1 h.2
  where
    go : (k : ℕ) → k < length (y ∷ xs) → slice_index_or (y ∷ xs) k x ≡ x → (y ≡ x) ⊎ Contains xs x
    go zero l e = inl e
    go (suc k) l e = inr (k, omega arith, e)

pub contains_left : {X : Type 0} (xs ys : List X) (x : X) → Contains xs x → Contains (xs ++ ys) x
contains_left [] ys x h = absurd (contains_none x h)
contains_left (y ∷ xs) ys x h = elim (contains_cons xs y x h) [
  | inl e ↦ subst (λ z. Contains (z ∷ (xs ++ ys)) x) (sym e) (contains_here (xs ++ ys) x)
  | inr k ↦ contains_there (xs ++ ys) y x (contains_left xs ys x k)
]

pub contains_right : {X : Type 0} (xs ys : List X) (x : X) → Contains ys x → Contains (xs ++ ys) x
contains_right [] ys x h = h
contains_right (y ∷ xs) ys x h = contains_there (xs ++ ys) y x (contains_right xs ys x h)

pub contains_append : {X : Type 0} (xs ys : List X) (x : X) → Contains (xs ++ ys) x → Contains xs x ⊎ Contains ys x
contains_append [] ys x h = inr h
contains_append (y ∷ xs) ys x h = elim (contains_cons (xs ++ ys) y x h) [
  | inl e ↦ inl (subst (λ z. Contains (z ∷ xs) x) (sym e) (contains_here xs x))
  | inr k ↦ elim (contains_append xs ys x k) [ inl a ↦ inl (contains_there xs y x a) | inr b ↦ inr b ]
]

-- what holds of every element that a list contains
pub each_of : {X : Type 0} (P : X → Type 0) (xs : List X) → ((x : X) → Contains xs x → P x) → Each P xs
each_of P [] f = tt
each_of P (x ∷ xs) f = (f x (contains_here xs x), each_of P xs (λ y h. f y (contains_there xs x y h)))

pub each_at : {X : Type 0} (P : X → Type 0) (xs : List X) (x : X) → Each P xs → Contains xs x → P x
each_at P [] x e h = absurd (contains_none x h)
each_at P (y ∷ xs) x e h = elim (contains_cons xs y x h) [ inl q ↦ subst P q e.0 | inr k ↦ each_at P xs x e.1 k ]
