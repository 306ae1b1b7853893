-- Names, and variables that stay where they are.
use Rattle.std.proofs.Common.{◌≡◌, ℕ, zero, suc, ◌<◌, ℤ, List, [], ◌∷◌, ◌++◌, refl, sym, subst, ap}
use Rattle.std.proofs.Common.{arith, Bool, true, false, cond, ◌||◌, take, length, map, bytes_eq}
use Rattle.std.specs.Cmp.Lexicographic.{bytes_decides}
use Rattle.loop_rules.specs.Names.{is_in}
use Rattle.loop_meaning.specs.declared.value.Variable.{Variable}
use Rattle.loop_meaning.specs.State.{lookup, assign, declare}
use Rattle.loop_check.proofs.Bools.{or_left, or_right, no_both}

pub eq_self : (x : List ℕ) → bytes_eq x x ≡ true
eq_self x = (bytes_decides x x).1 refl

pub eq_is : (x y : List ℕ) → bytes_eq x y ≡ true → x ≡ y
eq_is x y h = (bytes_decides x y).0 h

-- ---- variables

-- the first variable x stands at m, with that value
abbrev pub Found : ℕ → List Variable → List ℕ → ℤ → Type 0
Found m [] x v = ⊥
Found zero (u ∷ us) x v = (bytes_eq u.name x ≡ true) × (u.value ≡ v)
Found (suc m) (u ∷ us) x v = (bytes_eq u.name x ≡ false) × Found m us x v

pub found_lookup : (m : ℕ) (vs : List Variable) (x : List ℕ) (v : ℤ) → Found m vs x v → lookup vs x ≡ v
found_lookup m [] x v h = absurd h
found_lookup zero (u ∷ us) x v h = rw h.0 h.1
found_lookup (suc m) (u ∷ us) x v h = rw h.0 (found_lookup m us x v h.1)

pub found_more : (m : ℕ) (vs ws : List Variable) (x : List ℕ) (v : ℤ) → Found m vs x v → Found m (vs ++ ws) x v
found_more m [] ws x v h = absurd h
found_more zero (u ∷ us) ws x v h = h
found_more (suc m) (u ∷ us) ws x v h = (h.0, found_more m us ws x v h.1)

pub found_below : (m : ℕ) (vs : List Variable) (x : List ℕ) (v : ℤ) → Found m vs x v → m < length vs
found_below m [] x v h = absurd h
found_below zero (u ∷ us) x v h = omega arith
found_below (suc m) (u ∷ us) x v h = let l = found_below m us x v h.1 in omega arith

pub found_take : (m n : ℕ) (vs : List Variable) (x : List ℕ) (v : ℤ) → m < n → Found m vs x v → Found m (take n vs) x v
found_take m n [] x v l h = absurd h
found_take m zero (u ∷ us) x v l h = absurd (omega arith)
found_take zero (suc n) (u ∷ us) x v l h = h
found_take (suc m) (suc n) (u ∷ us) x v l h = (h.0, found_take m n us x v (omega arith) h.1)

pub found_assign : (m : ℕ) (vs : List Variable) (y : List ℕ) (n : ℤ) (x : List ℕ) (v : ℤ) → bytes_eq y x ≡ false → Found m vs x v → Found m (assign vs y n) x v
found_assign m [] y n x v a h = absurd h
found_assign zero (u ∷ us) y n x v a h = go (bytes_eq u.name y) refl
  where
    go : (b : Bool) → bytes_eq u.name y ≡ b → Found zero (assign (u ∷ us) y n) x v
    go true e = absurd (no_both (bytes_eq y x) (subst (λ z. bytes_eq z x ≡ true) (eq_is u.name y e) h.0) a)
    go false e = rw e h
found_assign (suc m) (u ∷ us) y n x v a h = go (found_assign m us y n x v a h.1) (bytes_eq u.name y) refl
  where
    go : Found m (assign us y n) x v → (b : Bool) → bytes_eq u.name y ≡ b → Found (suc m) (assign (u ∷ us) y n) x v
    go k true e = rw e h
    go k false e = rw e (h.0, k)

pub found_end : (vs : List Variable) (x : List ℕ) (v : ℤ) → is_in (map (λ (u : Variable). u.name) vs) x ≡ false → Found (length vs) (declare vs x v) x v
found_end [] x v h = (eq_self x, refl)
found_end (u ∷ us) x v h = (or_left _ _ h, found_end us x v (or_right (bytes_eq u.name x) _ h))

-- where it stands by its name alone
abbrev pub place_in : List (List ℕ) → List ℕ → ℕ
place_in [] x = 0
place_in (y ∷ ys) x = cond (bytes_eq y x) 0 (suc (place_in ys x))

pub found_in : (vs : List Variable) (x : List ℕ) → is_in (map (λ (u : Variable). u.name) vs) x ≡ true → Found (place_in (map (λ (u : Variable). u.name) vs) x) vs x (lookup vs x)
found_in [] x h = absurd (no_both true refl (sym h))
found_in (u ∷ us) x h = go (λ k. found_in us x k) (bytes_eq u.name x) refl
  where
    go : (is_in (map (λ (w : Variable). w.name) us) x ≡ true → Found (place_in (map (λ (w : Variable). w.name) us) x) us x (lookup us x)) → (b : Bool) → bytes_eq u.name x ≡ b → Found (place_in (map (λ (w : Variable). w.name) (u ∷ us)) x) (u ∷ us) x (lookup (u ∷ us) x)
    go f true e = rw e (e, refl)
    go f false e = rw e (e, f (rw e at h))

pub is_in_end : (ys : List (List ℕ)) (x : List ℕ) → is_in (ys ++ x ∷ []) x ≡ true
is_in_end [] x = rw (eq_self x) refl
is_in_end (y ∷ ys) x = go (bytes_eq y x) (is_in_end ys x)
  where
    go : (b : Bool) → is_in (ys ++ x ∷ []) x ≡ true → (b || is_in (ys ++ x ∷ []) x) ≡ true
    go true h = refl
    go false h = h

pub is_in_more : (ys : List (List ℕ)) (x z : List ℕ) → is_in ys z ≡ true → is_in (ys ++ x ∷ []) z ≡ true
is_in_more [] x z h = absurd (no_both true refl (sym h))
is_in_more (y ∷ ys) x z h = go (bytes_eq y z) (λ k. is_in_more ys x z k) h
  where
    go : (b : Bool) → (is_in ys z ≡ true → is_in (ys ++ x ∷ []) z ≡ true) → (b || is_in ys z) ≡ true → (b || is_in (ys ++ x ∷ []) z) ≡ true
    go true f h = refl
    go false f h = f h

pub names_more : (vs : List Variable) (x : List ℕ) (i : ℤ) → map (λ (v : Variable). v.name) (declare vs x i) ≡ map (λ (v : Variable). v.name) vs ++ x ∷ []
names_more [] x i = refl
names_more (v ∷ vs) x i = ap (λ l. v.name ∷ l) (names_more vs x i)
