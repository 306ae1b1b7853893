-- Variables whose values are changed by name, as those of an upper part become those of the whole; variables that a run keeps.
use Rattle.frame_machine.specs.Bodies.{SameOp, Unreduced}
use Rattle.loop_meaning.specs.State.{assign, declare, lookup}
use Rattle.loop_meaning.specs.Statements.{folded}
use Rattle.loop_meaning.specs.declared.value.Variable.{Variable}
use Rattle.loop_rules.specs.Names.{operator_of}
use Rattle.loop_syntax.specs.declared.Reduce.{Reduce}
use Rattle.reduce_ops.specs.Reduction.{combine}
use Rattle.std.proofs.Common.{Bool, List, Some, [], ap, arith, bytes_eq, cond, false, length, pos}
use Rattle.std.proofs.Common.{refl, subst, suc, sym, take, true, zero, ℕ, ℤ, ◌∙◌, ◌∷◌, ◌≡◌}
use Rattle.std.proofs.lemmas.Slice.Eq.{bytes_eq-Decides}
use Rattle.std.specs.Prelude.{⊤}
use Rattle.tp_value.specs.declared.Op.{Op}

-- how a value of the upper part becomes one of the whole, by the variable's name
abbrev pub Bend : Type 0
Bend = List ℕ → ℤ → ℤ

abbrev pub straight : Bend
straight x n = n

-- a variable that isn't reduced
abbrev pub Plain : Bend → List ℕ → Type 0
Plain h x = (n : ℤ) → h x n ≡ n

-- a variable into which the operator may fold: what is put before it stays before it
abbrev pub Folds : Bend → List ℕ → Op → Type 0
Folds h x o = (m n : ℤ) → h x (combine o m n) ≡ combine o (h x m) n

abbrev pub bent : Bend → List Variable → List Variable
bent h [] = []
bent h (v ∷ vs) = record { name = v.name; value = h v.name v.value } ∷ bent h vs

pub name_is : (a b : List ℕ) → bytes_eq a b ≡ true → a ≡ b
name_is a b e = (bytes_eq-Decides a b).0 e

pub bent_straight : (vs : List Variable) → bent straight vs ≡ vs
bent_straight [] = refl
bent_straight (v ∷ vs) = ap (λ w. v ∷ w) (bent_straight vs)

pub bent_length : (h : Bend) (vs : List Variable) → length (bent h vs) ≡ length vs
bent_length h [] = refl
bent_length h (v ∷ vs) = ap suc (bent_length h vs)

pub bent_take : (h : Bend) (n : ℕ) (vs : List Variable) → take n (bent h vs) ≡ bent h (take n vs)
bent_take h zero vs = refl
bent_take h (suc n) [] = refl
bent_take h (suc n) (v ∷ vs) = ap (λ w. record { name = v.name; value = h v.name v.value } ∷ w) (bent_take h n vs)

pub bent_declare : (h : Bend) (vs : List Variable) (x : List ℕ) (n : ℤ) → Plain h x → declare (bent h vs) x n ≡ bent h (declare vs x n)
bent_declare h [] x n p = ap (λ m. record { name = x; value = m } ∷ []) (sym (p n))
bent_declare h (v ∷ vs) x n p = ap (λ w. record { name = v.name; value = h v.name v.value } ∷ w) (bent_declare h vs x n p)

pub bent_lookup : (h : Bend) (vs : List Variable) (x : List ℕ) → Plain h x → lookup (bent h vs) x ≡ lookup vs x
bent_lookup h [] x p = refl
bent_lookup h (v ∷ vs) x p = go (bytes_eq v.name x) refl (bent_lookup h vs x p)
  where
    go : (b : Bool) → bytes_eq v.name x ≡ b → lookup (bent h vs) x ≡ lookup vs x → cond b (h v.name v.value) (lookup (bent h vs) x) ≡ cond b v.value (lookup vs x)
    go true e r = ap (λ y. h y v.value) (name_is v.name x e) ∙ p v.value
    go false e r = r

pub bent_assign : (h : Bend) (vs : List Variable) (x : List ℕ) (n : ℤ) → Plain h x → assign (bent h vs) x n ≡ bent h (assign vs x n)
bent_assign h [] x n p = refl
bent_assign h (v ∷ vs) x n p = go (bytes_eq v.name x) refl (bent_assign h vs x n p)
  where
    go : (b : Bool) → bytes_eq v.name x ≡ b → assign (bent h vs) x n ≡ bent h (assign vs x n) → assign (bent h (v ∷ vs)) x n ≡ bent h (assign (v ∷ vs) x n)
    go true e r = rw e (ap (λ m. record { name = v.name; value = m } ∷ bent h vs) (sym (ap (λ y. h y n) (name_is v.name x e) ∙ p n)))
    go false e r = rw e (ap (λ w. record { name = v.name; value = h v.name v.value } ∷ w) r)

pub bent_fold : (h : Bend) (o : Op) (vs : List Variable) (x : List ℕ) (n : ℤ) → Folds h x o → folded (Some o) (bent h vs) x n ≡ bent h (folded (Some o) vs x n)
bent_fold h o [] x n p = refl
bent_fold h o (v ∷ vs) x n p = go (bytes_eq v.name x) refl (bent_fold h o vs x n p)
  where
    go : (b : Bool) → bytes_eq v.name x ≡ b → folded (Some o) (bent h vs) x n ≡ bent h (folded (Some o) vs x n) → folded (Some o) (bent h (v ∷ vs)) x n ≡ bent h (folded (Some o) (v ∷ vs) x n)
    go true e r = rw e (ap (λ m. record { name = v.name; value = m } ∷ bent h vs)
        (sym (ap (λ y. h y (combine o v.value n)) (name_is v.name x e) ∙ p v.value n ∙ ap (λ y. combine o (h y v.value) n) (sym (name_is v.name x e)))))
    go false e r = rw e (ap (λ w. record { name = v.name; value = h v.name v.value } ∷ w) r)

-- ---- variables that a run keeps

-- the first variables still have their names, and those of the fixed names their values
abbrev pub Keeps : (List ℕ → Type 0) → List Variable → List Variable → Type 0
Keeps F [] vs = ⊤
Keeps F (u ∷ us) [] = ⊥
Keeps F (u ∷ us) (v ∷ vs) = (v.name ≡ u.name) × (F u.name → v.value ≡ u.value) × Keeps F us vs

pub keeps_refl : (F : List ℕ → Type 0) (vs : List Variable) → Keeps F vs vs
keeps_refl F [] = tt
keeps_refl F (v ∷ vs) = (refl, λ f. refl, keeps_refl F vs)

pub keeps_trans : (F : List ℕ → Type 0) (us vs ws : List Variable) → Keeps F us vs → Keeps F vs ws → Keeps F us ws
keeps_trans F [] vs ws p q = tt
keeps_trans F (u ∷ us) [] ws p q = absurd p
keeps_trans F (u ∷ us) (v ∷ vs) [] p q = absurd q
keeps_trans F (u ∷ us) (v ∷ vs) (w ∷ ws) p q = (q.0 ∙ p.0, λ f. q.1 (subst F (sym p.0) f) ∙ p.1 f, keeps_trans F us vs ws p.2 q.2)

pub keeps_take : (F : List ℕ → Type 0) (us vs : List Variable) → Keeps F us vs → Keeps F us (take (length us) vs)
keeps_take F [] vs p = tt
keeps_take F (u ∷ us) [] p = absurd p
keeps_take F (u ∷ us) (v ∷ vs) p = (p.0, p.1, keeps_take F us vs p.2)

pub keeps_declare : (F : List ℕ → Type 0) (vs : List Variable) (x : List ℕ) (n : ℤ) → Keeps F vs (declare vs x n)
keeps_declare F [] x n = tt
keeps_declare F (v ∷ vs) x n = (refl, λ f. refl, keeps_declare F vs x n)

pub keeps_assign : (F : List ℕ → Type 0) (vs : List Variable) (x : List ℕ) (n : ℤ) → (F x → ⊥) → Keeps F vs (assign vs x n)
keeps_assign F [] x n h = tt
keeps_assign F (v ∷ vs) x n h = go (bytes_eq v.name x) refl (keeps_assign F vs x n h)
  where
    go : (b : Bool) → bytes_eq v.name x ≡ b → Keeps F vs (assign vs x n) → Keeps F (v ∷ vs) (assign (v ∷ vs) x n)
    go true e r = subst (λ c. Keeps F (v ∷ vs) (cond c (record { name = v.name; value = n } ∷ vs) (v ∷ assign vs x n))) (sym e) (refl, λ f. absurd (h (subst F (name_is v.name x e) f)), keeps_refl F vs)
    go false e r = subst (λ c. Keeps F (v ∷ vs) (cond c (record { name = v.name; value = n } ∷ vs) (v ∷ assign vs x n))) (sym e) (refl, λ f. refl, r)

-- where both have the same number of variables, a fixed name stands for the same value
pub keeps_lookup : (F : List ℕ → Type 0) (us vs : List Variable) (x : List ℕ) → Keeps F us vs → length vs ≡ length us → F x → lookup vs x ≡ lookup us x
keeps_lookup F [] [] x k l f = refl
keeps_lookup F [] (v ∷ vs) x k l f = absurd (omega (arith, l))
keeps_lookup F (u ∷ us) [] x k l f = absurd k
keeps_lookup F (u ∷ us) (v ∷ vs) x k l f = go (bytes_eq u.name x) refl (keeps_lookup F us vs x k.2 (omega (arith, l)) f)
  where
    go : (b : Bool) → bytes_eq u.name x ≡ b → lookup vs x ≡ lookup us x → lookup (v ∷ vs) x ≡ lookup (u ∷ us) x
    go true e r = rw (k.0, e) (k.1 (subst F (sym (name_is u.name x e)) f))
    go false e r = rw (k.0, e) r

pub lookup_declare : (vs : List Variable) (x y : List ℕ) (n : ℤ) → (x ≡ y → ⊥) → lookup (declare vs x n) y ≡ lookup vs y
lookup_declare [] x y n h = go (bytes_eq x y) refl
  where
    go : (b : Bool) → bytes_eq x y ≡ b → cond b n (pos 0) ≡ pos 0
    go true e = absurd (h (name_is x y e))
    go false e = refl
lookup_declare (v ∷ vs) x y n h = ap (λ m. cond (bytes_eq v.name y) v.value m) (lookup_declare vs x y n h)

pub lookup_other : (vs : List Variable) (x y : List ℕ) (n : ℤ) → (x ≡ y → ⊥) → lookup (assign vs x n) y ≡ lookup vs y
lookup_other [] x y n h = refl
lookup_other (v ∷ vs) x y n h = go (bytes_eq v.name x) refl (lookup_other vs x y n h)
  where
    two : (b : Bool) → bytes_eq v.name y ≡ b → v.name ≡ x → cond b n (lookup vs y) ≡ cond b v.value (lookup vs y)
    two true e f = absurd (h (sym f ∙ name_is v.name y e))
    two false e f = refl

    go : (b : Bool) → bytes_eq v.name x ≡ b → lookup (assign vs x n) y ≡ lookup vs y → lookup (assign (v ∷ vs) x n) y ≡ lookup (v ∷ vs) y
    go true e r = rw e (two (bytes_eq v.name y) refl (name_is v.name x e))
    go false e r = rw e (ap (λ m. cond (bytes_eq v.name y) v.value m) r)

pub keeps_length : (F : List ℕ → Type 0) (us vs : List Variable) → Keeps F us vs → length (take (length us) vs) ≡ length us
keeps_length F [] vs k = refl
keeps_length F (u ∷ us) [] k = absurd k
keeps_length F (u ∷ us) (v ∷ vs) k = ap suc (keeps_length F us vs k.2)

pub keeps_weaken : (F G : List ℕ → Type 0) → ((x : List ℕ) → F x → G x) → (us vs : List Variable) → Keeps G us vs → Keeps F us vs
keeps_weaken F G w [] vs k = tt
keeps_weaken F G w (u ∷ us) [] k = absurd k
keeps_weaken F G w (u ∷ us) (v ∷ vs) k = (k.0, λ f. k.1 (w u.name f), keeps_weaken F G w us vs k.2)

-- ---- what goes with the reduce list of the loop that is cut

-- the other variables stay as they are, and what is put before a reduced one stays before it
pub record Goes (cut : List Reduce) (h : Bend) : Type 0 where
  pub plain : (x : List ℕ) → Unreduced cut x → Plain h x
  pub folds : (x : List ℕ) (o : Op) → SameOp o (operator_of cut x) → Folds h x o

pub goes_straight : Goes [] straight
goes_straight = record { plain = λ x e n. refl; folds = λ x o e m n. refl }
