-- Functions changed at one number, look-ups in short lists, and sums over views.
use Rattle.tpal_machine.specs.declared.ends.End.{End}
use Rattle.join_records.specs.declared.views.Grip.{Grip}
use Rattle.join_records.specs.declared.views.Grip.TheVariants.{Reserved, Filling, Emptying, Emptied}
use Rattle.join_records.specs.declared.views.CallState.{CallState}
use Rattle.join_records.specs.Ends.{code_of}
use Rattle.std.proofs.Common.{◌≡◌, ◌≢◌, ◌⊎◌, ℕ, zero, suc, ◌+◌, ◌<◌, ◌≤◌, eqb, List, [], ◌∷◌, ◌++◌}
use Rattle.std.proofs.Common.{map, replicate, length, get_or, set, Bool, true, false, cond, ◌||◌}
use Rattle.std.proofs.Common.{◌&&◌, refl, sym, ap, ◌∙◌, subst, inl, inr, ⊎_elim, arith, eq-eqb}
use Rattle.std.proofs.Common.{ne_eqb}
use Rattle.std.proofs.lemmas.Bool.{eqb-true}
use mathlib.Core.Option.{some, some-ne-none, some-injective}
use mathlib.Core.Logic.{dite}
use native.Mathlib.Decide.{ℕ_discrete}
use lib.ListN.{get_elem?}
use Rattle.std.specs.Prelude.{Option, Some, None}
use Rattle.join_records.specs.declared.views.Holding.{Holding}
use Rattle.join_records.specs.Rule.{Holder, nobody, seat, kept, Phase, free, taken, opened, met}
use Rattle.join_records.specs.Rule.{kind, hand_of, held_of}
use Rattle.join_records.specs.Views.{in_hand, find, saw_finish, total, drop_record, holds_end}

module _ {A : Type 0} where
  pub put : (ℕ → A) → ℕ → A → ℕ → A
  put f k x y = cond (eqb y k) x (f y)

  pub put_here : (f : ℕ → A) (k : ℕ) (x : A) → put f k x k ≡ x
  unfolding put
  put_here f k x = ap (λ (b : Bool). cond b x (f k)) (eq-eqb k k refl)

  pub put_else : (f : ℕ → A) (k : ℕ) (x : A) (y : ℕ) → y ≢ k → put f k x y ≡ f y
  unfolding put
  put_else f k x y n = ap (λ (b : Bool). cond b x (f y)) (ne_eqb y k n)

  -- what holds of the new value at k, and of each other value, holds after
  pub at_put : (f : ℕ → A) (k : ℕ) (x : A) (P : ℕ → A → Type 0) (y : ℕ) → P k x → (y ≢ k → P y (f y)) → P y (put f k x y)
  at_put f k x P y here other = dite (ℕ_discrete y k)
      (λ e. subst (λ (z : ℕ). P z (put f k x z)) (sym e) (subst (P k) (sym (put_here f k x)) here))
      (λ n. subst (P y) (sym (put_else f k x y n)) (other n))

  pub pick_here : (j : ℕ) (x : Option A) → cond (eqb j j) x None ≡ x
  pick_here j x = ap (λ (b : Bool). cond b x None) (eq-eqb j j refl)

  pub pick_else : (i j : ℕ) (x : Option A) → i ≢ j → cond (eqb i j) x None ≡ None
  pick_else i j x n = ap (λ (b : Bool). cond b x None) (ne_eqb i j n)

  pub total_set : (f : A → ℕ) (views : List A) (j : ℕ) (v w : A) → get_elem? views j ≡ some v → total f (set views j w) + f v ≡ total f views + f w
  total_set f [] j v w e = absurd (some-ne-none v (sym e))
  total_set f (x ∷ xs) zero v w e = let s : f x ≡ f v = ap f (some-injective x v e) in omega arith
  total_set f (x ∷ xs) (suc j) v w e = let h = total_set f xs j v w e in omega arith

  pub total_same : (f : A → ℕ) (views : List A) (j : ℕ) (v w : A) → get_elem? views j ≡ some v → f w ≡ f v → total f (set views j w) ≡ total f views
  total_same f views j v w e same = let h = total_set f views j v w e in omega arith

  pub total_append : (f : A → ℕ) (xs ys : List A) → total f (xs ++ ys) ≡ total f xs + total f ys
  total_append f [] ys = omega arith
  total_append f (x ∷ xs) ys = let h = total_append f xs ys in omega arith

  total_none : (f g : A → ℕ) (views : List A) → total g views ≡ 0 → ((i : ℕ) (u : A) → get_elem? views i ≡ some u → g u ≡ 0 → f u ≡ 0) → total f views ≡ 0
  total_none f g [] e idle = refl
  total_none f g (x ∷ xs) e idle = let a = idle 0 x refl (omega arith) in let b = total_none f g xs (omega arith) (λ i u at. idle (suc i) u at) in omega arith

  pub at_most : (g : A → ℕ) (views : List A) (j : ℕ) (v : A) → get_elem? views j ≡ some v → g v ≤ total g views
  at_most g [] j v e = absurd (some-ne-none v (sym e))
  at_most g (x ∷ xs) zero v e = let s : g x ≡ g v = ap g (some-injective x v e) in omega arith
  at_most g (x ∷ xs) (suc j) v e = let h = at_most g xs j v e in omega arith

  -- where one view has all of g, and f is 0 where g is, it has all of f
  pub total_alone : (f g : A → ℕ) (views : List A) (j : ℕ) (v : A) → get_elem? views j ≡ some v → total g views ≡ g v → ((i : ℕ) (u : A) → get_elem? views i ≡ some u → g u ≡ 0 → f u ≡ 0) → total f views ≡ f v
  total_alone f g [] j v at e idle = absurd (some-ne-none v (sym at))
  total_alone f g (x ∷ xs) zero v at e idle = let s : g x ≡ g v = ap g (some-injective x v at) in let t : f x ≡ f v = ap f (some-injective x v at) in
      let b = total_none f g xs (omega arith) (λ i u near. idle (suc i) u near) in omega arith
  total_alone f g (x ∷ xs) (suc j) v at e idle = let m = at_most g xs j v at in let a = idle 0 x refl (omega arith) in let b = total_alone f g xs j v at (omega arith) (λ i u near. idle (suc i) u near) in omega arith

  abbrev pub or_else : Option A → Option A → Option A
  or_else None y = y
  or_else (Some x) y = Some x

  pub or_none : (x : Option A) → or_else x None ≡ x
  or_none None = refl
  or_none (Some x) = refl

  -- an element of a list with one more, and where it is
  pub at_more : (l : List A) (a b : A) (j : ℕ) → get_elem? (l ++ a ∷ []) j ≡ some b → (get_elem? l j ≡ some b) ⊎ ((j ≡ length l) × (a ≡ b))
  at_more [] a b zero e = inr (refl, some-injective a b e)
  at_more [] a b (suc j) e = absurd (some-ne-none b (sym e))
  at_more (x ∷ xs) a b zero e = inl e
  at_more (x ∷ xs) a b (suc j) e = ⊎_elim inl (λ t. inr (ap suc t.0, t.1)) (at_more xs a b j e)

  pub length_more : (l : List A) (a : A) → length (l ++ a ∷ []) ≡ length l + 1
  length_more [] a = refl
  length_more (x ∷ xs) a = let h = length_more xs a in omega arith

  pub all_some : (n i : ℕ) (x : A) → i < n → get_elem? (map some (replicate n x)) i ≡ some (some x)
  all_some zero i x near = absurd (omega arith)
  all_some (suc n) zero x near = refl
  all_some (suc n) (suc i) x near = all_some n i x (omega arith)

  pub at_below : (l : List A) (i : ℕ) (a : A) → get_elem? l i ≡ some a → i < length l
  at_below [] i a e = absurd (some-ne-none a (sym e))
  at_below (x ∷ xs) zero a e = omega arith
  at_below (x ∷ xs) (suc i) a e = let h = at_below xs i a e in omega arith

or_or : (b c d : Bool) → ((c ≡ true) → d ≡ true) → (b || c) ≡ true → (b || d) ≡ true
or_or true c d f e = refl
or_or false c d f e = f e

both_true : (b c : Bool) → ((b && c) || false) ≡ true → (b ≡ true) × (c ≡ true)
both_true true true e = (refl, refl)
both_true true false e = absurd (cc)
both_true false c e = absurd (cc)

-- no read of the finish word as 1 came
pub saw_more : (xs : List (ℕ × ℕ)) (i x : ℕ) → (i ≡ 0 → x ≢ 1) → saw_finish (xs ++ (i, x) ∷ []) ≡ true → saw_finish xs ≡ true
saw_more [] i x never e = let b = both_true (eqb i 0) (eqb x 1) e in absurd (never (eqb-true i 0 b.0) (eqb-true x 1 b.1))
saw_more (y ∷ ys) i x never e = or_or (eqb y.0 0 && eqb y.1 1) (saw_finish (ys ++ (i, x) ∷ [])) (saw_finish ys) (saw_more ys i x never) e

-- a seat's view of a holder or a phase that names another seat, or none
pub Other : ℕ → Holder → Type 0
Other j nobody = Unit {0}
Other j (seat i m) = i ≢ j
Other j (kept k) = Unit {0}

pub held_other : {E : Type 0} (j : ℕ) (h : Holder) (e : E) → Other j h → held_of j h e ≡ None
unfolding Other
held_other j nobody e o = refl
held_other j (seat i m) e o = pick_else i j (Some (e, m)) o
held_other j (kept k) e o = refl

pub all_zero : (n i : ℕ) → get_or (replicate {A = ℕ} n 0) i 0 ≡ 0
all_zero zero i = refl
all_zero (suc n) zero = refl
all_zero (suc n) (suc i) = all_zero n i

pub dead_none : {E : Type 0} (j : ℕ) (h : Holder) (e : E) → kind h ≡ 0 → held_of j h e ≡ None
dead_none j nobody e dead = refl
dead_none j (seat i m) e dead = absurd (omega arith)
dead_none j (kept k) e dead = refl

-- no record in an empty hand
pub hand_none : (j i : ℕ) (out : Bool) (up : End) (ph : Phase) → None ≡ hand_of j ph → ph ≢ met j out up
hand_none j i out up ph e is = none_some (e ∙ ap (hand_of j) is ∙ pick_here j (Some (cond out (Emptying up) (Emptied up))))
  where
    none_some : {x : Grip} → None ≡ Some x → ⊥
    none_some e = cc

-- a first entry that is p where b is so
or_test : {A : Type 0} (b : Bool) (p : A) (q x y : Option A) → q ≡ or_else x y → cond b (Some p) q ≡ or_else (cond b (Some p) x) y
or_test true p q x y e = refl
or_test false p q x y e = e

pub find_append : {E : Type 0} (xs ys : List (Holding E)) (c : ℕ) → find (xs ++ ys) c ≡ or_else (find xs c) (find ys c)
find_append [] ys c = refl
find_append (x ∷ xs) ys c = or_test (eqb (code_of x.end) c) (x.ending, x.stage) (find (xs ++ ys) c) (find xs c) (find ys c) (find_append xs ys c)

pub hand_append : (xs ys : List (ℕ × Grip)) (k : ℕ) → in_hand (xs ++ ys) k ≡ or_else (in_hand xs k) (in_hand ys k)
hand_append [] ys k = refl
hand_append (x ∷ xs) ys k = or_test (eqb x.0 k) x.1 (in_hand (xs ++ ys) k) (in_hand xs k) (in_hand ys k) (hand_append xs ys k)

pub saw_append : (xs ys : List (ℕ × ℕ)) → saw_finish (xs ++ ys) ≡ true → (saw_finish xs ≡ true) ⊎ (saw_finish ys ≡ true)
saw_append [] ys e = inr e
saw_append (x ∷ xs) ys e = either_one (eqb x.0 0 && eqb x.1 1) (saw_finish (xs ++ ys)) (saw_finish xs) (saw_finish ys) (saw_append xs ys) e
  where
    either_one : (b c d f : Bool) → ((c ≡ true) → (d ≡ true) ⊎ (f ≡ true)) → (b || c) ≡ true → ((b || d) ≡ true) ⊎ (f ≡ true)
    either_one true c d f h e = inl refl
    either_one false c d f h e = h e

pub dropped : (k : ℕ) (h : List (ℕ × Grip)) → in_hand (drop_record k h) k ≡ None
dropped k [] = refl
dropped k (x ∷ xs) = dite (ℕ_discrete x.0 k)
    (λ e. ap (λ (b : Bool). in_hand (cond b (drop_record k xs) (x ∷ drop_record k xs)) k) (eq-eqb x.0 k e) ∙ dropped k xs)
    (λ n. ap (λ (b : Bool). in_hand (cond b (drop_record k xs) (x ∷ drop_record k xs)) k) (ne_eqb x.0 k n) ∙ (ap (λ (b : Bool). cond b (Some x.1) (in_hand (drop_record k xs) k)) (ne_eqb x.0 k n) ∙ dropped k xs))

pub undropped : (k : ℕ) (h : List (ℕ × Grip)) (i : ℕ) → i ≢ k → in_hand (drop_record k h) i ≡ in_hand h i
undropped k [] i apart = refl
undropped k (x ∷ xs) i apart = dite (ℕ_discrete x.0 k)
    (λ e. ap (λ (b : Bool). in_hand (cond b (drop_record k xs) (x ∷ drop_record k xs)) i) (eq-eqb x.0 k e)
    ∙ (undropped k xs i apart ∙ sym (ap (λ (b : Bool). cond b (Some x.1) (in_hand xs i)) (ne_eqb x.0 i (λ z. apart (sym z ∙ e))))))
    (λ n. ap (λ (b : Bool). in_hand (cond b (drop_record k xs) (x ∷ drop_record k xs)) i) (ne_eqb x.0 k n) ∙ ap (λ (o : Option Grip). cond (eqb x.0 i) (Some x.1) o) (undropped k xs i apart))

none_some : {A : Type 0} {x : A} → None ≡ Some x → ⊥
none_some e = cc

some_is : {A : Type 0} {x y : A} → Some x ≡ Some y → x ≡ y
some_is e = cc

-- a seat that has an end is its holder
pub held_some : {E : Type 0} (j : ℕ) (h : Holder) (x e : E) (m : CallState) → Some (e, m) ≡ held_of j h x → (h ≡ seat j m) × (x ≡ e)
held_some j nobody x e m is = absurd (none_some (sym is))
held_some {E = E} j (seat i l) x e m is = dite (ℕ_discrete i j)
    (λ z. let p = some_is (is ∙ ap (λ (b : Bool). cond b (Some (x, l)) None) (eq-eqb i j z)) in ((λ t. seat (z t) (sym (ap (λ (q : E × CallState). q.1) p) t)), sym (ap (λ (q : E × CallState). q.0) p)))
    (λ n. absurd (none_some (sym (is ∙ pick_else i j (Some (x, l)) n))))
held_some j (kept k) x e m is = absurd (none_some (sym is))

-- and a record in its hand is its
pub hand_some : (j : ℕ) (ph : Phase) (n : Grip) → Some n ≡ hand_of j ph → ((out : Bool) × (ph ≡ taken j out) × (n ≡ cond out Filling Reserved)) ⊎ ((out : Bool) × (up : End) × (ph ≡ met j out up) × (n ≡ cond out (Emptying up) (Emptied up)))
hand_some j free n is = absurd (none_some (sym is))
hand_some j (taken i out) n is = dite (ℕ_discrete i j)
    (λ z. inl (out, ap (λ (y : ℕ). taken y out) z, some_is (is ∙ ap (λ (b : Bool). cond b (Some (cond out Filling Reserved)) None) (eq-eqb i j z))))
    (λ z. absurd (none_some (sym (is ∙ pick_else i j (Some (cond out Filling Reserved)) z))))
hand_some j (opened up l b) n is = absurd (none_some (sym is))
hand_some j (met i out up) n is = dite (ℕ_discrete i j)
    (λ z. inr (out, up, ap (λ (y : ℕ). met y out up) z, some_is (is ∙ ap (λ (b : Bool). cond b (Some (cond out (Emptying up) (Emptied up))) None) (eq-eqb i j z))))
    (λ z. absurd (none_some (sym (is ∙ pick_else i j (Some (cond out (Emptying up) (Emptied up))) z))))

-- by how it is in hand
pub hand_taken : (j : ℕ) (ph : Phase) → Some Reserved ≡ hand_of j ph → ph ≡ taken j false
hand_taken j ph is = ⊎_elim (λ (out, e, n). reserved out e n) (λ (out, up, e, n). absurd (not_met out up n)) (hand_some j ph Reserved is)
  where
    reserved : (out : Bool) → ph ≡ taken j out → Reserved ≡ cond out Filling Reserved → ph ≡ taken j false
    reserved false e n = e
    reserved true e n = absurd (cc)

    not_met : (out : Bool) (up : End) → Reserved ≡ cond out (Emptying up) (Emptied up) → ⊥
    not_met false up n = cc
    not_met true up n = cc

pub hand_out : (j : ℕ) (ph : Phase) → Some Filling ≡ hand_of j ph → ph ≡ taken j true
hand_out j ph is = ⊎_elim (λ (out, e, n). filling out e n) (λ (out, up, e, n). absurd (not_met out up n)) (hand_some j ph Filling is)
  where
    filling : (out : Bool) → ph ≡ taken j out → Filling ≡ cond out Filling Reserved → ph ≡ taken j true
    filling true e n = e
    filling false e n = absurd (cc)

    not_met : (out : Bool) (up : End) → Filling ≡ cond out (Emptying up) (Emptied up) → ⊥
    not_met false up n = cc
    not_met true up n = cc

pub hand_met : (j : ℕ) (ph : Phase) (up : End) → Some (Emptied up) ≡ hand_of j ph → ph ≡ met j false up
hand_met j ph up is = ⊎_elim (λ (out, e, n). absurd (not_taken out n)) (λ (out, other, e, n). emptied out other e n) (hand_some j ph (Emptied up) is)
  where
    same : (other : End) → Emptied up ≡ Emptied other → other ≡ up
    same other n = cc

    emptied : (out : Bool) (other : End) → ph ≡ met j out other → Emptied up ≡ cond out (Emptying other) (Emptied other) → ph ≡ met j false up
    emptied false other e n = e ∙ ap (met j false) (same other n)
    emptied true other e n = absurd (cc)

    not_taken : (out : Bool) → Emptied up ≡ cond out Filling Reserved → ⊥
    not_taken false n = cc
    not_taken true n = cc

pub hand_emptying : (j : ℕ) (ph : Phase) (up : End) → Some (Emptying up) ≡ hand_of j ph → ph ≡ met j true up
hand_emptying j ph up is = ⊎_elim (λ (out, e, n). absurd (not_taken out n)) (λ (out, other, e, n). emptying out other e n) (hand_some j ph (Emptying up) is)
  where
    same : (other : End) → Emptying up ≡ Emptying other → other ≡ up
    same other n = cc

    emptying : (out : Bool) (other : End) → ph ≡ met j out other → Emptying up ≡ cond out (Emptying other) (Emptied other) → ph ≡ met j true up
    emptying true other e n = e ∙ ap (met j true) (same other n)
    emptying false other e n = absurd (cc)

    not_taken : (out : Bool) → Emptying up ≡ cond out Filling Reserved → ⊥
    not_taken false n = cc
    not_taken true n = cc

-- a hand after a step on record k
module _ (cells : ℕ → Phase) (id k : ℕ) (h : List (ℕ × Grip)) (ok : (i : ℕ) → in_hand h i ≡ hand_of id (cells i)) (ph : Phase) where
  pub hand_put : (n : Grip) → hand_of id ph ≡ Some n → (i : ℕ) → in_hand ((k, n) ∷ drop_record k h) i ≡ hand_of id (put cells k ph i)
  hand_put n is i = at_put cells k ph (λ y a. y ≡ i → in_hand ((k, n) ∷ drop_record k h) i ≡ hand_of id a) i
      (λ z. ap (λ (b : Bool). cond b (Some n) (in_hand (drop_record k h) i)) (eq-eqb k i z) ∙ sym is)
      (λ apart _. ap (λ (b : Bool). cond b (Some n) (in_hand (drop_record k h) i)) (ne_eqb k i (λ e. apart (sym e))) ∙ (undropped k h i apart ∙ ok i)) refl

  pub hand_drop : hand_of id ph ≡ None → (i : ℕ) → in_hand (drop_record k h) i ≡ hand_of id (put cells k ph i)
  hand_drop is i = at_put cells k ph (λ y a. y ≡ i → in_hand (drop_record k h) i ≡ hand_of id a) i
      (λ z. ap (in_hand (drop_record k h)) (sym z) ∙ (dropped k h ∙ sym is)) (λ apart _. undropped k h i apart ∙ ok i) refl

  pub hand_same : hand_of id (cells k) ≡ hand_of id ph → (i : ℕ) → in_hand h i ≡ hand_of id (put cells k ph i)
  hand_same is i = at_put cells k ph (λ y a. y ≡ i → in_hand h i ≡ hand_of id a) i
      (λ z. ap (in_hand h) (sym z) ∙ (ok k ∙ is)) (λ apart _. ok i) refl

head_ending : {E : Type 0} → E → List (Holding E) → E
head_ending e [] = e
head_ending e (h ∷ hs) = h.ending

-- one end alone has one ending
pub one_ending : {E : Type 0} {c c' : End} {m m' : CallState} {e d : E} → holds_end c e m ≡ holds_end c' d m' → e ≡ d
unfolding head_ending
one_ending {e = e} is = ap (head_ending e) is

-- a record that is dropped from a hand once is dropped from it
pub dropped_twice : (k : ℕ) (n : Grip) (h : List (ℕ × Grip)) → drop_record k ((k, n) ∷ drop_record k h) ≡ drop_record k h
dropped_twice k n h = ap (λ (b : Bool). cond b (drop_record k (drop_record k h)) ((k, n) ∷ drop_record k (drop_record k h))) (eq-eqb k k refl) ∙ twice h
  where
    twice : (xs : List (ℕ × Grip)) → drop_record k (drop_record k xs) ≡ drop_record k xs
    twice [] = refl
    twice (x ∷ xs) = dite (ℕ_discrete x.0 k)
        (λ e. ap (λ (b : Bool). drop_record k (cond b (drop_record k xs) (x ∷ drop_record k xs))) (eq-eqb x.0 k e) ∙ (twice xs ∙ sym (ap (λ (b : Bool). cond b (drop_record k xs) (x ∷ drop_record k xs)) (eq-eqb x.0 k e))))
        (λ o. ap (λ (b : Bool). drop_record k (cond b (drop_record k xs) (x ∷ drop_record k xs))) (ne_eqb x.0 k o) ∙ (ap (λ (b : Bool). cond b (drop_record k (drop_record k xs)) (x ∷ drop_record k (drop_record k xs))) (ne_eqb x.0 k o)
        ∙ (ap (λ (ys : List (ℕ × Grip)). x ∷ ys) (twice xs) ∙ sym (ap (λ (b : Bool). cond b (drop_record k xs) (x ∷ drop_record k xs)) (ne_eqb x.0 k o)))))
