-- What the calls need of what the steps tell.
use Rattle.tpal_machine.specs.declared.ends.End.{End}
use Rattle.tpal_machine.specs.declared.ends.End.TheVariants.{Root, At}
use Rattle.tpal_machine.specs.declared.ends.SideName.TheVariants.{Left, Right}
use Rattle.join_records.specs.Ends.{code_of, IsEndOf}
use Rattle.join_records.specs.declared.views.Grip.{Grip}
use Rattle.join_records.specs.declared.views.Grip.TheVariants.{Filling, Emptying, Emptied}
use Rattle.join_records.specs.declared.views.CallState.TheVariants.{Steady}
use Rattle.std.proofs.Common.{inl, inr, ◌≡◌, ◌≢◌, ◌⊎◌, ℕ, ◌+◌, ◌*◌, ◌<◌, ◌≤◌, List, [], ◌∷◌, ◌++◌}
use Rattle.std.proofs.Common.{length, refl, sym, ap, ◌∙◌, subst, arith, append_assoc, Bool, true}
use Rattle.std.proofs.Common.{false, ◌&&◌, ◌||◌, cond, eqb, eq-eqb, ne_eqb, Some}
use mathlib.Core.Option.{some, none}
use mathlib.Core.Logic.{dite}
use mir.Val.{bool_byte}
use native.Mathlib.Decide.{ℕ_discrete}
use lib.ListN.{get_elem?}
use Rattle.atomic_table.specs.Table.{Me, step, rest}
use Rattle.atomic_table.proofs.Lists.{at_longer, at_last}
use Rattle.std.specs.Prelude.{Option}
use Rattle.join_records.specs.declared.slot.Item.{Item}
use Rattle.join_records.specs.declared.slot.Item.TheVariants.{Rest, Child, Side}
use Rattle.join_records.specs.declared.views.View.{View}
use Rattle.join_records.specs.declared.views.Holding.{Holding}
use Rattle.join_records.specs.Views.{with_ends, with_hand, holds_end, read, in_hand, drop_record}
use Rattle.join_records.specs.Views.{NoneMet, total, saw_finish}
use Rattle.join_records.specs.Steps.{record_taken, arrived_at}
use Rattle.join_records.specs.Words.{other_bit, bit}
use Rattle.tpal_machine.specs.declared.ends.SideName.{SideName}
use Rattle.join_records.specs.Answers.{met_view, reads_more, NoneFree, FoundFree, HoldsNoSide}
use Rattle.join_records.specs.Answers.{reserved_view, filling_view}
use Rattle.std.specs.Prelude.{◌==◌, Contains, MatchBool, IfNone, None}
use Rattle.std.proofs.lemmas.List.Elements.{Contains-append_left, Contains-append_right}
use Rattle.join_records.proofs.Functions.{undropped, total_append}

module _ {C E S : Type 0} where
  pub taken_made : (n k : ℕ) (m : Me S (View C E)) (x : ℕ) (m' : Me S (View C E)) → record_taken (step n (k + 1) 0 1 none) m x m' → m.0.made ≡ m'.0.made
  taken_made n k m x m' t = dite (ℕ_discrete x 0) (λ z. sym (ap (λ (v : View C E). v.made) (t.2 k refl z).0)) (λ z. sym (ap (λ (v : View C E). v.made) (t.1 z)))

  pub taken_opens : (n k : ℕ) (m : Me S (View C E)) (x : ℕ) (m' : Me S (View C E)) → record_taken (step n (k + 1) 0 1 none) m x m' → m.0.opens ≡ m'.0.opens
  taken_opens n k m x m' t = dite (ℕ_discrete x 0) (λ z. sym (ap (λ (v : View C E). v.opens) (t.2 k refl z).0)) (λ z. sym (ap (λ (v : View C E). v.opens) (t.1 z)))

module _ {C E : Type 0} where
  -- views with other reads
  abbrev reads_of : View C E → List (ℕ × ℕ) → View C E
  reads_of v rs = record { number = v.number; parts = v.parts; born = v.born; root = v.root; ends = v.ends; hand = v.hand; opens = v.opens; made = v.made; reads = rs }

  -- reads one after another are reads
  pub reads_twice : (v : View C E) (xs ys : List (ℕ × ℕ)) → reads_more (reads_more v xs) ys ≡ reads_more v (xs ++ ys)
  reads_twice v xs ys = ap (reads_of v) (append_assoc v.reads xs ys)

  -- and after two searches none was in either
  pub none_both : (from mid to : ℕ) (u v w : View C E) → NoneFree from mid u v → NoneFree mid to v w → NoneFree from to u w
  none_both from mid to u v w (xs, is, first) (ys, is', second) = (
    xs ++ ys,
    is' ∙ (ap (λ (y : View C E). reads_more y ys) is ∙ reads_twice u xs ys),
    λ k low high. either_half k low high (le_or k),
  )
    where
      le_or : (k : ℕ) → (k < mid) ⊎ (mid ≤ k)
      le_or k = grind arith

      either_half : (k : ℕ) → from ≤ k → k < to → (k < mid) ⊎ (mid ≤ k) → (x : ℕ) × (x ≢ 0) × Contains (xs ++ ys) (k + 1, x)
      either_half k low high (inl near) = let t = first k low near in (t.0, t.1, Contains-append_left xs ys (k + 1, t.0) t.2)
      either_half k low high (inr far) = let t = second k far high in (t.0, t.1, Contains-append_right xs ys (k + 1, t.0) t.2)

  -- the same, where the second half was searched first
  pub none_round : (start count : ℕ) (u v w : View C E) → NoneFree start count u v → NoneFree 0 start v w → NoneFree 0 count u w
  none_round start count u v w (xs, is, first) (ys, is', second) = (
    xs ++ ys,
    is' ∙ (ap (λ (y : View C E). reads_more y ys) is ∙ reads_twice u xs ys),
    λ k low high. either_half k high (le_or k),
  )
    where
      le_or : (k : ℕ) → (k < start) ⊎ (start ≤ k)
      le_or k = grind arith

      either_half : (k : ℕ) → k < count → (k < start) ⊎ (start ≤ k) → (x : ℕ) × (x ≢ 0) × Contains (xs ++ ys) (k + 1, x)
      either_half k high (inl near) = let t = second k (omega arith) near in (t.0, t.1, Contains-append_right xs ys (k + 1, t.0) t.2)
      either_half k high (inr far) = let t = first k far high in (t.0, t.1, Contains-append_left xs ys (k + 1, t.0) t.2)

  pub none_if : {A : Type 0} (o : Option A) (start count : ℕ) (u v w : View C E) → NoneFree start count u v → IfNone o (NoneFree 0 start v w) → IfNone o (NoneFree 0 count u w)
  none_if None start count u v w first second = none_round start count u v w first second
  none_if (Some x) start count u v w first second = tt

  -- the same, after one read more
  pub none_after : (k y x : ℕ) (v u w : View C E) → u ≡ read v (k + 1) y → x ≢ 0 → w ≡ read u (k + 1) x → NoneFree k (k + 1) v w
  none_after k y x v u w before some_x is = (
    (k + 1, y) ∷ (k + 1, x) ∷ [],
    is ∙ (ap (λ (z : View C E). read z (k + 1) x) before ∙ reads_twice v ((k + 1, y) ∷ []) ((k + 1, x) ∷ [])),
    λ i low high. let same : i ≡ k = omega arith in (x, some_x, subst (λ (z : ℕ). Contains {X = ℕ × ℕ} ((k + 1, y) ∷ (k + 1, x) ∷ []) (z + 1, x)) (sym same) (1, omega arith, refl)),
  )

  -- a try to take a record after a look at it
  pub taken_after : (b : Bool) (k y : ℕ) (v u w : View C E) → u ≡ read v (k + 1) y → MatchBool b ((w ≡ reserved_view u k) × HoldsNoSide u k) ((x : ℕ) × (x ≢ 0) × (w ≡ read u (k + 1) x))
      → MatchBool b (FoundFree v k w × HoldsNoSide v k) (NoneFree k (k + 1) v w)
  taken_after true k y v u w before (is, apart) = (((k + 1, y) ∷ [], is ∙ ap (λ (z : View C E). reserved_view z k) before), subst (λ (z : View C E). HoldsNoSide z k) before apart)
  taken_after false k y v u w before (x, some_x, is) = none_after k y x v u w before some_x is

  -- the view of the second side after its three steps
  pub met_after : (k x y z : ℕ) (c : List (Holding E)) (up : End) (u : E) (v one two w : View C E) → one ≡ with_ends (read v (k + 1) x) c → two ≡ with_hand (with_ends (read one (k + 1) y) (holds_end up u Steady)) ((k, Emptying up) ∷ drop_record k one.hand)
      → w ≡ with_hand (read two (k + 1) z) ((k, Emptied up) ∷ drop_record k one.hand) → w ≡ met_view v k x y z up u
  met_after k x y z c up u v one two w first second third = third
      ∙ (ap (λ (t : View C E). with_hand (read t (k + 1) z) ((k, Emptied up) ∷ drop_record k one.hand)) second
      ∙ ap (λ (t : View C E). with_hand (read (with_hand (with_ends (read t (k + 1) y) (holds_end up u Steady)) ((k, Emptying up) ∷ drop_record k t.hand)) (k + 1) z) ((k, Emptied up) ∷ drop_record k t.hand)) first)

-- the first of a list, and what is behind it
pub front : {A : Type 0} (l : List (ℕ × A)) (x : ℕ × A) (xs : List (ℕ × A)) → l ≡ x ∷ xs → l ≡ x ∷ rest l
front {A = A} l x xs e = e ∙ ap (λ (y : List (ℕ × A)). x ∷ rest y) (sym e)

module _ {C E : Type 0} where
  pub filled_here : (v : View C E) (k x : ℕ) → in_hand (filling_view v k x).hand k ≡ Some Filling
  filled_here v k x = ap (λ (b : Bool). cond b (Some Filling) (in_hand (drop_record k v.hand) k)) (eq-eqb k k refl)

  pub filled_none_met : (v : View C E) (k x : ℕ) → NoneMet v → NoneMet (filling_view v k x)
  filled_none_met v k x none_met i up = dite (ℕ_discrete k i)
      (λ z. let is = ap (λ (b : Bool). cond b (Some Filling) (in_hand (drop_record k v.hand) i)) (eq-eqb k i z) in ((λ e. not_emptied (sym is ∙ e)), λ e. not_emptying (sym is ∙ e)))
      (λ n. let is = ap (λ (b : Bool). cond b (Some Filling) (in_hand (drop_record k v.hand) i)) (ne_eqb k i n) ∙ undropped k v.hand i (λ z. n (sym z)) in ((λ e. (none_met i up).0 (sym is ∙ e)), λ e. (none_met i up).1 (sym is ∙ e)))
    where
      not_emptied : {up : End} → Some Filling ≡ Some (Emptied up) → ⊥
      not_emptied e = cc

      not_emptying : {up : End} → Some Filling ≡ Some (Emptying up) → ⊥
      not_emptying e = cc

-- a record that was just met is in hand
pub emptying_here : (k : ℕ) (up : End) (h h' : List (ℕ × Grip)) → h' ≡ (k, Emptying up) ∷ drop_record k h → in_hand h' k ≡ Some (Emptying up)
emptying_here k up h h' is = ap (λ (l : List (ℕ × Grip)). in_hand l k) is ∙ ap (λ (b : Bool). cond b (Some (Emptying up)) (in_hand (drop_record k h) k)) (eq-eqb k k refl)

head_of : {A : Type 0} {x y : A} {xs ys : List A} → x ∷ xs ≡ y ∷ ys → x ≡ y
head_of e = cc

tail_of : {A : Type 0} {x y : A} {xs ys : List A} → x ∷ xs ≡ y ∷ ys → xs ≡ ys
tail_of e = cc

rest_of : {R C D : Type 0} {r r' : R} → ◌≡◌ {A = Option (Item R C D)} (Some (Rest r)) (Some (Rest r')) → r ≡ r'
rest_of e = cc

side_of : {R C D : Type 0} {d d' : D} → ◌≡◌ {A = Option (Item R C D)} (Some (Side d)) (Some (Side d')) → d ≡ d'
side_of e = cc

-- what is in three slots
pub slots_are : {R C D : Type 0} {i a b : ℕ} {r r' : R} {o o' d d' : D} → ◌≡◌ {A = List (ℕ × Option (Item R C D))} ((i, Some (Rest r)) ∷ (a, Some (Side o)) ∷ (b, Some (Side d)) ∷ []) ((i, Some (Rest r')) ∷ (a, Some (Side o')) ∷ (b, Some (Side d')) ∷ []) → (r ≡ r') × (o ≡ o') × (d ≡ d')
slots_are {R = R} {C = C} {D = D} e = (
  rest_of (ap (λ (p : ℕ × Option (Item R C D)). p.1) (head_of e)),
  side_of (ap (λ (p : ℕ × Option (Item R C D)). p.1) (head_of (tail_of e))),
  side_of (ap (λ (p : ℕ × Option (Item R C D)). p.1) (head_of (tail_of (tail_of e)))),
)

-- a test that says no
pub not_zero : (n : ℕ) (b : Bool) → b ≡ (n == 0) → b ≡ false → n ≢ 0
not_zero n b is off z = let t : false ≡ true = sym off ∙ (is ∙ ap (λ (m : ℕ). m == 0) z) in cc

first_of : {A : Type 0} → A → List (ℕ × A) → A
first_of a [] = a
first_of a (x ∷ xs) = x.1

-- the value in front
pub front_is : {A : Type 0} (l : List (ℕ × A)) (i j : ℕ) (a b : A) (xs ys : List (ℕ × A)) → l ≡ (i, a) ∷ xs → l ≡ (j, b) ∷ ys → a ≡ b
unfolding first_of
front_is l i j a b xs ys e f = ap (first_of a) (sym e ∙ f)

pub child_is : {R C D : Type 0} (a b : C) (o : Option (Item R C D)) → o ≡ Some (Child a) → o ≡ Some (Child b) → a ≡ b
child_is a b o e f = let z : Some (Child a) ≡ Some (Child b) = sym e ∙ f in cc

-- an end whose code is within those of a table's records is Root or one of theirs
pub end_within : (count : ℕ) (end : End) → 2 * code_of end ≤ 4 * count → IsEndOf count end
end_within count Root small = tt
end_within count (At k Left) small = omega arith
end_within count (At k Right) small = omega arith

module _ {R C D E : Type 0} where
  pub arrived_counts : (keeps : R → End → Type 0) (rest_owes : R → E → E → E → Type 0) (is_ending : D → End → E → Type 0) (side : SideName) (slots : ℕ) (m : Me (Option (Item R C D)) (View C E)) (x : ℕ) (m' : Me (Option (Item R C D)) (View C E)) (k : ℕ) (e : E)
      → arrived_at keeps rest_owes is_ending side slots m x m' k e → (m.0.opens ≡ m'.0.opens) × (m.0.made ≡ m'.0.made)
  arrived_counts keeps rest_owes is_ending side slots m x m' k e t = dite (ℕ_discrete (other_bit x side) 0)
      (λ z. let s = (t.0 z).0 in (sym (ap (λ (v : View C E). v.opens) s), sym (ap (λ (v : View C E). v.made) s)))
      (λ z. let s = (t.1 z).11 in (sym (ap (λ (v : View C E). v.opens) s), sym (ap (λ (v : View C E). v.made) s)))

module _ {A : Type 0} where
  pub last_total : (f : A → ℕ) (items xs : List A) (x : A) → items ≡ xs ++ x ∷ [] → total f items ≡ total f xs + f x
  last_total f items xs x e = ap (total f) e ∙ total_append f xs (x ∷ []) ∙ (let z : total f xs + (f x + 0) ≡ total f xs + f x = omega arith in z)

  pub last_here : (items xs : List A) (x : A) → items ≡ xs ++ x ∷ [] → get_elem? items (length xs) ≡ some x
  last_here items xs x e = ap (λ (l : List A). get_elem? l (length xs)) e ∙ at_last xs x (length xs) refl

  pub last_before : (items xs : List A) (x : A) → items ≡ xs ++ x ∷ [] → (k : ℕ) (y : A) → get_elem? xs k ≡ some y → get_elem? items k ≡ some y
  last_before items xs x e k y at = ap (λ (l : List A). get_elem? l k) e ∙ at_longer xs (x ∷ []) k y at

-- reads put together tell what either told
pub saw_left : (xs ys : List (ℕ × ℕ)) → bit (saw_finish xs) ≤ bit (saw_finish (xs ++ ys))
saw_left [] ys = omega arith
saw_left (x ∷ xs) ys = or_left (eqb x.0 0 && eqb x.1 1) (saw_finish xs) (saw_finish (xs ++ ys)) (saw_left xs ys)
  where
    or_left : (b c d : Bool) → bit c ≤ bit d → bit (b || c) ≤ bit (b || d)
    or_left true c d h = omega arith
    or_left false c d h = h

pub saw_right : (xs ys : List (ℕ × ℕ)) → bit (saw_finish ys) ≤ bit (saw_finish (xs ++ ys))
saw_right [] ys = omega arith
saw_right (x ∷ xs) ys = or_right (eqb x.0 0 && eqb x.1 1) (saw_finish ys) (saw_finish (xs ++ ys)) (saw_right xs ys)
  where
    or_right : (b c d : Bool) → bit c ≤ bit d → bit c ≤ bit (b || d)
    or_right true false d h = omega arith
    or_right true true d h = omega arith
    or_right false c d h = h

pub byte_bit : (b : Bool) → bool_byte b ≡ bit b
byte_bit true = refl
byte_bit false = refl

pub bit_small : (b : Bool) → bit b ≤ 1
bit_small true = omega arith
bit_small false = omega arith
