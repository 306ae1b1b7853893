-- What an event of one worker at one record leaves as it was.
use Rattle.std.proofs.Common.{◌≡◌, ℕ, suc, ◌<◌, ◌⊎◌, Option, Some, None, List, [], ◌∷◌, ◌++◌}
use Rattle.std.proofs.Common.{length, refl, sym, ap, ◌∙◌, subst, ⊎_elim, inl, inr, arith}
use Rattle.std.proofs.lemmas.Bool.{cases_eq}
use Rattle.schedule_core.specs.Machine.{left, right, CoreMachine}
use Rattle.schedule_core.specs.Core.{put, without, Seat, resting, running, forked, ended, holding}
use Rattle.schedule_core.specs.Core.{Cell, free, taken, opened, met}
use Rattle.schedule_core.specs.Sound.{Holder, nobody, by_seat, by_record, kept_of, KeepsEndOf}
use Rattle.schedule_core.specs.Sound.{IsOpen, Order, place, IsPending, one_there}
use Rattle.schedule_core.proofs.View.{SeatOk, SideOk, ChildOk, CellOk, RootOk}
use Rattle.schedule_core.proofs.Puts.{put_else, at_put}
use Rattle.schedule_core.proofs.Places.{place_short, place_last, place_other, once_more}
use Rattle.schedule_core.proofs.Places.{place_without, without_absent, without_there, without_below}
use Rattle.schedule_core.proofs.Places.{once_without}

-- an end whose holder no event of worker w at record k changes
abbrev pub Untouched : ℕ → ℕ → ℕ → Holder → Type 0
Untouched w k x nobody = (x ≡ left k → ⊥) × (x ≡ right k → ⊥)
Untouched w k x (by_seat i) = i ≡ w → ⊥
Untouched w k x (by_record j) = j ≡ k → ⊥

abbrev pub Still : ℕ → ℕ → (ℕ → Holder) → (ℕ → Holder) → Type 0
Still w k h h' = (x : ℕ) → Untouched w k x (h x) → h' x ≡ h x

-- what an event changes gets to worker w, to record k, or is an end of k
abbrev pub Back : ℕ → ℕ → (ℕ → Holder) → (ℕ → Holder) → Type 0
Back w k h h' = (x : ℕ) → Untouched w k x (h' x) → h' x ≡ h x

-- record k is in no hand of worker i
abbrev pub NotHand : {T R E : Type 0} → ℕ → Cell T R E → Type 0
NotHand i free = Unit {0}
NotHand i (taken j) = j ≡ i → ⊥
NotHand i (opened r ch p q) = Unit {0}
NotHand i (met j r p q) = j ≡ i → ⊥

module _ {T R E : Type 0} (M : CoreMachine T R E) (h h' : ℕ → Holder) (e : ℕ → M.Promise) (w k : ℕ) (st : Still w k h h') (nb : (x : ℕ) → (x ≡ 0 → ⊥) → (x ≡ left k → ⊥) → (x ≡ right k → ⊥) → h' x ≡ nobody → h x ≡ nobody) where
  still_seat : (x i : ℕ) → (i ≡ w → ⊥) → h x ≡ by_seat i → h' x ≡ by_seat i
  still_seat x i ne q = st x (subst (Untouched w k x) (sym q) ne) ∙ q

  still_record : (x j : ℕ) → (j ≡ k → ⊥) → h x ≡ by_record j → h' x ≡ by_record j
  still_record x j ne q = st x (subst (Untouched w k x) (sym q) ne) ∙ q

  still_nobody : (x : ℕ) → (x ≡ left k → ⊥) → (x ≡ right k → ⊥) → h x ≡ nobody → h' x ≡ nobody
  still_nobody x n1 n2 q = st x (subst (Untouched w k x) (sym q) (n1, n2)) ∙ q

  taken_stays : (cells : ℕ → Cell T R E) (new : Cell T R E) (i j : ℕ) → NotHand i (cells k) → cells j ≡ taken i → put cells k new j ≡ taken i
  taken_stays cells new i j nh q = put_else cells k new j (λ (a : j ≡ k). subst (NotHand i) (ap cells (sym a) ∙ q) nh refl) ∙ q

  met_stays : (cells : ℕ → Cell T R E) (new : Cell T R E) (i j : ℕ) (r : R) (p q : E) → NotHand i (cells k) → cells j ≡ met i r p q → put cells k new j ≡ met i r p q
  met_stays cells new i j r p q nh z = put_else cells k new j (λ (a : j ≡ k). subst (NotHand i) (ap cells (sym a) ∙ z) nh refl) ∙ z

  pending_frame : (cells cells' : ℕ → Cell T R E) (i : ℕ) (o : Option ℕ) → ((j : ℕ) → cells j ≡ taken i → cells' j ≡ taken i) → IsPending M cells i o → IsPending M cells' i o
  pending_frame cells cells' i None ta q = q
  pending_frame cells cells' i (Some j) ta q = ta j q

  pub seat_moves : (cells cells' : ℕ → Cell T R E) (i : ℕ) (s : Seat T R E) → (i ≡ w → ⊥) → ((j : ℕ) → cells j ≡ taken i → cells' j ≡ taken i) → ((j : ℕ) (r : R) (p q : E) → cells j ≡ met i r p q → cells' j ≡ met i r p q) → SeatOk M h e cells i s → SeatOk M h' e cells' i s
  seat_moves cells cells' i resting ne ta me o = o
  seat_moves cells cells' i (running t d) ne ta me o = (still_seat (M.home t) i ne o.0, o.1, pending_frame cells cells' i (M.pending t) ta o.2)
  seat_moves cells cells' i (forked j l c r) ne ta me o = (still_seat (M.kept r) i ne o.0, ta j o.1, o.2, o.3, o.4, o.5, o.6, o.7, o.8, o.9)
  seat_moves cells cells' i (ended x) ne ta me o = (still_seat (M.end_of x) i ne o.0, o.1)
  seat_moves cells cells' i (holding j) ne ta me o = (o.0, o.1, o.2, me j o.0 o.1 o.2 o.3)

  pub seat_frame : (cells : ℕ → Cell T R E) (new : Cell T R E) (i : ℕ) (s : Seat T R E) → (i ≡ w → ⊥) → NotHand i (cells k) → SeatOk M h e cells i s → SeatOk M h' e (put cells k new) i s
  seat_frame cells new i s ne nh o = seat_moves cells (put cells k new) i s ne (λ j z. taken_stays cells new i j nh z) (λ j r p q z. met_stays cells new i j r p q nh z) o

  side_frame : (j x : ℕ) (o : Option E) → (x ≡ left j) ⊎ (x ≡ right j) → (j ≡ k → ⊥) → SideOk M h e j x o → SideOk M h' e j x o
  side_frame j x None u ne o = λ q. o (nb x (λ z. ⊎_elim (λ a. omega (arith, z, a)) (λ a. omega (arith, z, a)) u) (λ z. ⊎_elim (λ a. omega (arith, z, a, ne)) (λ a. omega (arith, z, a, ne)) u) (λ z. ⊎_elim (λ a. omega (arith, z, a, ne)) (λ a. omega (arith, z, a, ne)) u) q)
  side_frame j x (Some p) u ne o = (still_record x j ne o.0, o.1)

  child_frame : (j : ℕ) (o : Option T) (q : Option E) → (j ≡ k → ⊥) → ChildOk M h e j o q → ChildOk M h' e j o q
  child_frame j None q ne o = o
  child_frame j (Some c) q ne o = (o.0, still_record (right j) j ne o.1, o.2, o.3, o.4, o.5)

  pub cell_frame : (j : ℕ) (c : Cell T R E) → (j ≡ k → ⊥) → CellOk M h e j c → CellOk M h' e j c
  cell_frame j free ne o = (still_nobody (left j) (λ q. omega (arith, q, ne)) (λ q. omega (arith, q)) o.0, still_nobody (right j) (λ q. omega (arith, q)) (λ q. omega (arith, q, ne)) o.1)
  cell_frame j (taken i) ne o = (still_nobody (left j) (λ q. omega (arith, q, ne)) (λ q. omega (arith, q)) o.0, still_nobody (right j) (λ q. omega (arith, q)) (λ q. omega (arith, q, ne)) o.1)
  cell_frame j (opened r ch p q) ne o = ((still_record (M.kept r) j ne o.0.0, o.0.1), child_frame j ch q ne o.1, side_frame j (left j) p (inl refl) ne o.2, side_frame j (right j) q (inr refl) ne o.3)
  cell_frame j (met i r p q) ne o = ((still_record (M.kept r) j ne o.0.0, o.0.1), side_frame j (left j) (Some p) (inl refl) ne o.1, side_frame j (right j) (Some q) (inr refl) ne o.2)

  pub root_frame : (out : M.Promise) (o : Option E) → (h' 0 ≡ nobody → h 0 ≡ nobody) → RootOk M h e out o → RootOk M h' e out o
  root_frame out None b r = λ q. r (b q)
  root_frame out (Some x) b r = (r.0, still_nobody 0 (λ q. omega (arith, q)) (λ q. omega (arith, q)) r.1)

-- ---- the order of open records

module _ {T R E : Type 0} (M : CoreMachine T R E) (cells : ℕ → Cell T R E) (xs : List ℕ) (ord : Order M cells xs) (k : ℕ) (x : Cell T R E) where
  -- a record that stays open or stays closed, and keeps the same end
  pub order_same : (IsOpen x → IsOpen (cells k)) → (IsOpen (cells k) → IsOpen x) → kept_of M x ≡ kept_of M (cells k) → Order M (put cells k x) xs
  order_same f g q = record {
    listed = λ j. at_put cells k x (λ y z. IsOpen z → 0 < place xs y) j (λ o. ord.listed k (f o)) (λ ne. ord.listed j);
    is_open = λ j. at_put cells k x (λ y z. 0 < place xs y → IsOpen z) j (λ o. g (ord.is_open k o)) (λ ne. ord.is_open j);
    once = ord.once;
    below = λ i j. at_put cells k x (λ y z. KeepsEndOf M z j → place xs j < place xs y) i
        (λ u. ord.below k j (⊎_elim (λ z. inl (sym q ∙ z)) (λ z. inr (sym q ∙ z)) u)) (λ ne. ord.below i j);
  }

  -- a record that is freed
  pub order_free : (IsOpen x → ⊥) → kept_of M x ≡ 0 → Order M (put cells k x) (without k xs)
  order_free no_open q = record {
    listed = λ j. at_put cells k x (λ y z. IsOpen z → 0 < place (without k xs) y) j (λ o. absurd (no_open o)) (λ ne o. without_there xs k j ne (ord.listed j o));
    is_open = λ j. at_put cells k x (λ y z. 0 < place (without k xs) y → IsOpen z) j
        (λ o. let a = place_without xs k in absurd (omega (arith, a, o)))
        (λ ne o. ord.is_open j (⊎_elim (λ (z : place xs j ≡ 0). let a = without_absent xs k j z in absurd (omega (arith, a, o))) (λ (z : place xs j ≡ 0 → ⊥). omega (arith, z)) (cases_eq (place xs j) 0)));
    once = once_without xs k ord.once;
    below = λ i j. at_put cells k x (λ y z. KeepsEndOf M z j → place (without k xs) j < place (without k xs) y) i
        (λ u. ⊎_elim (λ z. absurd (omega (arith, z, q))) (λ z. absurd (omega (arith, z, q))) u)
        (λ ne u. without_below xs k j i ne (ord.below i j u));
  }

  -- a record that is opened: its rest keeps no end of it, and none of its ends was kept
  pub order_open : (IsOpen (cells k) → ⊥) → IsOpen x → ((j : ℕ) → KeepsEndOf M x j → j ≡ k → ⊥) → ((i : ℕ) → KeepsEndOf M (cells i) k → ⊥) → Order M (put cells k x) (xs ++ k ∷ [])
  order_open closed op own none = record {
    listed = λ j. at_put cells k x (λ y z. IsOpen z → 0 < place (xs ++ k ∷ []) y) j (λ o. omega (arith, last)) (λ ne o. let a = place_other xs k j (λ q. ne (sym q)) in let b = ord.listed j o in omega (arith, a, b));
    is_open = λ j. at_put cells k x (λ y z. 0 < place (xs ++ k ∷ []) y → IsOpen z) j (λ o. op) (λ ne o. let a = place_other xs k j (λ q. ne (sym q)) in ord.is_open j (omega (arith, a, o)));
    once = once_more xs k new ord.once;
    below = λ i j. at_put cells k x (λ y z. KeepsEndOf M z j → place (xs ++ k ∷ []) j < place (xs ++ k ∷ []) y) i
        (λ u. let a = place_other xs k j (λ q. own j u (sym q)) in let b = place_short xs j in omega (arith, a, b, last))
        (λ ne u. ⊎_elim
        (λ (q : j ≡ k). absurd (none i (subst (KeepsEndOf M (cells i)) q u)))
        (λ (nj : j ≡ k → ⊥). let a = place_other xs k j (λ q. nj (sym q)) in let b = place_other xs k i (λ q. ne (sym q)) in let d = ord.below i j u in omega (arith, a, b, d))
        (cases_eq j k));
  }
    where
      new : place xs k ≡ 0
      new = ⊎_elim (λ (z : place xs k ≡ 0). z) (λ (z : place xs k ≡ 0 → ⊥). absurd (closed (ord.is_open k (omega (arith, z))))) (cases_eq (place xs k) 0)

      last : place (xs ++ k ∷ []) k ≡ suc (length xs)
      last = place_last xs k new

abbrev pub SeatIs : ℕ → Holder → Type 0
SeatIs w nobody = ⊥
SeatIs w (by_seat i) = i ≡ w
SeatIs w (by_record k) = ⊥

abbrev pub RecordIs : ℕ → Holder → Type 0
RecordIs w nobody = ⊥
RecordIs w (by_seat i) = ⊥
RecordIs w (by_record k) = k ≡ w

abbrev pub TakenBy : {T R E : Type 0} → ℕ → Cell T R E → Type 0
TakenBy w free = ⊥
TakenBy w (taken i) = i ≡ w
TakenBy w (opened r ch p q) = ⊥
TakenBy w (met i r p q) = ⊥

-- which kind of seat
abbrev pub kind : {T R E : Type 0} → Seat T R E → ℕ
kind resting = 0
kind (running t d) = 1
kind (forked k l c r) = 2
kind (ended e) = 3
kind (holding k) = 4

abbrev pub held_number : {T R E : Type 0} → Seat T R E → ℕ
held_number resting = 0
held_number (running t d) = 0
held_number (forked k l c r) = 0
held_number (ended e) = 0
held_number (holding k) = k

pub kind_clash : {T R E : Type 0} (x y : Seat T R E) → x ≡ y → (kind x ≡ kind y → ⊥) → ⊥
kind_clash x y a n = n (ap kind a)

pub some_same : (k j : ℕ) → Some k ≡ Some j → k ≡ j
some_same k j a = ap of a
  where
    of : Option ℕ → ℕ
    of None = 0
    of (Some i) = i

pub held_same : {T R E : Type 0} (k j : ℕ) → ◌≡◌ {A = Seat T R E} (holding k) (holding j) → k ≡ j
held_same k j a = ap held_number a

pub none_some : {k : ℕ} → None ≡ Some k → ⊥
none_some {k} a = let z : one_there None ≡ one_there (Some k) = ap one_there a in omega (arith, z)

pub seat_nobody : {a : Holder} (w : ℕ) → a ≡ by_seat w → a ≡ nobody → ⊥
seat_nobody w a b = subst (SeatIs w) (sym a ∙ b) refl

pub seat_record : {a : Holder} (w k : ℕ) → a ≡ by_seat w → a ≡ by_record k → ⊥
seat_record w k a b = subst (SeatIs w) (sym a ∙ b) refl

pub record_nobody : {a : Holder} (k : ℕ) → a ≡ by_record k → a ≡ nobody → ⊥
record_nobody k a b = subst (RecordIs k) (sym a ∙ b) refl

pub still_put : (w k : ℕ) (h g : ℕ → Holder) → Still w k h g → (y : ℕ) (v : Holder) → (Untouched w k y (h y) → ⊥) → Still w k h (put g y v)
still_put w k h g st y v nu x u = at_put g y v (λ z q. Untouched w k z (h z) → q ≡ h z) x (λ a. absurd (nu a)) (λ ne a. st x a) u

pub back_put : (w k : ℕ) (h g : ℕ → Holder) → Back w k h g → (y : ℕ) (v : Holder) → (Untouched w k y v → ⊥) → Back w k h (put g y v)
back_put w k h g bk y v nu x u = at_put g y v (λ z q. Untouched w k z q → q ≡ h z) x (λ a. absurd (nu a)) (λ ne a. bk x a) u

pub back_same : (w k : ℕ) (h : ℕ → Holder) → Back w k h h
back_same w k h x u = refl

pub still_same : (w k : ℕ) (h : ℕ → Holder) → Still w k h h
still_same w k h x u = refl

pub mine : (w k y : ℕ) (h : ℕ → Holder) → h y ≡ by_seat w → Untouched w k y (h y) → ⊥
mine w k y h q u = subst (Untouched w k y) q u refl

pub ours : (w k y : ℕ) (h : ℕ → Holder) → h y ≡ by_record k → Untouched w k y (h y) → ⊥
ours w k y h q u = subst (Untouched w k y) q u refl

pub dead_left : (w k : ℕ) (h : ℕ → Holder) → h (left k) ≡ nobody → Untouched w k (left k) (h (left k)) → ⊥
dead_left w k h q u = (subst (Untouched w k (left k)) q u).0 refl

pub dead_right : (w k : ℕ) (h : ℕ → Holder) → h (right k) ≡ nobody → Untouched w k (right k) (h (right k)) → ⊥
dead_right w k h q u = (subst (Untouched w k (right k)) q u).1 refl

-- the end that a record's rest keeps is held by the record
pub held_up : {T R E : Type 0} (M : CoreMachine T R E) (h : ℕ → Holder) (e : ℕ → M.Promise) (i y : ℕ) (c : Cell T R E) → CellOk M h e i c → kept_of M c ≡ suc y → h (suc y) ≡ by_record i
held_up M h e i y free o q = absurd (omega (arith, q))
held_up M h e i y (taken w) o q = absurd (omega (arith, q))
held_up M h e i y (opened r ch p s) o q = ap h (sym q) ∙ o.0.0
held_up M h e i y (met w r p s) o q = ap h (sym q) ∙ o.0.0
