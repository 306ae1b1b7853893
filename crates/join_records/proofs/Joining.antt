-- Two seats that become one keep the rule.
use Rattle.join_records.specs.declared.views.Grip.TheVariants.{Reserved, Filling, Emptying, Emptied}
use Rattle.join_records.specs.declared.views.CallState.{CallState}
use Rattle.std.proofs.Common.{◌≡◌, ◌≢◌, ℕ, ◌+◌, ◌*◌, ◌<◌, eqb, List, length, set, Bool, true, false}
use Rattle.std.proofs.Common.{cond, refl, sym, ap, ◌∙◌, subst, ⊎_elim, arith, length-set, eq-eqb}
use Rattle.std.proofs.Common.{ne_eqb}
use mathlib.Core.Option.{some}
use mathlib.Core.Logic.{dite}
use native.Mathlib.Decide.{ℕ_discrete}
use lib.ListN.{get_elem?}
use Rattle.std.specs.Prelude.{Option, Some, None}
use Rattle.atomic_table.specs.Table.{State, Joins}
use Rattle.atomic_table.proofs.Lists.{at_set}
use Rattle.join_records.specs.declared.slot.Item.{Item}
use Rattle.join_records.specs.declared.views.View.{View}
use Rattle.join_records.specs.Ends.{left_of, right_of}
use Rattle.join_records.specs.Rule.{Facts, Holder, nobody, seat, kept, RightSide, unclaimed, claimed}
use Rattle.join_records.specs.Rule.{arrived, Phase, free, taken, opened, met, Era, unborn, running}
use Rattle.join_records.specs.Rule.{finished, kind, hand_of, held_of, KeepsEnd, NamesBelow, CellOk}
use Rattle.join_records.specs.Rule.{EraOk, SeatOk, Kept, LeftOk, RightOk, Waits}
use Rattle.join_records.specs.Views.{total, spent, both_of}
use Rattle.join_records.proofs.Functions.{total_set, at_below, pick_here, pick_else, or_else}
use Rattle.join_records.proofs.Functions.{or_none, find_append, hand_append, saw_append}

module _ {R C D E : Type 0} (F : Facts R C D E) (born : C) (id other : ℕ) (apart : other ≢ id) where
  abbrev V : Type 0
  V = View C E

  abbrev S : Type 0
  S = Option (Item R C D)

  abbrev St : Type 0
  St = State S V

  -- the seat `other` is seat `id` from now on
  name : ℕ → ℕ
  name j = cond (eqb j other) id j

  abbrev hold : Holder → Holder
  hold nobody = nobody
  hold (seat j m) = seat (name j) m
  hold (kept k) = kept k

  abbrev be : Phase → Phase
  be free = free
  be (taken i out) = taken (name i) out
  be (opened up l b) = opened up l b
  be (met i out up) = met (name i) out up

  name_other : (j : ℕ) → j ≡ other → name j ≡ id
  unfolding name
  name_other j e = ap (λ (b : Bool). cond b id j) (eq-eqb j other e)

  name_else : (j : ℕ) → j ≢ other → name j ≡ j
  unfolding name
  name_else j n = ap (λ (b : Bool). cond b id j) (ne_eqb j other n)

  name_below : (n j : ℕ) → id < n → j < n → name j < n
  name_below n j a b = dite (ℕ_discrete j other) (λ e. subst (λ (y : ℕ). y < n) (sym (name_other j e)) a) (λ e. subst (λ (y : ℕ). y < n) (sym (name_else j e)) b)

  kind_same : (h : Holder) → kind (hold h) ≡ kind h
  kind_same nobody = refl
  kind_same (seat j m) = refl
  kind_same (kept k) = refl

  -- what one pick of the new name is: of seat id, the picks of the two; of `other`, none; of another seat, as before
  pick_id : {A : Type 0} (j : ℕ) (x : A) → cond (eqb (name j) id) (Some x) None ≡ or_else (cond (eqb j id) (Some x) None) (cond (eqb j other) (Some x) None)
  pick_id j x = dite (ℕ_discrete j other)
      (λ e. let a = pick_else j id (Some x) (λ z. apart (sym e ∙ z)) in ap (λ (y : ℕ). cond (eqb y id) (Some x) None) (name_other j e) ∙ pick_here id (Some x)
      ∙ sym (ap (λ o. or_else o (cond (eqb j other) (Some x) None)) a ∙ (ap (λ (y : ℕ). cond (eqb y other) (Some x) None) e ∙ pick_here other (Some x))))
      (λ n. ap (λ (y : ℕ). cond (eqb y id) (Some x) None) (name_else j n)
      ∙ sym (ap (or_else (cond (eqb j id) (Some x) None)) (pick_else j other (Some x) n) ∙ or_none (cond (eqb j id) (Some x) None)))

  pick_other : {A : Type 0} (j : ℕ) (x : A) → cond (eqb (name j) other) (Some x) None ≡ None
  pick_other j x = pick_else (name j) other (Some x) (λ z. dite (ℕ_discrete j other) (λ e. apart (sym z ∙ name_other j e)) (λ n. n (sym (name_else j n) ∙ z)))

  pick_third : {A : Type 0} (i j : ℕ) (x : A) → i ≢ id → i ≢ other → cond (eqb (name j) i) (Some x) None ≡ cond (eqb j i) (Some x) None
  pick_third i j x a b = dite (ℕ_discrete j other)
      (λ e. pick_else (name j) i (Some x) (λ z. a (sym z ∙ name_other j e)) ∙ sym (pick_else j i (Some x) (λ z. b (sym z ∙ e))))
      (λ n. ap (λ (y : ℕ). cond (eqb y i) (Some x) None) (name_else j n))

  held_id : (h : Holder) (e : E) → held_of id (hold h) e ≡ or_else (held_of id h e) (held_of other h e)
  held_id nobody e = refl
  held_id (seat j m) e = pick_id j (e, m)
  held_id (kept k) e = refl

  held_other : (h : Holder) (e : E) → held_of other (hold h) e ≡ None
  held_other nobody e = refl
  held_other (seat j m) e = pick_other j (e, m)
  held_other (kept k) e = refl

  held_third : (i : ℕ) (h : Holder) (e : E) → i ≢ id → i ≢ other → held_of i (hold h) e ≡ held_of i h e
  held_third i nobody e a b = refl
  held_third i (seat j m) e a b = pick_third i j (e, m) a b
  held_third i (kept k) e a b = refl

  hand_id : (ph : Phase) → hand_of id (be ph) ≡ or_else (hand_of id ph) (hand_of other ph)
  hand_id free = refl
  hand_id (taken i out) = pick_id i (cond out Filling Reserved)
  hand_id (opened up l b) = refl
  hand_id (met i out up) = pick_id i (cond out (Emptying up) (Emptied up))

  hand_other : (ph : Phase) → hand_of other (be ph) ≡ None
  hand_other free = refl
  hand_other (taken i out) = pick_other i (cond out Filling Reserved)
  hand_other (opened up l b) = refl
  hand_other (met i out up) = pick_other i (cond out (Emptying up) (Emptied up))

  hand_third : (j : ℕ) (ph : Phase) → j ≢ id → j ≢ other → hand_of j (be ph) ≡ hand_of j ph
  hand_third j free a b = refl
  hand_third j (taken i out) a b = pick_third j i (cond out Filling Reserved) a b
  hand_third j (opened up l q) a b = refl
  hand_third j (met i out up) a b = pick_third j i (cond out (Emptying up) (Emptied up)) a b

  keeps_same : (c : ℕ) (ph : Phase) → KeepsEnd c ph → KeepsEnd c (be ph)
  keeps_same c free k = k
  keeps_same c (taken i out) k = k
  keeps_same c (opened up l b) k = k
  keeps_same c (met i out up) k = k

  module _ (s : St) (r : Kept F born s) where
    abbrev holder' : ℕ → Holder
    holder' c = hold (r.holder c)

    waits_same : (k x c : ℕ) → Waits F s.words s.homes r.holder r.ending k x c → Waits F s.words s.homes holder' r.ending k x c
    waits_same k x c ok = ((λ z. ok.0 (sym (kind_same (r.holder c)) ∙ z)), λ z. ok.1 (λ q. z (kind_same (r.holder c) ∙ q)))

    left_same : (k : ℕ) (l : Bool) → LeftOk F s.words s.homes r.holder r.ending k l → LeftOk F s.words s.homes holder' r.ending k l
    left_same k false ok = waits_same k (4 * k + 2) (left_of k) ok
    left_same k true ok = (kind_same (r.holder (left_of k)) ∙ ok.0, ok.1)

    right_same : (k : ℕ) (b : RightSide) → RightOk F s.words s.homes r.holder r.ending k b → RightOk F s.words s.homes holder' r.ending k b
    right_same k unclaimed ok = (kind_same (r.holder (right_of k)) ∙ ok.0, ok.1, ok.2)
    right_same k claimed ok = (waits_same k (4 * k + 3) (right_of k) ok.0, λ z. ok.1 (λ q. z (kind_same (r.holder (right_of k)) ∙ q)))
    right_same k arrived ok = (kind_same (r.holder (right_of k)) ∙ ok.0, ok.1, ok.2)

    cell_same : (k : ℕ) (ph : Phase) → CellOk F s.words s.homes r.holder r.ending k ph → CellOk F s.words s.homes holder' r.ending k (be ph)
    cell_same k free ok = (ok.0, (kind_same (r.holder (left_of k)) ∙ ok.1.0, kind_same (r.holder (right_of k)) ∙ ok.1.1), ok.2)
    cell_same k (taken i out) ok = (ok.0, (kind_same (r.holder (left_of k)) ∙ ok.1.0, kind_same (r.holder (right_of k)) ∙ ok.1.1), ok.2)
    cell_same k (opened up l b) ok = (ok.0, ap hold ok.1, ok.2, left_same k l ok.3, right_same k b ok.4, ok.5, ok.6)
    cell_same k (met i out up) ok = (ok.0, ap hold ok.1, (kind_same (r.holder (left_of k)) ∙ ok.2.0, kind_same (r.holder (right_of k)) ∙ ok.2.1), ok.3)

    named_same : (n : ℕ) (ph : Phase) → id < n → NamesBelow n ph → NamesBelow n (be ph)
    named_same n free a b = tt
    named_same n (taken i out) a b = name_below n i a b
    named_same n (opened up l q) a b = tt
    named_same n (met i out up) a b = name_below n i a b

  pub joins : (v w : V) → v.parts ≢ 0 → Joins (Kept F born) id v other w (both_of v w) spent
  joins v w alive s r at apart' at' = let vs : List V = set s.views id (both_of v w) in let vs' : List V = set vs other spent in
      let n : length vs' ≡ length s.views = length-set vs other spent ∙ length-set s.views id (both_of v w) in let near : id < length s.views = at_below s.views id v at in
      let was : get_elem? s.views other ≡ some w = ⊎_elim (λ (y : (other ≡ id) × (both_of v w ≡ w)). absurd (apart' y.0)) (λ (y : (other ≢ id) × (get_elem? s.views other ≡ some w)). y.1) (at_set s.views id other (both_of v w) w at') in record {
        count = r.count;
        root = r.root;
        era = r.era;
        cells = λ k. be (r.cells k);
        holder = holder' s r;
        ending = r.ending;
        owed = r.owed;
        wide = r.wide;
        slots = r.slots;
        whole = let a = total_set (λ u. u.parts) s.views id v (both_of v w) at in let b = total_set (λ u. u.parts) vs other w spent at' in let c = r.whole in omega arith;
        era_ok = era_same r.era r.era_ok (let a = total_set (λ u. u.made) s.views id v (both_of v w) at in let b = total_set (λ u. u.made) vs other w spent at' in omega arith) n;
        root_is = r.root_is;
        each_cell = λ k below. cell_same s r k (r.cells k) (r.each_cell k below);
        each_seat = λ j u e. ⊎_elim
            (λ (y : (j ≡ other) × (spent ≡ u)). subst (λ (z : ℕ × V). SeatOk born s.words r.era r.root (λ k. be (r.cells k)) (holder' s r) r.ending z.0 z.1) (λ i. (sym y.0 i, y.1 i)) spent_seat)
            (λ (y : (j ≢ other) × (get_elem? vs j ≡ some u)). ⊎_elim
            (λ (z : (j ≡ id) × (both_of v w ≡ u)). subst (λ (x : ℕ × V). SeatOk born s.words r.era r.root (λ k. be (r.cells k)) (holder' s r) r.ending x.0 x.1) (λ i. (sym z.0 i, z.1 i)) (both_seat (r.each_seat id v at) (r.each_seat other w was)))
            (λ (z : (j ≢ id) × (get_elem? s.views j ≡ some u)). third_seat j u z.0 y.0 (r.each_seat j u z.1))
            (at_set s.views id j (both_of v w) u y.1))
            (at_set vs other j spent u e);
        keeps_end = λ c k e. let a = r.keeps_end c k (hold_kept (r.holder c) k e) in (a.0, keeps_same c (r.cells k) a.1);
        seated = λ c j m e. subst (λ (y : ℕ). j < y) (sym n) (hold_seat (r.holder c) j m (length s.views) near (λ i l is. r.seated c i l is) e);
        handed = λ k. subst (λ (y : ℕ). NamesBelow y (be (r.cells k))) (sym n) (named_same s r (length s.views) (r.cells k) near (r.handed k));
        within = λ c live. r.within c (λ z. live (kind_same (r.holder c) ∙ z));
      }
    where
      hold_kept : (h : Holder) (k : ℕ) → hold h ≡ kept k → h ≡ kept k
      hold_kept nobody k e = absurd (nobody_kept e)
        where
          nobody_kept : {k : ℕ} → nobody ≡ kept k → ⊥
          nobody_kept e = cc
      hold_kept (seat j m) k e = absurd (seat_kept e)
        where
          seat_kept : {j k : ℕ} {m : CallState} → seat j m ≡ kept k → ⊥
          seat_kept e = cc
      hold_kept (kept i) k e = e

      hold_seat : (h : Holder) (j : ℕ) (m : CallState) (n : ℕ) → id < n → ((i : ℕ) (l : CallState) → h ≡ seat i l → i < n) → hold h ≡ seat j m → j < n
      hold_seat nobody j m n near below e = absurd (nobody_seat e)
        where
          nobody_seat : {j : ℕ} {m : CallState} → nobody ≡ seat j m → ⊥
          nobody_seat e = cc
      hold_seat (seat i l) j m n near below e = subst (λ (y : ℕ). y < n) (seat_is e) (name_below n i near (below i l refl))
        where
          seat_is : {i j : ℕ} {l m : CallState} → seat i l ≡ seat j m → i ≡ j
          seat_is e = cc
      hold_seat (kept i) j m n near below e = absurd (kept_seat e)
        where
          kept_seat : {i j : ℕ} {m : CallState} → kept i ≡ seat j m → ⊥
          kept_seat e = cc

      era_same : (era : Era) → EraOk s.words s.views r.holder era → total (λ u. u.made) (set (set s.views id (both_of v w)) other spent) ≡ total (λ u. u.made) s.views
          → length (set (set s.views id (both_of v w)) other spent) ≡ length s.views → EraOk s.words (set (set s.views id (both_of v w)) other spent) (holder' s r) era
      era_same unborn ok sum n = (ok.0, sum ∙ ok.1, kind_same (r.holder 0) ∙ ok.2, n ∙ ok.3)
      era_same running ok sum n = (ok.0, sum ∙ ok.1, λ z. ok.2 (sym (kind_same (r.holder 0)) ∙ z))
      era_same finished ok sum n = (ok.0, sum ∙ ok.1, kind_same (r.holder 0) ∙ ok.2)

      spent_seat : SeatOk born s.words r.era r.root (λ k. be (r.cells k)) (holder' s r) r.ending other spent
      spent_seat = record {
        ends = λ c. sym (held_other (r.holder c) (r.ending c));
        hand = λ k. sym (hand_other (r.cells k));
        told = λ saw. absurd (cc);
        rooted = λ z. absurd (z refl);
        idle = λ _. refl;
      }

      both_seat : SeatOk born s.words r.era r.root r.cells r.holder r.ending id v → SeatOk born s.words r.era r.root r.cells r.holder r.ending other w
          → SeatOk born s.words r.era r.root (λ k. be (r.cells k)) (holder' s r) r.ending id (both_of v w)
      both_seat a b = record {
        ends = λ c. find_append v.ends w.ends c ∙ ((λ i. or_else (a.ends c i) (b.ends c i)) ∙ sym (held_id (r.holder c) (r.ending c)));
        hand = λ k. hand_append v.hand w.hand k ∙ ((λ i. or_else (a.hand k i) (b.hand k i)) ∙ sym (hand_id (r.cells k)));
        told = λ saw. ⊎_elim a.told b.told (saw_append v.reads w.reads saw);
        rooted = λ _. a.rooted alive;
        idle = λ z. absurd (alive (omega arith));
      }

      third_seat : (j : ℕ) (u : V) → j ≢ id → j ≢ other → SeatOk born s.words r.era r.root r.cells r.holder r.ending j u → SeatOk born s.words r.era r.root (λ k. be (r.cells k)) (holder' s r) r.ending j u
      third_seat j u x y ok = record {
        ends = λ c. ok.ends c ∙ sym (held_third j (r.holder c) (r.ending c) x y);
        hand = λ k. ok.hand k ∙ sym (hand_third j (r.cells k) x y);
        told = ok.told;
        rooted = ok.rooted;
        idle = ok.idle;
      }
