-- The claim of a child, and the step that gives its slot back, keep the rule.
use Rattle.tpal_machine.specs.declared.ends.End.{End}
use Rattle.tpal_machine.specs.declared.ends.End.TheVariants.{At}
use Rattle.tpal_machine.specs.declared.ends.SideName.TheVariants.{Right}
use Rattle.join_records.specs.declared.views.CallState.{CallState}
use Rattle.join_records.specs.declared.views.CallState.TheVariants.{Steady, Claiming}
use Rattle.join_records.specs.Ends.{code_of}
use Rattle.std.proofs.Common.{◌≡◌, ◌≢◌, ◌⊎◌, ℕ, ◌+◌, ◌*◌, ◌<◌, ◌%◌, eqb, List, [], ◌∷◌, length}
use Rattle.std.proofs.Common.{get_or, set, Bool, true, false, refl, sym, ap, ◌∙◌, subst, inl, inr}
use Rattle.std.proofs.Common.{arith, length-set, get_or-set_same, get_or-set_other}
use mathlib.Core.Option.{some, none}
use mathlib.Core.Option as maybe
use mathlib.Core.Logic.{dite}
use native.Mathlib.Decide.{ℕ_discrete}
use prog.Atomic.{either}
use lib.ListN.{get_elem?}
use Rattle.std.specs.Prelude.{Option, Some, None}
use Rattle.atomic_table.specs.Table.{State, Me, step, Act, keeps, takes, gives, Valid}
use Rattle.atomic_table.specs.Table.{carried_after, stepped, Allows}
use Rattle.atomic_table.proofs.Lists.{set_here, set_else, exchanged}
use Rattle.join_records.specs.declared.slot.Item.{Item}
use Rattle.join_records.specs.declared.slot.Item.TheVariants.{Child}
use Rattle.join_records.specs.declared.views.Holding.{Holding}
use Rattle.join_records.specs.declared.views.View.{View}
use Rattle.join_records.specs.Ends.{left_of, right_of}
use Rattle.join_records.specs.Rule.{Facts, Holder, seat, kept, unclaimed, claimed, arrived, Phase}
use Rattle.join_records.specs.Rule.{free, taken, opened, met, kind, hand_of, held_of, KeepsEnd}
use Rattle.join_records.specs.Rule.{CellOk, Kept, LeftOk}
use Rattle.join_records.specs.Views.{find, read, with_ends, holds_end}
use Rattle.join_records.specs.Steps.{record_claimed, child_given}
use Rattle.join_records.proofs.Functions.{put, put_here, put_else, pick_here, pick_else, hand_same}
use Rattle.join_records.proofs.Functions.{one_ending}
use Rattle.join_records.proofs.Frame.{Loose, dead_loose, told_more, loads_keep, moved}
use Rattle.join_records.proofs.Opening.{end_held, not_held}

module _ {R C D E : Type 0} (F : Facts R C D E) (born : C) where
  abbrev V : Type 0
  V = View C E

  abbrev S : Type 0
  S = Option (Item R C D)

  abbrev St : Type 0
  St = State S V

  abbrev M : Type 0
  M = Me S V

  -- a seat with no end has no met record
  pub endless : (s : St) (r : Kept F born s) (id : ℕ) (v : V) → get_elem? s.views id ≡ some v → v.ends ≡ [] → (i : ℕ) (out : Bool) (up : End) → i < r.count → r.cells i ≢ met id out up
  endless s r id v at ends i out up below is = let cell = subst (CellOk F s.words s.homes r.holder r.ending i) is (r.each_cell i below) in
      none_some (ap (λ (es : List (Holding E)). find es (code_of up)) (sym ends) ∙ ((r.each_seat id v at).ends (code_of up) ∙ (ap (λ (h : Holder). held_of id h (r.ending (code_of up))) cell.1 ∙ pick_here id (Some (r.ending (code_of up), Steady)))))
    where
      none_some : {A : Type 0} {x : A} → None ≡ Some x → ⊥
      none_some e = cc

  -- by its word a record is open and not claimed
  unclaimed_word : (words : List ℕ) (homes : List (maybe.Option S)) (holder : ℕ → Holder) (ending : ℕ → E) (k : ℕ) (ph : Phase) → CellOk F words homes holder ending k ph → get_or words (k + 1) 0 % 8 ≡ 3 → (up : End) × (l : Bool) × (ph ≡ opened up l unclaimed)
  unclaimed_word words homes holder ending k free ok z = let e = ok.0 in absurd (omega arith)
  unclaimed_word words homes holder ending k (taken i out) ok z = let e = ok.0 in absurd (omega arith)
  unclaimed_word words homes holder ending k (opened up l unclaimed) ok z = (up, l, refl)
  unclaimed_word words homes holder ending k (opened up l claimed) ok z = let e = ok.0 in absurd (omega arith)
  unclaimed_word words homes holder ending k (opened up l arrived) ok z = let e = ok.0 in absurd (omega arith)
  unclaimed_word words homes holder ending k (met i out up) ok z = let e = ok.0 in absurd (omega arith)

  module _ (s : St) (r : Kept F born s) (id k : ℕ) (up : End) (l : Bool) (v : V) (at : get_elem? s.views id ≡ some v) (alive : v.parts ≢ 0) (below : k < r.count) (ends : v.ends ≡ []) (is : r.cells k ≡ opened up l unclaimed) where
    abbrev x : ℕ
    x = get_or s.words (k + 1) 0

    cell : CellOk F s.words s.homes r.holder r.ending k (opened up l unclaimed)
    cell = subst (CellOk F s.words s.homes r.holder r.ending k) is (r.each_cell k below)

    abbrev e : E
    e = r.ending (right_of k)

    abbrev holder' : ℕ → Holder
    holder' = put r.holder (right_of k) (seat id Claiming)

    abbrev homes' : List (maybe.Option S)
    homes' = set s.homes (4 * k + 1) none

    abbrev w : V
    w = with_ends (read v (k + 1) x) (holds_end (At k Right) e Claiming)

    holds_right : holder' (right_of k) ≡ seat id Claiming
    holds_right = put_here r.holder (right_of k) (seat id Claiming)

    holds_else : (c : ℕ) → c ≢ right_of k → holder' c ≡ r.holder c
    holds_else c n = put_else r.holder (right_of k) (seat id Claiming) c n

    changes : (c : ℕ) → ((holder' c ≡ r.holder c) × (r.ending c ≡ r.ending c)) ⊎ (Loose F born r.cells r.count id k (r.holder c) × Loose F born r.cells r.count id k (holder' c))
    changes c = let L = Loose F born r.cells r.count id k in dite (ℕ_discrete c (right_of k))
        (λ z. inr (subst (λ (y : ℕ). L (r.holder y)) (sym z) (dead_loose F born r.cells r.count id k (r.holder (right_of k)) cell.4.0), subst (λ (y : ℕ). L (holder' y)) (sym z) (subst L (sym holds_right) (refl, endless s r id v at ends))))
        (λ n. inl (holds_else c n, refl))

    new_ends : (c : ℕ) → find (holds_end (At k Right) e Claiming) c ≡ held_of id (holder' c) (r.ending c)
    new_ends c = dite (ℕ_discrete c (right_of k))
        (λ z. subst (λ (y : ℕ). find (holds_end (At k Right) e Claiming) y ≡ held_of id (holder' y) (r.ending y)) (sym z)
        (pick_here (right_of k) (Some (e, Claiming)) ∙ (sym (pick_here id (Some (e, Claiming))) ∙ ap (λ (h : Holder). held_of id h e) (sym holds_right))))
        (λ n. pick_else (right_of k) c (Some (e, Claiming)) (λ z. n (sym z)) ∙ (ap (λ (es : List (Holding E)). find es c) (sym ends) ∙ ((r.each_seat id v at).ends c ∙ ap (λ (h : Holder). held_of id h (r.ending c)) (sym (holds_else c n)))))

    -- the left side, whose arrival does not change
    left_same : (b : Bool) → LeftOk F s.words s.homes r.holder r.ending k b → LeftOk F (set s.words (k + 1) (x + 4)) homes' holder' r.ending k b
    left_same false ok = let h = holds_else (left_of k) (λ z. omega arith) in
        ((λ z. ok.0 (ap kind (sym h) ∙ z)), λ z. set_else s.homes (4 * k + 1) (4 * k + 2) none (λ q. omega arith) ∙ ok.1 (λ q. z (ap kind h ∙ q)))
    left_same true ok = (ap kind (holds_else (left_of k) (λ z. omega arith)) ∙ ok.0, (ok.1.0, set_else s.homes (4 * k + 1) (4 * k + 2) none (λ q. omega arith) ∙ ok.1.1, ok.1.2))

    up_same : holder' (code_of up) ≡ kept k
    up_same = holds_else (code_of up) (λ z. let t : kind (r.holder (right_of k)) ≡ 1 = ap (λ (y : ℕ). kind (r.holder y)) (sym z) ∙ ap kind cell.1 in let d = cell.4.0 in omega arith) ∙ cell.1

    claim_keeps : Kept F born record { words = set s.words (k + 1) (x + 4); homes = homes'; views = set s.views id w }
    claim_keeps = let ok = r.each_seat id v at in let wide : length s.words ≡ r.count + 1 = r.wide in let shows = cell.0 in
        moved F born s r id k (x + 4) v w (opened up l claimed) homes' holder' r.ending at below (length-set s.homes (4 * k + 1) none) (λ y _ q _ _. set_else s.homes (4 * k + 1) y none q) refl refl changes
        (λ c _ q. (ap kind (holds_else c q), refl)) (λ j apart. ap (hand_of j) is) tt
        (λ c z. dite (ℕ_discrete c (right_of k)) (λ q. absurd (seat_kept (sym holds_right ∙ (ap holder' (sym q) ∙ z)))) (λ q. subst (KeepsEnd c) is (r.keeps_end c k (sym (holds_else c q) ∙ z)).1)) (
          get_or-set_same s.words (k + 1) (x + 4) 0 (omega arith) ∙ (omega arith),
          up_same,
          (cell.2.0, set_else s.homes (4 * k + 1) (4 * k) none (λ q. omega arith) ∙ cell.2.1, cell.2.2, cell.2.3),
          left_same l cell.3,
          (
            (
              (λ z. let t = ap kind holds_right in absurd (omega arith)),
              λ _. set_else s.homes (4 * k + 1) (4 * k + 3) none (λ q. omega arith) ∙ cell.4.2,
            ),
            λ z. absurd (z (ap kind holds_right)),
          ),
          cell.5,
          tt,
        )
        record {
          ends = new_ends;
          hand = hand_same r.cells id k v.hand ok.hand (opened up l claimed) (ap (hand_of id) is);
          told = λ saw. get_or-set_other s.words (k + 1) 0 (x + 4) 0 (λ z. omega arith) ∙ told_more F born s.words v.reads (k + 1) ok.told saw;
          rooted = ok.rooted;
          idle = λ z. absurd (alive z);
        }
      where
        seat_kept : {j i : ℕ} {m : CallState} → seat j m ≡ kept i → ⊥
        seat_kept z = cc

  pub claims : (n id : ℕ) (me : M) (k f : ℕ) → me.0.parts ≢ 0 → 4 * k < n → f % 8 ≡ 3 → me.0.ends ≡ [] → Allows (Kept F born) n id me (k + 1) (λ y. either (eqb y f) (f + 4) y) (record_claimed F.has_end F.owes (step n (k + 1) f (f + 4) none) me)
  claims n id me k f alive near was ends s r wide at _ =
      let below : k < r.count = (let sl = r.slots in omega arith) in let v : V = me.0 in let y : ℕ = get_or s.words (k + 1) 0 in let told = record_claimed F.has_end F.owes (step n (k + 1) f (f + 4) none) me in exchanged y f (f + 4)
      (λ z. (u : V) × (act : Act S) × Valid s.homes me.1 act × Kept F born (stepped s (k + 1) z id me.1 u act) × told y (u, carried_after me.1 act))
      (λ hit. let phase = unclaimed_word s.words s.homes r.holder r.ending k (r.cells k) (r.each_cell k below) (ap (λ (z : ℕ). z % 8) hit ∙ was) in let up : End = phase.0 in let l : Bool = phase.1 in
      let c = cell s r id k up l v at alive below ends phase.2 in let child : C = c.4.1.0 in (
        w s r id k up l v at alive below ends phase.2,
        takes (4 * k + 1) (Some (Child child)),
        c.4.1.1,
        subst (λ (z : ℕ). Kept F born record { words = set s.words (k + 1) (z + 4); homes = set s.homes (4 * k + 1) none; views = set s.views id (w s r id k up l v at alive below ends phase.2) }) hit (claim_keeps s r id k up l v at alive below ends phase.2),
        (
          (λ miss. absurd (miss hit)),
          λ i same _. let is : k ≡ i = omega arith in (
            child,
            r.ending (right_of k),
            subst (λ (z : ℕ). F.has_end child (At z Right)) is c.4.1.2,
            c.4.1.3,
            ap (λ (z : ℕ). with_ends (read v (z + 1) y) (holds_end (At z Right) (r.ending (right_of k)) Claiming)) is,
            ap (λ (z : ℕ). (4 * z + 1, Some (Child child)) ∷ me.1) is,
          ),
        ),
      ))
      (λ miss. (read v (k + 1) y, keeps, tt, loads_keep F born s r id (k + 1) v at alive, ((λ _. (refl, refl)), λ _ _ hit. absurd (miss hit))))

  -- where a seat is in the middle of the claim of a record, the record is claimed
  claimed_live : (words : List ℕ) (homes : List (maybe.Option S)) (holder : ℕ → Holder) (ending : ℕ → E) (k : ℕ) (ph : Phase) → CellOk F words homes holder ending k ph → kind (holder (right_of k)) ≢ 0 → (up : End) × (l : Bool) × (ph ≡ opened up l claimed)
  claimed_live words homes holder ending k free ok live = absurd (live ok.1.1)
  claimed_live words homes holder ending k (taken i out) ok live = absurd (live ok.1.1)
  claimed_live words homes holder ending k (opened up l unclaimed) ok live = absurd (live ok.4.0)
  claimed_live words homes holder ending k (opened up l claimed) ok live = (up, l, refl)
  claimed_live words homes holder ending k (opened up l arrived) ok live = absurd (live ok.4.0)
  claimed_live words homes holder ending k (met i out up) ok live = absurd (live ok.2.1)

  module _ (s : St) (r : Kept F born s) (id k : ℕ) (v : V) (e : E) (at : get_elem? s.views id ≡ some v) (alive : v.parts ≢ 0) (below : k < r.count) (ends : v.ends ≡ holds_end (At k Right) e Claiming) where
    abbrev given_x : ℕ
    given_x = get_or s.words (k + 1) 0

    given_held : (r.holder (right_of k) ≡ seat id Claiming) × (r.ending (right_of k) ≡ e)
    given_held = end_held F born s r id v at (At k Right) Claiming e ends

    given_phase : (up : End) × (l : Bool) × (r.cells k ≡ opened up l claimed)
    given_phase = claimed_live s.words s.homes r.holder r.ending k (r.cells k) (r.each_cell k below) (λ z. let t = ap kind given_held.0 in omega arith)

    given_cell : CellOk F s.words s.homes r.holder r.ending k (opened given_phase.0 given_phase.1 claimed)
    given_cell = subst (CellOk F s.words s.homes r.holder r.ending k) given_phase.2 (r.each_cell k below)

    abbrev given_holder : ℕ → Holder
    given_holder = put r.holder (right_of k) (seat id Steady)

    abbrev given_homes : List (maybe.Option S)
    given_homes = set s.homes (4 * k + 1) (some None)

    abbrev given_w : V
    given_w = with_ends (read v (k + 1) given_x) (holds_end (At k Right) e Steady)

    given_right : given_holder (right_of k) ≡ seat id Steady
    given_right = put_here r.holder (right_of k) (seat id Steady)

    given_else : (c : ℕ) → c ≢ right_of k → given_holder c ≡ r.holder c
    given_else c n = put_else r.holder (right_of k) (seat id Steady) c n

    -- the seat has no met record, since what it has is no end of a rest
    given_no_met : (i : ℕ) (out : Bool) (up : End) → i < r.count → r.cells i ≢ met id out up
    given_no_met i out up inside is = let c = subst (CellOk F s.words s.homes r.holder r.ending i) is (r.each_cell i inside) in dite (ℕ_discrete (code_of up) (right_of k))
        (λ z. let t : kind (seat id Claiming) ≡ 1 = ap kind (sym given_held.0) ∙ (ap (λ (y : ℕ). kind (r.holder y)) (sym z) ∙ ap kind c.1) in omega arith)
        (λ n. none_some (sym (not_held F born s r id v at (At k Right) Claiming e ends (code_of up) n) ∙ (ap (λ (h : Holder). held_of id h (r.ending (code_of up))) c.1 ∙ pick_here id (Some (r.ending (code_of up), Steady)))))
      where
        none_some : {A : Type 0} {x : A} → None ≡ Some x → ⊥
        none_some z = cc

    given_keeps : Kept F born record { words = set s.words (k + 1) given_x; homes = given_homes; views = set s.views id given_w }
    given_keeps = let ok = r.each_seat id v at in let wide : length s.words ≡ r.count + 1 = r.wide in let slots : length s.homes ≡ 4 * r.count = r.slots in let up : End = given_phase.0 in let l : Bool = given_phase.1 in
        let L = Loose F born r.cells r.count id k in
        moved F born s r id k given_x v given_w (opened up l claimed) given_homes given_holder r.ending at below (length-set s.homes (4 * k + 1) (some None)) (λ y _ q _ _. set_else s.homes (4 * k + 1) y (some None) q) refl refl
        (λ c. dite (ℕ_discrete c (right_of k))
        (λ z. inr (subst (λ (y : ℕ). L (r.holder y)) (sym z) (subst L (sym given_held.0) (refl, given_no_met)), subst (λ (y : ℕ). L (given_holder y)) (sym z) (subst L (sym given_right) (refl, given_no_met))))
        (λ n. inl (given_else c n, refl)))
        (λ c _ q. (ap kind (given_else c q), refl)) (λ j apart. ap (hand_of j) given_phase.2) tt
        (λ c z. dite (ℕ_discrete c (right_of k)) (λ q. absurd (seat_kept (sym given_right ∙ (ap given_holder (sym q) ∙ z)))) (λ q. subst (KeepsEnd c) given_phase.2 (r.keeps_end c k (sym (given_else c q) ∙ z)).1)) (
          get_or-set_same s.words (k + 1) given_x 0 (omega arith) ∙ given_cell.0,
          given_else (code_of up) (λ z. kept_seat (sym given_cell.1 ∙ (ap r.holder z ∙ given_held.0))) ∙ given_cell.1,
          (given_cell.2.0, set_else s.homes (4 * k + 1) (4 * k) (some None) (λ q. omega arith) ∙ given_cell.2.1, given_cell.2.2, given_cell.2.3),
          given_left l given_cell.3,
          (
            (
              (λ z. let t = ap kind given_right in absurd (omega arith)),
              λ _. set_else s.homes (4 * k + 1) (4 * k + 3) (some None) (λ q. omega arith) ∙ given_cell.4.0.1 (λ z. let t = ap kind given_held.0 in omega arith),
            ),
            λ _. set_here s.homes (4 * k + 1) (some None) (omega arith),
          ),
          given_cell.5,
          tt,
        )
        record {
          ends = λ c. dite (ℕ_discrete c (right_of k))
              (λ z. subst (λ (y : ℕ). find (holds_end (At k Right) e Steady) y ≡ held_of id (given_holder y) (r.ending y)) (sym z)
              (pick_here (right_of k) (Some (e, Steady)) ∙ (ap (λ (y : E). Some (y, Steady)) (sym given_held.1) ∙ (sym (pick_here id (Some (r.ending (right_of k), Steady))) ∙ ap (λ (h : Holder). held_of id h (r.ending (right_of k))) (sym given_right)))))
              (λ n. pick_else (right_of k) c (Some (e, Steady)) (λ z. n (sym z)) ∙ (sym (not_held F born s r id v at (At k Right) Claiming e ends c n) ∙ ap (λ (h : Holder). held_of id h (r.ending c)) (sym (given_else c n))));
          hand = hand_same r.cells id k v.hand ok.hand (opened up l claimed) (ap (hand_of id) given_phase.2);
          told = λ saw. get_or-set_other s.words (k + 1) 0 given_x 0 (λ z. omega arith) ∙ told_more F born s.words v.reads (k + 1) ok.told saw;
          rooted = ok.rooted;
          idle = λ z. absurd (alive z);
        }
      where
        seat_kept : {j i : ℕ} {m : CallState} → seat j m ≡ kept i → ⊥
        seat_kept z = cc

        kept_seat : {j i : ℕ} {m : CallState} → kept i ≡ seat j m → ⊥
        kept_seat z = cc

        given_left : (b : Bool) → LeftOk F s.words s.homes r.holder r.ending k b → LeftOk F (set s.words (k + 1) given_x) given_homes given_holder r.ending k b
        given_left false ok = let h = given_else (left_of k) (λ z. omega arith) in
            ((λ z. ok.0 (ap kind (sym h) ∙ z)), λ z. set_else s.homes (4 * k + 1) (4 * k + 2) (some None) (λ q. omega arith) ∙ ok.1 (λ q. z (ap kind h ∙ q)))
        given_left true ok = (ap kind (given_else (left_of k) (λ z. omega arith)) ∙ ok.0, (ok.1.0, set_else s.homes (4 * k + 1) (4 * k + 2) (some None) (λ q. omega arith) ∙ ok.1.1, ok.1.2))

  pub gives_child : (n id : ℕ) (me : M) (k : ℕ) (e : E) (c : List (ℕ × S)) → me.0.parts ≢ 0 → 4 * k < n → me.0.ends ≡ holds_end (At k Right) e Claiming → me.1 ≡ (4 * k + 1, None) ∷ c → Allows (Kept F born) n id me (k + 1) (λ y. y) (child_given (step n (k + 1) 0 0 none) me)
  gives_child n id me k e c alive near ends carried s r wide at _ = let below : k < r.count = (let sl = r.slots in omega arith) in let x : ℕ = get_or s.words (k + 1) 0 in (
    given_w s r id k me.0 e at alive below ends,
    gives,
    tt,
    subst (λ (y : List (ℕ × S)). Kept F born (stepped s (k + 1) x id y (given_w s r id k me.0 e at alive below ends) gives)) (sym carried) (given_keeps s r id k me.0 e at alive below ends),
    (refl, λ i d same ends'. let is : k ≡ i = omega arith in (λ t. with_ends (read me.0 (is t + 1) x) (holds_end (At (is t) Right) (one_ending (sym ends ∙ ends') t) Steady))),
  )
