-- A step of a seat with one end, at that end alone.
use Rattle.tpal_machine.specs.declared.ends.End.{End}
use Rattle.tpal_machine.specs.declared.ends.End.TheVariants.{At}
use Rattle.tpal_machine.specs.declared.ends.SideName.TheVariants.{Left, Right}
use Rattle.join_records.specs.declared.views.Grip.TheVariants.{Emptying}
use Rattle.join_records.specs.declared.views.CallState.{CallState}
use Rattle.join_records.specs.declared.views.CallState.TheVariants.{Steady}
use Rattle.join_records.specs.Ends.{code_of}
use Rattle.std.proofs.Common.{◌≡◌, ◌≢◌, ◌⊎◌, ℕ, ◌+◌, ◌*◌, ◌<◌, List, [], ◌∷◌, length, get_or, set}
use Rattle.std.proofs.Common.{Bool, true, false, refl, sym, ap, ◌∙◌, subst, inl, inr, ⊎_elim, arith}
use Rattle.std.proofs.Common.{get_or-set_same, get_or-set_other}
use mathlib.Core.Option.{some, none}
use mathlib.Core.Option as maybe
use mathlib.Core.Logic.{dite}
use native.Mathlib.Decide.{ℕ_discrete}
use lib.ListN.{get_elem?}
use Rattle.std.specs.Prelude.{Option, Some, None}
use Rattle.atomic_table.specs.Table.{State}
use Rattle.join_records.specs.declared.slot.Item.{Item}
use Rattle.join_records.specs.declared.views.View.{View}
use Rattle.join_records.specs.Ends.{left_of, right_of}
use Rattle.join_records.specs.Rule.{Facts, Holder, nobody, seat, kept, RightSide, unclaimed, claimed}
use Rattle.join_records.specs.Rule.{arrived, Phase, free, taken, opened, met, kind, hand_of}
use Rattle.join_records.specs.Rule.{held_of, KeepsEnd, CellOk, Kept, RightOk, LeftOk}
use Rattle.join_records.specs.Views.{find, read, with_hand, with_ends, holds_end, drop_record}
use Rattle.join_records.proofs.Functions.{put, put_here, put_else, at_below, pick_here, pick_else}
use Rattle.join_records.proofs.Functions.{dead_none, hand_put}
use Rattle.join_records.proofs.Frame.{Loose, told_more, moved}
use Rattle.join_records.proofs.Opening.{end_held, not_held}

module _ {R C D E : Type 0} (F : Facts R C D E) (born : C) where
  abbrev V : Type 0
  V = View C E

  abbrev S : Type 0
  S = Option (Item R C D)

  abbrev St : Type 0
  St = State S V

  abbrev Homes : Type 0
  Homes = List (maybe.Option S)

  -- where the homes and holders of a side do not change, it stays
  pub left_kept : (words words' : List ℕ) (homes homes' : Homes) (holder holder' : ℕ → Holder) (ending ending' : ℕ → E) (k : ℕ) → get_elem? homes' (4 * k + 2) ≡ get_elem? homes (4 * k + 2) → holder' (left_of k) ≡ holder (left_of k) → ending' (left_of k) ≡ ending (left_of k)
      → (l : Bool) → LeftOk F words homes holder ending k l → LeftOk F words' homes' holder' ending' k l
  left_kept words words' homes homes' holder holder' ending ending' k home held owed false ok = ((λ z. ok.0 (ap kind (sym held) ∙ z)), λ z. home ∙ ok.1 (λ q. z (ap kind held ∙ q)))
  left_kept words words' homes homes' holder holder' ending ending' k home held owed true ok = (ap kind held ∙ ok.0, (ok.1.0, home ∙ ok.1.1, subst (F.is_ending ok.1.0 (At k Left)) (sym owed) ok.1.2))

  pub right_kept : (words words' : List ℕ) (homes homes' : Homes) (holder holder' : ℕ → Holder) (ending ending' : ℕ → E) (k : ℕ) → get_elem? homes' (4 * k + 1) ≡ get_elem? homes (4 * k + 1) → get_elem? homes' (4 * k + 3) ≡ get_elem? homes (4 * k + 3)
      → holder' (right_of k) ≡ holder (right_of k) → ending' (right_of k) ≡ ending (right_of k) → (b : RightSide) → RightOk F words homes holder ending k b → RightOk F words' homes' holder' ending' k b
  right_kept words words' homes homes' holder holder' ending ending' k one three held owed unclaimed ok = (ap kind held ∙ ok.0, (ok.1.0, one ∙ ok.1.1, ok.1.2, subst (F.owes ok.1.0) (sym owed) ok.1.3), three ∙ ok.2)
  right_kept words words' homes homes' holder holder' ending ending' k one three held owed claimed ok =
      (((λ z. ok.0.0 (ap kind (sym held) ∙ z)), λ z. three ∙ ok.0.1 (λ q. z (ap kind held ∙ q))), λ z. one ∙ ok.1 (λ q. z (ap kind held ∙ q)))
  right_kept words words' homes homes' holder holder' ending ending' k one three held owed arrived ok = (ap kind held ∙ ok.0, one ∙ ok.1, (ok.2.0, three ∙ ok.2.1, subst (F.is_ending ok.2.0 (At k Right)) (sym owed) ok.2.2))

  -- a record with a live end is open, and that side has not arrived
  pub left_live : (words : List ℕ) (homes : Homes) (holder : ℕ → Holder) (ending : ℕ → E) (k : ℕ) (ph : Phase) → CellOk F words homes holder ending k ph → kind (holder (left_of k)) ≢ 0 → (up : End) × (b : RightSide) × (ph ≡ opened up false b)
  left_live words homes holder ending k free ok live = absurd (live ok.1.0)
  left_live words homes holder ending k (taken i out) ok live = absurd (live ok.1.0)
  left_live words homes holder ending k (opened up false b) ok live = (up, b, refl)
  left_live words homes holder ending k (opened up true b) ok live = absurd (live ok.3.0)
  left_live words homes holder ending k (met i out up) ok live = absurd (live ok.2.0)

  pub right_live : (words : List ℕ) (homes : Homes) (holder : ℕ → Holder) (ending : ℕ → E) (k : ℕ) (ph : Phase) → CellOk F words homes holder ending k ph → kind (holder (right_of k)) ≢ 0 → (up : End) × (l : Bool) × (ph ≡ opened up l claimed)
  right_live words homes holder ending k free ok live = absurd (live ok.1.1)
  right_live words homes holder ending k (taken i out) ok live = absurd (live ok.1.1)
  right_live words homes holder ending k (opened up l unclaimed) ok live = absurd (live ok.4.0)
  right_live words homes holder ending k (opened up l claimed) ok live = (up, l, refl)
  right_live words homes holder ending k (opened up l arrived) ok live = absurd (live ok.4.0)
  right_live words homes holder ending k (met i out up) ok live = absurd (live ok.2.1)

  -- the end c, of record k, goes from its seat to the holder h
  module _ (s : St) (r : Kept F born s) (id k : ℕ) (v : V) (e : E) (c : End) (m : CallState) (at : get_elem? s.views id ≡ some v) (ends : v.ends ≡ holds_end c e m) (side : (code_of c ≡ left_of k) ⊎ (code_of c ≡ right_of k))
      (none_met : (i : ℕ) (out : Bool) (up : End) → i < r.count → r.cells i ≢ met id out up) (h : Holder) (loose : Loose F born r.cells r.count id k h) (unkept : (i : ℕ) → h ≢ kept i) where
    pub was : (r.holder (code_of c) ≡ seat id m) × (r.ending (code_of c) ≡ e)
    was = end_held F born s r id v at c m e ends

    pub turn_here : put r.holder (code_of c) h (code_of c) ≡ h
    turn_here = put_here r.holder (code_of c) h

    pub turn_else : (y : ℕ) → y ≢ code_of c → put r.holder (code_of c) h y ≡ r.holder y
    turn_else y n = put_else r.holder (code_of c) h y n

    pub turn_changes : (y : ℕ) → ((put r.holder (code_of c) h y ≡ r.holder y) × (r.ending y ≡ r.ending y)) ⊎ (Loose F born r.cells r.count id k (r.holder y) × Loose F born r.cells r.count id k (put r.holder (code_of c) h y))
    turn_changes y = let L = Loose F born r.cells r.count id k in dite (ℕ_discrete y (code_of c))
        (λ z. inr (subst (λ (q : ℕ). L (r.holder q)) (sym z) (subst L (sym was.0) (refl, none_met)), subst (λ (q : ℕ). L (put r.holder (code_of c) h q)) (sym z) (subst L (sym turn_here) loose)))
        (λ n. inl (turn_else y n, refl))

    pub turn_softly : (y : ℕ) → y ≢ left_of k → y ≢ right_of k → (kind (put r.holder (code_of c) h y) ≡ kind (r.holder y)) × (r.ending y ≡ r.ending y)
    turn_softly y l q = (ap kind (turn_else y (λ z. ⊎_elim (λ w. l (z ∙ w)) (λ w. q (z ∙ w)) side)), refl)

    pub turn_kept : (y i : ℕ) → put r.holder (code_of c) h y ≡ kept i → r.holder y ≡ kept i
    turn_kept y i z = dite (ℕ_discrete y (code_of c)) (λ w. absurd (unkept i (sym turn_here ∙ (ap (put r.holder (code_of c) h) (sym w) ∙ z)))) (λ n. sym (turn_else y n) ∙ z)

    -- what a rest keeps is not the seat's end
    pub turn_up : (up i : ℕ) → r.holder up ≡ kept i → (up ≢ code_of c) × (put r.holder (code_of c) h up ≡ kept i)
    turn_up up i z = let n = (λ (w : up ≡ code_of c). kept_seat (sym z ∙ (ap r.holder w ∙ was.0))) in (n, turn_else up n ∙ z)
      where
        kept_seat : {i j : ℕ} {l : CallState} → kept i ≡ seat j l → ⊥
        kept_seat q = cc

    -- the seat's ends, where it keeps the end
    pub turn_held : (l : CallState) → h ≡ seat id l → (y : ℕ) → find (holds_end c e l) y ≡ held_of id (put r.holder (code_of c) h y) (r.ending y)
    turn_held l is y = dite (ℕ_discrete y (code_of c))
        (λ z. subst (λ (q : ℕ). find (holds_end c e l) q ≡ held_of id (put r.holder (code_of c) h q) (r.ending q)) (sym z)
        (pick_here (code_of c) (Some (e, l)) ∙ (ap (λ (q : E). Some (q, l)) (sym was.1) ∙ (sym (pick_here id (Some (r.ending (code_of c), l))) ∙ ap (λ (q : Holder). held_of id q (r.ending (code_of c))) (sym (turn_here ∙ is))))))
        (λ n. pick_else (code_of c) y (Some (e, l)) (λ z. n (sym z)) ∙ (sym (not_held F born s r id v at c m e ends y n) ∙ ap (λ (q : Holder). held_of id q (r.ending y)) (sym (turn_else y n))))

    -- and where it gives it up
    pub turn_gone : kind h ≡ 0 → (y : ℕ) → find [] y ≡ held_of id (put r.holder (code_of c) h y) (r.ending y)
    turn_gone dead y = dite (ℕ_discrete y (code_of c))
        (λ z. sym (dead_none id (put r.holder (code_of c) h y) (r.ending y) (ap (λ (q : ℕ). kind (put r.holder (code_of c) h q)) z ∙ (ap kind turn_here ∙ dead))))
        (λ n. sym (not_held F born s r id v at c m e ends y n) ∙ ap (λ (q : Holder). held_of id q (r.ending y)) (sym (turn_else y n)))

  -- the second side of record k arrives: the seat gives up its end, and has the one that the rest keeps
  module _ (s : St) (r : Kept F born s) (id k : ℕ) (up : End) (l : Bool) (b : RightSide) (v : V) (e : E) (c : End) (m : CallState) (new : ℕ) (homes' : Homes) (at : get_elem? s.views id ≡ some v) (alive : v.parts ≢ 0) (below : k < r.count) (ends : v.ends ≡ holds_end c e m)
      (side : (code_of c ≡ left_of k) ⊎ (code_of c ≡ right_of k)) (none_met : (i : ℕ) (out : Bool) (up : End) → i < r.count → r.cells i ≢ met id out up) (is : r.cells k ≡ opened up l b) (dead : (y : ℕ) → (y ≡ left_of k) ⊎ (y ≡ right_of k) → y ≢ code_of c → kind (r.holder y) ≡ 0)
      (long : length homes' ≡ length s.homes) (away : (y : ℕ) → y ≢ 4 * k → y ≢ 4 * k + 1 → y ≢ 4 * k + 2 → y ≢ 4 * k + 3 → get_elem? homes' y ≡ get_elem? s.homes y) (bare : get_elem? homes' (4 * k + 1) ≡ some (some None)) (full : new ≡ 31 + 256 * code_of up) where
    met_cell : CellOk F s.words s.homes r.holder r.ending k (opened up l b)
    met_cell = subst (CellOk F s.words s.homes r.holder r.ending k) is (r.each_cell k below)

    abbrev met_x : ℕ
    met_x = get_or s.words (k + 1) 0

    met_was : (r.holder (code_of c) ≡ seat id m) × (r.ending (code_of c) ≡ e)
    met_was = end_held F born s r id v at c m e ends

    kept_not : code_of up ≢ code_of c
    kept_not w = kept_seat (sym met_cell.1 ∙ (ap r.holder w ∙ met_was.0))
      where
        kept_seat : {i j : ℕ} {n : CallState} → kept i ≡ seat j n → ⊥
        kept_seat q = cc

    abbrev met_holder : ℕ → Holder
    met_holder = put (put r.holder (code_of c) nobody) (code_of up) (seat id Steady)

    abbrev pub met_view : V
    met_view = with_hand (with_ends (read v (k + 1) met_x) (holds_end up (r.ending (code_of up)) Steady)) ((k, Emptying up) ∷ drop_record k v.hand)

    met_up : met_holder (code_of up) ≡ seat id Steady
    met_up = put_here (put r.holder (code_of c) nobody) (code_of up) (seat id Steady)

    met_gone : met_holder (code_of c) ≡ nobody
    met_gone = put_else (put r.holder (code_of c) nobody) (code_of up) (seat id Steady) (code_of c) (λ z. kept_not (sym z)) ∙ put_here r.holder (code_of c) nobody

    met_else : (y : ℕ) → y ≢ code_of up → y ≢ code_of c → met_holder y ≡ r.holder y
    met_else y a q = put_else (put r.holder (code_of c) nobody) (code_of up) (seat id Steady) y a ∙ put_else r.holder (code_of c) nobody y q

    met_changes : (y : ℕ) → ((met_holder y ≡ r.holder y) × (r.ending y ≡ r.ending y)) ⊎ (Loose F born r.cells r.count id k (r.holder y) × Loose F born r.cells r.count id k (met_holder y))
    met_changes y = let L = Loose F born r.cells r.count id k in dite (ℕ_discrete y (code_of up))
        (λ z. inr (subst (λ (q : ℕ). L (r.holder q)) (sym z) (subst L (sym met_cell.1) refl), subst (λ (q : ℕ). L (met_holder q)) (sym z) (subst L (sym met_up) (refl, none_met))))
        (λ a. dite (ℕ_discrete y (code_of c))
        (λ z. inr (subst (λ (q : ℕ). L (r.holder q)) (sym z) (subst L (sym met_was.0) (refl, none_met)), subst (λ (q : ℕ). L (met_holder q)) (sym z) (subst L (sym met_gone) tt)))
        (λ n. inl (met_else y a n, refl)))

    met_softly : (y : ℕ) → y ≢ left_of k → y ≢ right_of k → (kind (met_holder y) ≡ kind (r.holder y)) × (r.ending y ≡ r.ending y)
    met_softly y p q = (dite (ℕ_discrete y (code_of up)) (λ z. ap (λ (n : ℕ). kind (met_holder n)) z ∙ (ap kind met_up ∙ sym (ap (λ (n : ℕ). kind (r.holder n)) z ∙ ap kind met_cell.1))) (λ a. ap kind (met_else y a (λ z. ⊎_elim (λ w. p (z ∙ w)) (λ w. q (z ∙ w)) side))), refl)

    up_no_side : (y : ℕ) → (y ≡ left_of k) ⊎ (y ≡ right_of k) → y ≢ code_of up
    up_no_side y which z = dite (ℕ_discrete y (code_of c)) (λ w. kept_not (sym z ∙ w)) (λ n. let d = dead y which n in let t : kind (r.holder y) ≡ 1 = ap (λ (q : ℕ). kind (r.holder q)) z ∙ ap kind met_cell.1 in omega arith)

    both_dead : (y : ℕ) → (y ≡ left_of k) ⊎ (y ≡ right_of k) → kind (met_holder y) ≡ 0
    both_dead y which = dite (ℕ_discrete y (code_of c)) (λ z. ap (λ (q : ℕ). kind (met_holder q)) z ∙ ap kind met_gone) (λ n. ap kind (met_else y (up_no_side y which) n) ∙ dead y which n)

    pub meets : Kept F born record { words = set s.words (k + 1) new; homes = homes'; views = set s.views id met_view }
    meets = let ok = r.each_seat id v at in let wide : length s.words ≡ r.count + 1 = r.wide in
        moved F born s r id k new v met_view (met id true up) homes' met_holder r.ending at below long away refl refl met_changes met_softly
        (λ j apart. ap (hand_of j) is ∙ sym (pick_else id j (Some (Emptying up)) (λ z. apart (sym z)))) (at_below s.views id v at)
        (λ y z. dite (ℕ_discrete y (code_of up)) (λ w. absurd (seat_kept (sym met_up ∙ (ap met_holder (sym w) ∙ z))))
        (λ a. dite (ℕ_discrete y (code_of c)) (λ w. absurd (nobody_kept (sym met_gone ∙ (ap met_holder (sym w) ∙ z)))) (λ n. a (sym (subst (KeepsEnd y) is (r.keeps_end y k (sym (met_else y a n) ∙ z)).1)))))
        (get_or-set_same s.words (k + 1) new 0 (omega arith) ∙ full, met_up, (both_dead (left_of k) (inl refl), both_dead (right_of k) (inr refl)), ((λ z. absurd (cc)), bare))
        record {
          ends = λ y. dite (ℕ_discrete y (code_of up))
              (λ z. subst (λ (q : ℕ). find (holds_end up (r.ending (code_of up)) Steady) q ≡ held_of id (met_holder q) (r.ending q)) (sym z)
              (pick_here (code_of up) (Some (r.ending (code_of up), Steady)) ∙ (sym (pick_here id (Some (r.ending (code_of up), Steady))) ∙ ap (λ (q : Holder). held_of id q (r.ending (code_of up))) (sym met_up))))
              (λ a. pick_else (code_of up) y (Some (r.ending (code_of up), Steady)) (λ z. a (sym z)) ∙ sym (dite (ℕ_discrete y (code_of c))
              (λ z. dead_none id (met_holder y) (r.ending y) (ap (λ (q : ℕ). kind (met_holder q)) z ∙ ap kind met_gone))
              (λ n. ap (λ (q : Holder). held_of id q (r.ending y)) (met_else y a n) ∙ not_held F born s r id v at c m e ends y n)));
          hand = hand_put r.cells id k v.hand ok.hand (met id true up) (Emptying up) (pick_here id (Some (Emptying up)));
          told = λ saw. get_or-set_other s.words (k + 1) 0 new 0 (λ z. omega arith) ∙ told_more F born s.words v.reads (k + 1) ok.told saw;
          rooted = ok.rooted;
          idle = λ z. absurd (alive z);
        }
      where
        seat_kept : {j i : ℕ} {n : CallState} → seat j n ≡ kept i → ⊥
        seat_kept z = cc

        nobody_kept : {i : ℕ} → nobody ≡ kept i → ⊥
        nobody_kept z = cc
