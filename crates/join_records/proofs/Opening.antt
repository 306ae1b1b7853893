-- The steps that take a record's slots and open it keep the rule.
use Rattle.tpal_machine.specs.declared.ends.End.{End}
use Rattle.tpal_machine.specs.declared.ends.End.TheVariants.{At}
use Rattle.tpal_machine.specs.declared.ends.SideName.TheVariants.{Left, Right}
use Rattle.join_records.specs.declared.views.Grip.TheVariants.{Reserved, Filling, Emptying, Emptied}
use Rattle.join_records.specs.declared.views.CallState.{CallState}
use Rattle.join_records.specs.declared.views.CallState.TheVariants.{Steady}
use Rattle.join_records.specs.Ends.{code_of}
use Rattle.std.proofs.Common.{◌≡◌, ◌≢◌, ◌⊎◌, ℕ, ◌+◌, ◌*◌, ◌<◌, eqb, List, [], ◌∷◌, length, get_or}
use Rattle.std.proofs.Common.{set, Bool, true, false, refl, sym, ap, ◌∙◌, subst, inl, inr, arith}
use Rattle.std.proofs.Common.{length-set, get_or-set_same, get_or-set_other}
use mathlib.Core.Option.{some, none}
use mathlib.Core.Option as maybe
use mathlib.Core.Logic.{dite}
use native.Mathlib.Decide.{ℕ_discrete}
use prog.Atomic.{either}
use lib.ListN.{get_elem?}
use Rattle.std.specs.Prelude.{Option, Some, None}
use Rattle.atomic_table.specs.Table.{State, Me, step, Act, takes, gives, chain, Valid}
use Rattle.atomic_table.specs.Table.{carried_after, stepped, Allows}
use Rattle.atomic_table.proofs.Lists.{set_here, set_else, exchanged}
use Rattle.join_records.specs.declared.slot.Item.{Item}
use Rattle.join_records.specs.declared.slot.Item.TheVariants.{Rest, Child}
use Rattle.join_records.specs.declared.views.Holding.{Holding}
use Rattle.join_records.specs.declared.views.View.{View}
use Rattle.join_records.specs.Ends.{left_of, right_of}
use Rattle.join_records.specs.Rule.{Facts, Holder, seat, kept, unclaimed, Phase, taken, opened, met}
use Rattle.join_records.specs.Rule.{kind, hand_of, held_of, KeepsEnd, CellOk, Kept}
use Rattle.join_records.specs.Views.{in_hand, find, read, with_hand, holds_end, drop_record}
use Rattle.join_records.specs.Views.{NoneMet, opened_view}
use Rattle.join_records.specs.Steps.{places_taken, record_opened}
use Rattle.join_records.proofs.Functions.{put, put_here, put_else, at_below, saw_more, pick_here}
use Rattle.join_records.proofs.Functions.{pick_else, dead_none, held_some, hand_taken, hand_out}
use Rattle.join_records.proofs.Functions.{hand_put, hand_drop}
use Rattle.join_records.proofs.Frame.{Loose, dead_loose, told_more, moved}

module _ {R C D E : Type 0} (F : Facts R C D E) (born : C) where
  abbrev V : Type 0
  V = View C E

  abbrev S : Type 0
  S = Option (Item R C D)

  abbrev St : Type 0
  St = State S V

  abbrev M : Type 0
  M = Me S V

  -- what a seat with one end knows of who has ends
  module _ (s : St) (r : Kept F born s) (id : ℕ) (v : V) (at : get_elem? s.views id ≡ some v) (c : End) (m : CallState) (e : E) (ends : v.ends ≡ holds_end c e m) where
    pub end_held : (r.holder (code_of c) ≡ seat id m) × (r.ending (code_of c) ≡ e)
    end_held = held_some id (r.holder (code_of c)) (r.ending (code_of c)) e m (sym (ap (λ (es : List (Holding E)). find es (code_of c)) ends ∙ pick_here (code_of c) (Some (e, m))) ∙ (r.each_seat id v at).ends (code_of c))

    pub not_held : (y : ℕ) → y ≢ code_of c → held_of id (r.holder y) (r.ending y) ≡ None
    not_held y apart = sym ((r.each_seat id v at).ends y) ∙ (ap (λ (es : List (Holding E)). find es y) ends ∙ pick_else (code_of c) y (Some (e, m)) (λ z. apart (sym z)))

  pub no_met : (s : St) (r : Kept F born s) (id : ℕ) (v : V) → get_elem? s.views id ≡ some v → NoneMet v → (i : ℕ) (out : Bool) (up : End) → i < r.count → r.cells i ≢ met id out up
  no_met s r id v at none_met i out up below is = by_out out is
    where
      by_out : (out : Bool) → r.cells i ≡ met id out up → ⊥
      by_out false is = (none_met i up).0 ((r.each_seat id v at).hand i ∙ (ap (hand_of id) is ∙ pick_here id (Some (Emptied up))))
      by_out true is = (none_met i up).1 ((r.each_seat id v at).hand i ∙ (ap (hand_of id) is ∙ pick_here id (Some (Emptying up))))

  module _ (s : St) (r : Kept F born s) (id k : ℕ) (v : V) (at : get_elem? s.views id ≡ some v) (alive : v.parts ≢ 0) (below : k < r.count) (mine : in_hand v.hand k ≡ Some Reserved) where
    abbrev x : ℕ
    x = get_or s.words (k + 1) 0

    was_taken : r.cells k ≡ taken id false
    was_taken = hand_taken id (r.cells k) (sym mine ∙ (r.each_seat id v at).hand k)

    taken_cell : CellOk F s.words s.homes r.holder r.ending k (taken id false)
    taken_cell = subst (CellOk F s.words s.homes r.holder r.ending k) was_taken (r.each_cell k below)

    abbrev placing : V
    placing = with_hand (read v (k + 1) x) ((k, Filling) ∷ drop_record k v.hand)

    abbrev bare : List (maybe.Option S)
    bare = set (set s.homes (4 * k + 1) none) (4 * k) none

    places_keep : Kept F born record { words = set s.words (k + 1) x; homes = bare; views = set s.views id placing }
    places_keep = let ok = r.each_seat id v at in let wide : length s.words ≡ r.count + 1 = r.wide in
        moved F born s r id k x v placing (taken id true) bare r.holder r.ending at below (length-set (set s.homes (4 * k + 1) none) (4 * k) none ∙ length-set s.homes (4 * k + 1) none)
        (λ y a b _ _. set_else (set s.homes (4 * k + 1) none) (4 * k) y none a ∙ set_else s.homes (4 * k + 1) y none b) refl refl (λ c. inl (refl, refl)) (λ c _ _. (refl, refl))
        (λ j apart. ap (hand_of j) was_taken ∙ (pick_else id j (Some Reserved) (λ e. apart (sym e)) ∙ sym (pick_else id j (Some Filling) (λ e. apart (sym e))))) (at_below s.views id v at)
        (λ c e. subst (KeepsEnd c) was_taken (r.keeps_end c k e).1) (
          get_or-set_same s.words (k + 1) x 0 (omega arith) ∙ taken_cell.0,
          taken_cell.1,
          (
            (λ z. absurd (cc)),
            set_else (set s.homes (4 * k + 1) none) (4 * k) (4 * k + 2) none (λ e. omega arith) ∙ (set_else s.homes (4 * k + 1) (4 * k + 2) none (λ e. omega arith) ∙ taken_cell.2.1),
            set_else (set s.homes (4 * k + 1) none) (4 * k) (4 * k + 3) none (λ e. omega arith) ∙ (set_else s.homes (4 * k + 1) (4 * k + 3) none (λ e. omega arith) ∙ taken_cell.2.2),
          ),
        )
        record {
          ends = ok.ends;
          hand = hand_put r.cells id k v.hand ok.hand (taken id true) Filling (pick_here id (Some Filling));
          told = λ saw. get_or-set_other s.words (k + 1) 0 x 0 (λ e. omega arith) ∙ told_more F born s.words v.reads (k + 1) ok.told saw;
          rooted = ok.rooted;
          idle = λ z. absurd (alive z);
        }

  pub takes_places : (n id : ℕ) (me : M) (k : ℕ) → me.0.parts ≢ 0 → 4 * k < n → in_hand me.0.hand k ≡ Some Reserved → Allows (Kept F born) n id me (k + 1) (λ y. y) (places_taken (step n (k + 1) 0 0 none) me)
  takes_places n id me k alive near mine s r wide at _ = let below : k < r.count = (let sl = r.slots in omega arith) in let cell = taken_cell s r id k me.0 at alive below mine in (
    placing s r id k me.0 at alive below mine,
    chain (takes (4 * k + 1) None) (takes (4 * k) None),
    ((cell.2.0 refl).1, set_else s.homes (4 * k + 1) (4 * k) none (λ e. omega arith) ∙ (cell.2.0 refl).0),
    places_keep s r id k me.0 at alive below mine,
    (λ i same. let is : k ≡ i = omega arith in (
      ap (λ (y : ℕ). with_hand (read me.0 (y + 1) (get_or s.words (k + 1) 0)) ((y, Filling) ∷ drop_record y me.0.hand)) is,
      ap (λ (y : ℕ). (4 * y, None) ∷ (4 * y + 1, None) ∷ me.1) is,
    )),
  )

  module _ (s : St) (r : Kept F born s) (id k : ℕ) (up : End) (v : V) (a b e : E) (rest : R) (child : C) (at : get_elem? s.views id ≡ some v) (alive : v.parts ≢ 0) (below : k < r.count) (mine : in_hand v.hand k ≡ Some Filling)
      (none_met : NoneMet v) (ends : v.ends ≡ holds_end up e Steady) (keeps_up : F.keeps rest up) (merges : F.rest_owes rest a b e) (has : F.has_end child (At k Right)) (owes : F.owes child b) where
    was_out : r.cells k ≡ taken id true
    was_out = hand_out id (r.cells k) (sym mine ∙ (r.each_seat id v at).hand k)

    out_cell : CellOk F s.words s.homes r.holder r.ending k (taken id true)
    out_cell = subst (CellOk F s.words s.homes r.holder r.ending k) was_out (r.each_cell k below)

    held : (r.holder (code_of up) ≡ seat id Steady) × (r.ending (code_of up) ≡ e)
    held = end_held s r id v at up Steady e ends

    not_left : code_of up ≢ left_of k
    not_left z = let l = out_cell.1.0 in let t : kind (r.holder (left_of k)) ≡ 1 = ap (λ (y : ℕ). kind (r.holder y)) (sym z) ∙ ap kind held.0 in omega arith

    not_right : code_of up ≢ right_of k
    not_right z = let l = out_cell.1.1 in let t : kind (r.holder (right_of k)) ≡ 1 = ap (λ (y : ℕ). kind (r.holder y)) (sym z) ∙ ap kind held.0 in omega arith

    abbrev holder' : ℕ → Holder
    holder' = put (put r.holder (code_of up) (kept k)) (left_of k) (seat id Steady)

    abbrev ending' : ℕ → E
    ending' = put (put r.ending (left_of k) a) (right_of k) b

    abbrev homes' : List (maybe.Option S)
    homes' = set (set s.homes (4 * k + 1) (some (Some (Child child)))) (4 * k) (some (Some (Rest rest)))

    abbrev w : V
    w = opened_view v k a

    abbrev ph : Phase
    ph = opened up false unclaimed

    holds_left : holder' (left_of k) ≡ seat id Steady
    holds_left = put_here (put r.holder (code_of up) (kept k)) (left_of k) (seat id Steady)

    holds_up : holder' (code_of up) ≡ kept k
    holds_up = put_else (put r.holder (code_of up) (kept k)) (left_of k) (seat id Steady) (code_of up) not_left ∙ put_here r.holder (code_of up) (kept k)

    holds_else : (c : ℕ) → c ≢ left_of k → c ≢ code_of up → holder' c ≡ r.holder c
    holds_else c l u = put_else (put r.holder (code_of up) (kept k)) (left_of k) (seat id Steady) c l ∙ put_else r.holder (code_of up) (kept k) c u

    holds_right : holder' (right_of k) ≡ r.holder (right_of k)
    holds_right = holds_else (right_of k) (λ z. omega arith) (λ z. not_right (sym z))

    owes_left : ending' (left_of k) ≡ a
    owes_left = put_else (put r.ending (left_of k) a) (right_of k) b (left_of k) (λ z. omega arith) ∙ put_here r.ending (left_of k) a

    owes_right : ending' (right_of k) ≡ b
    owes_right = put_here (put r.ending (left_of k) a) (right_of k) b

    owes_else : (c : ℕ) → c ≢ left_of k → c ≢ right_of k → ending' c ≡ r.ending c
    owes_else c l q = put_else (put r.ending (left_of k) a) (right_of k) b c q ∙ put_else r.ending (left_of k) a c l

    loose_id : (m : CallState) → Loose F born r.cells r.count id k (seat id m)
    loose_id m = (refl, no_met s r id v at none_met)

    changes : (c : ℕ) → ((holder' c ≡ r.holder c) × (ending' c ≡ r.ending c)) ⊎ (Loose F born r.cells r.count id k (r.holder c) × Loose F born r.cells r.count id k (holder' c))
    changes c = let L = Loose F born r.cells r.count id k in dite (ℕ_discrete c (left_of k))
        (λ z. inr (subst (λ (y : ℕ). L (r.holder y)) (sym z) (dead_loose F born r.cells r.count id k (r.holder (left_of k)) out_cell.1.0), subst (λ (y : ℕ). L (holder' y)) (sym z) (subst L (sym holds_left) (loose_id Steady))))
        (λ l. dite (ℕ_discrete c (right_of k))
        (λ z. let d = dead_loose F born r.cells r.count id k (r.holder (right_of k)) out_cell.1.1 in inr (subst (λ (y : ℕ). L (r.holder y)) (sym z) d, subst (λ (y : ℕ). L (holder' y)) (sym z) (subst L (sym holds_right) d)))
        (λ q. dite (ℕ_discrete c (code_of up))
        (λ z. inr (subst (λ (y : ℕ). L (r.holder y)) (sym z) (subst L (sym held.0) (loose_id Steady)), subst (λ (y : ℕ). L (holder' y)) (sym z) (subst L (sym holds_up) refl)))
        (λ u. inl (holds_else c l u, owes_else c l q))))

    softly : (c : ℕ) → c ≢ left_of k → c ≢ right_of k → (kind (holder' c) ≡ kind (r.holder c)) × (ending' c ≡ r.ending c)
    softly c l q = (dite (ℕ_discrete c (code_of up)) (λ z. ap (λ (y : ℕ). kind (holder' y)) z ∙ (ap kind holds_up ∙ sym (ap (λ (y : ℕ). kind (r.holder y)) z ∙ ap kind held.0))) (λ u. ap kind (holds_else c l u)), owes_else c l q)

    keeps_only : (c : ℕ) → holder' c ≡ kept k → KeepsEnd c ph
    keeps_only c is = dite (ℕ_discrete c (left_of k)) (λ z. absurd (seat_kept (sym holds_left ∙ (ap holder' (sym z) ∙ is))))
        (λ l. dite (ℕ_discrete c (code_of up)) (λ z. sym z) (λ u. absurd (subst (KeepsEnd c) was_out (r.keeps_end c k (sym (holds_else c l u) ∙ is)).1)))
      where
        seat_kept : {j i : ℕ} {m : CallState} → seat j m ≡ kept i → ⊥
        seat_kept z = cc

    new_ends : (c : ℕ) → find (holds_end (At k Left) a Steady) c ≡ held_of id (holder' c) (ending' c)
    new_ends c = dite (ℕ_discrete c (left_of k))
        (λ z. subst (λ (y : ℕ). find (holds_end (At k Left) a Steady) y ≡ held_of id (holder' y) (ending' y)) (sym z)
        (pick_here (left_of k) (Some (a, Steady)) ∙ ((λ i. Some (sym owes_left i, Steady)) ∙ (sym (pick_here id (Some (ending' (left_of k), Steady))) ∙ ap (λ (h : Holder). held_of id h (ending' (left_of k))) (sym holds_left)))))
        (λ l. pick_else (left_of k) c (Some (a, Steady)) (λ z. l (sym z)) ∙ sym (dite (ℕ_discrete c (code_of up))
        (λ z. ap (λ (y : ℕ). held_of id (holder' y) (ending' c)) z ∙ ap (λ (h : Holder). held_of id h (ending' c)) holds_up)
        (λ u. ap (λ (h : Holder). held_of id h (ending' c)) (holds_else c l u) ∙ dite (ℕ_discrete c (right_of k))
        (λ z. dead_none id (r.holder c) (ending' c) (ap (λ (y : ℕ). kind (r.holder y)) z ∙ out_cell.1.1))
        (λ q. ap (held_of id (r.holder c)) (owes_else c l q) ∙ not_held s r id v at up Steady e ends c u))))

    open_keeps : Kept F born record { words = set s.words (k + 1) (3 + 256 * code_of up); homes = homes'; views = set s.views id w }
    open_keeps = let ok = r.each_seat id v at in let wide : length s.words ≡ r.count + 1 = r.wide in let slots : length s.homes ≡ 4 * r.count = r.slots in
        let one : List (maybe.Option S) = set s.homes (4 * k + 1) (some (Some (Child child))) in let n : length one ≡ length s.homes = length-set s.homes (4 * k + 1) (some (Some (Child child))) in
        moved F born s r id k (3 + 256 * code_of up) v w ph homes' holder' ending' at below (length-set one (4 * k) (some (Some (Rest rest))) ∙ n)
        (λ y p q _ _. set_else one (4 * k) y (some (Some (Rest rest))) p ∙ set_else s.homes (4 * k + 1) y (some (Some (Child child))) q) refl refl changes softly
        (λ j apart. ap (hand_of j) was_out ∙ pick_else id j (Some Filling) (λ z. apart (sym z))) tt keeps_only (
          get_or-set_same s.words (k + 1) (3 + 256 * code_of up) 0 (omega arith) ∙ (omega arith),
          holds_up,
          (
            rest,
            set_here one (4 * k) (some (Some (Rest rest))) (omega arith),
            keeps_up,
            subst (λ (y : E × E × E). F.rest_owes rest y.0 y.1 y.2) (λ i. (sym owes_left i, sym owes_right i, sym (owes_else (code_of up) not_left not_right ∙ held.1) i)) merges,
          ),
          (
            (λ z. let t = ap kind holds_left in absurd (omega arith)),
            λ _. set_else one (4 * k) (4 * k + 2) (some (Some (Rest rest))) (λ z. omega arith) ∙ (set_else s.homes (4 * k + 1) (4 * k + 2) (some (Some (Child child))) (λ z. omega arith) ∙ out_cell.2.1),
          ),
          (
            ap kind holds_right ∙ out_cell.1.1,
            (child, set_else one (4 * k) (4 * k + 1) (some (Some (Rest rest))) (λ z. omega arith) ∙ set_here s.homes (4 * k + 1) (some (Some (Child child))) (omega arith), has, subst (F.owes child) (sym owes_right) owes),
            set_else one (4 * k) (4 * k + 3) (some (Some (Rest rest))) (λ z. omega arith) ∙ (set_else s.homes (4 * k + 1) (4 * k + 3) (some (Some (Child child))) (λ z. omega arith) ∙ out_cell.2.2),
          ),
          (not_left, not_right),
          tt,
        )
        record {
          ends = new_ends;
          hand = hand_drop r.cells id k v.hand ok.hand ph refl;
          told = λ saw. get_or-set_other s.words (k + 1) 0 (3 + 256 * code_of up) 0 (λ z. omega arith) ∙ ok.told (saw_more v.reads (k + 1) 1 (λ z. absurd (omega arith)) saw);
          rooted = ok.rooted;
          idle = λ z. absurd (alive z);
        }

  pub opens_record : (n id : ℕ) (me : M) (k : ℕ) (up : End) (a b e : E) (rest : R) (child : C) → me.0.parts ≢ 0 → 4 * k < n → in_hand me.0.hand k ≡ Some Filling → NoneMet me.0 → me.0.ends ≡ holds_end up e Steady → F.keeps rest up → F.rest_owes rest a b e
      → F.has_end child (At k Right) → F.owes child b → me.1 ≡ (4 * k + 1, Some (Child child)) ∷ (4 * k, Some (Rest rest)) ∷ [] → Allows (Kept F born) n id me (k + 1) (λ y. either (eqb y 1) (3 + 256 * code_of up) y) (record_opened (Some a) (step n (k + 1) 1 (3 + 256 * code_of up) none) me)
  opens_record n id me k up a b e rest child alive near mine none_met ends keeps_up merges has owes carried s r wide at _ =
      let below : k < r.count = (let sl = r.slots in omega arith) in let v : V = me.0 in let new : ℕ = 3 + 256 * code_of up in let x : ℕ = get_or s.words (k + 1) 0 in let told = record_opened (Some a) (step n (k + 1) 1 new none) me in
      let hit : x ≡ 1 = (out_cell s r id k up v a b e rest child at alive below mine none_met ends keeps_up merges has owes).0 in exchanged x 1 new
      (λ y. (u : V) × (act : Act S) × Valid s.homes me.1 act × Kept F born (stepped s (k + 1) y id me.1 u act) × told x (u, carried_after me.1 act))
      (λ _. (
        w s r id k up v a b e rest child at alive below mine none_met ends keeps_up merges has owes,
        chain gives gives,
        (tt, tt),
        subst (λ (c : List (ℕ × S)). Kept F born (stepped s (k + 1) new id c (opened_view v k a) (chain gives gives))) (sym carried) (open_keeps s r id k up v a b e rest child at alive below mine none_met ends keeps_up merges has owes),
        (λ i d same that. let is : k ≡ i = omega arith in ((λ t. opened_view v (is t) (some_is that t)), ap (λ (c : List (ℕ × S)). carried_after c (chain gives gives)) carried)),
      ))
      (λ miss. absurd (miss hit))
    where
      some_is : {A : Type 0} {x y : A} → Some x ≡ Some y → x ≡ y
      some_is z = cc

  -- the same, where the call picked the ending, and the end's code is a number that was computed
  pub opens_filled : (n id : ℕ) (me : M) (k : ℕ) (up : End) (a b e : E) (o : Option E) (rest : R) (child : C) (code : ℕ) → code ≡ code_of up → o ≡ Some a → me.0.parts ≢ 0 → 4 * k < n → in_hand me.0.hand k ≡ Some Filling → NoneMet me.0
      → me.0.ends ≡ holds_end up e Steady → F.keeps rest up → F.rest_owes rest a b e → F.has_end child (At k Right) → F.owes child b → me.1 ≡ (4 * k + 1, Some (Child child)) ∷ (4 * k, Some (Rest rest)) ∷ []
      → Allows (Kept F born) n id me (k + 1) (λ y. either (eqb y 1) (3 + 256 * code) y) (record_opened o (step n (k + 1) 1 (3 + 256 * code) none) me)
  opens_filled n id me k up a b e o rest child code same is alive near mine none_met ends keeps_up merges has owes carried =
      subst (λ (y : ℕ × Option E). Allows (Kept F born) n id me (k + 1) (λ z. either (eqb z 1) (3 + 256 * y.0) z) (record_opened y.1 (step n (k + 1) 1 (3 + 256 * y.0) none) me)) (λ i. (sym same i, sym is i))
      (opens_record n id me k up a b e rest child alive near mine none_met ends keeps_up merges has owes carried)
