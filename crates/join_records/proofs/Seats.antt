-- The first steps of a table, the loads and the take keep the rule.
use Rattle.tpal_machine.specs.declared.ends.End.{End}
use Rattle.tpal_machine.specs.declared.ends.End.TheVariants.{Root}
use Rattle.join_records.specs.declared.views.Grip.{Grip}
use Rattle.join_records.specs.declared.views.Grip.TheVariants.{Reserved, Filling, Emptying, Emptied}
use Rattle.join_records.specs.declared.views.CallState.{CallState}
use Rattle.join_records.specs.declared.views.CallState.TheVariants.{Steady}
use Rattle.std.proofs.Common.{◌≡◌, ◌≢◌, ◌⊎◌, ℕ, zero, suc, ◌+◌, ◌*◌, ◌<◌, ◌≤◌, eqb, List, [], ◌∷◌}
use Rattle.std.proofs.Common.{◌++◌, map, replicate, length, get_or, set, Bool, false, cond, refl}
use Rattle.std.proofs.Common.{sym, ap, ◌∙◌, subst, inl, inr, ⊎_elim, arith, length-set}
use Rattle.std.proofs.Common.{get_or-set_same, get_or-set_other, eq-eqb, ne_eqb}
use Rattle.std.proofs.lemmas.List.{set-get_or}
use mathlib.Core.Option.{some, none, some-ne-none}
use mathlib.Core.Option as maybe
use prog.Atomic.{either}
use lib.ListN.{get_elem?, length-map, length-replicate}
use Rattle.std.specs.Prelude.{Option, Some, None}
use Rattle.atomic_table.specs.Table.{State, Me, step, Act, keeps, Valid, carried_after, stepped}
use Rattle.atomic_table.specs.Table.{Allows, Splits, opening}
use Rattle.atomic_table.proofs.Lists.{at_set, exchanged}
use Rattle.join_records.specs.declared.slot.Item.{Item}
use Rattle.join_records.specs.declared.views.Holding.{Holding}
use Rattle.join_records.specs.declared.views.View.{View}
use Rattle.join_records.specs.Ends.{left_of, right_of}
use Rattle.join_records.specs.Rule.{Facts, Holder, nobody, seat, kept, Phase, free, taken, opened}
use Rattle.join_records.specs.Rule.{met, Era, unborn, running, finished, kind, hand_of, held_of}
use Rattle.join_records.specs.Rule.{Rooted, KeepsEnd, NamesBelow, CellOk, EraOk, SeatOk, Kept}
use Rattle.join_records.specs.Views.{in_hand, find, total, blank, read, rooted_at, with_hand, fresh}
use Rattle.join_records.specs.Views.{split_left}
use Rattle.join_records.specs.Steps.{seat_opened, record_taken, settled}
use Rattle.join_records.proofs.Functions.{put, put_here, put_else, at_put, total_same, total_set}
use Rattle.join_records.proofs.Functions.{total_append, at_below, at_more, length_more, all_some}
use Rattle.join_records.proofs.Functions.{all_zero, saw_more, pick_here, pick_else, dead_none}
use Rattle.join_records.proofs.Functions.{hand_none, total_alone}
use Rattle.join_records.proofs.Frame.{Loose, told_more, loads_keep, cell_stays, moved, dead_loose}

module _ {R C D E : Type 0} (F : Facts R C D E) (born : C) where
  abbrev V : Type 0
  V = View C E

  abbrev S : Type 0
  S = Option (Item R C D)

  abbrev St : Type 0
  St = State S V

  abbrev M : Type 0
  M = Me S V

  -- what a step that makes word i into x owes
  abbrev pub Goes : St → ℕ → ℕ → M → (ℕ → M → Type 0) → ℕ → Type 0
  Goes s i id me then x = (w : V) × (a : Act S) × Valid s.homes me.1 a × Kept F born (stepped s i x id me.1 w a) × then (get_or s.words i 0) (w, carried_after me.1 a)

  -- a word of 0 is that of a free record
  zero_free : (words : List ℕ) (homes : List (maybe.Option S)) (holder : ℕ → Holder) (ending : ℕ → E) (k : ℕ) (ph : Phase) → CellOk F words homes holder ending k ph → get_or words (k + 1) 0 ≡ 0 → ph ≡ free
  zero_free words homes holder ending k free ok z = refl
  zero_free words homes holder ending k (taken i out) ok z = let e = ok.0 in absurd (omega arith)
  zero_free words homes holder ending k (opened up l b) ok z = let e = ok.0 in absurd (omega arith)
  zero_free words homes holder ending k (met i out up) ok z = let e = ok.0 in absurd (omega arith)

  module _ (s : St) (r : Kept F born s) (id k : ℕ) (v : V) (at : get_elem? s.views id ≡ some v) (alive : v.parts ≢ 0) (below : k < r.count) (hit : get_or s.words (k + 1) 0 ≡ 0) where
    was_free : r.cells k ≡ free
    was_free = zero_free s.words s.homes r.holder r.ending k (r.cells k) (r.each_cell k below) hit

    free_cell : CellOk F s.words s.homes r.holder r.ending k free
    free_cell = subst (CellOk F s.words s.homes r.holder r.ending k) was_free (r.each_cell k below)

    took : V
    took = with_hand (read v (k + 1) (get_or s.words (k + 1) 0)) ((k, Reserved) ∷ v.hand)

    took_seat : SeatOk born (set s.words (k + 1) 1) r.era r.root (put r.cells k (taken id false)) r.holder r.ending id took
    unfolding took
    took_seat = let ok = r.each_seat id v at in record {
      ends = ok.ends;
      hand = λ i. at_put r.cells k (taken id false) (λ y a. y ≡ i → in_hand ((k, Reserved) ∷ v.hand) i ≡ hand_of id a) i
          (λ z. ap (λ (b : Bool). cond b (Some Reserved) (in_hand v.hand i)) (eq-eqb k i z) ∙ sym (pick_here id (Some Reserved)))
          (λ apart _. ap (λ (b : Bool). cond b (Some Reserved) (in_hand v.hand i)) (ne_eqb k i (λ e. apart (sym e))) ∙ ok.hand i) refl;
      told = λ saw. get_or-set_other s.words (k + 1) 0 1 0 (λ e. omega arith) ∙ told_more F born s.words v.reads (k + 1) ok.told saw;
      rooted = ok.rooted;
      idle = λ z. absurd (alive z);
    }

    took_keeps : Kept F born record { words = set s.words (k + 1) 1; homes = s.homes; views = set s.views id took }
    unfolding took
    took_keeps = let wide : length s.words ≡ r.count + 1 = r.wide in moved F born s r id k 1 v took (taken id false) s.homes r.holder r.ending at below refl (λ _ _ _ _ _. refl) refl refl (λ c. inl (refl, refl)) (λ c _ _. (refl, refl))
        (λ j apart. ap (hand_of j) was_free ∙ sym (pick_else id j (Some Reserved) (λ e. apart (sym e)))) (at_below s.views id v at)
        (λ c e. subst (KeepsEnd c) was_free (r.keeps_end c k e).1)
        (get_or-set_same s.words (k + 1) 1 0 (omega arith), free_cell.1, ((λ _. (free_cell.2.0, free_cell.2.1)), free_cell.2.2, free_cell.2.3)) took_seat

    took_apart : (find v.ends (left_of k) ≡ None) × (find v.ends (right_of k) ≡ None)
    took_apart = let ok = r.each_seat id v at in
        (ok.ends (left_of k) ∙ dead_none id (r.holder (left_of k)) (r.ending (left_of k)) free_cell.1.0, ok.ends (right_of k) ∙ dead_none id (r.holder (right_of k)) (r.ending (right_of k)) free_cell.1.1)

  pub takes_record : (n id : ℕ) (me : M) (k : ℕ) → me.0.parts ≢ 0 → 4 * k < n → Allows (Kept F born) n id me (k + 1) (λ y. either (eqb y 0) 1 y) (record_taken (step n (k + 1) 0 1 none) me)
  unfolding took
  takes_record n id me k alive near s r wide at _ =
      let x : ℕ = get_or s.words (k + 1) 0 in let told = record_taken (step n (k + 1) 0 1 none) me in let v : V = me.0 in exchanged x 0 1 (Goes s (k + 1) id me told)
      (λ hit. let below : k < r.count = (let sl = r.slots in omega arith) in (
        took s r id k v at alive below hit,
        keeps,
        tt,
        took_keeps s r id k v at alive below hit,
        (
          refl,
          (λ miss. absurd (miss hit)),
          λ i same _. let is : k ≡ i = omega arith in
              let free_of = took_apart s r id k v at alive below hit in (
                ap (λ (y : ℕ). with_hand (read v (k + 1) x) ((y, Reserved) ∷ v.hand)) is,
                subst (λ (y : ℕ). find v.ends (left_of y) ≡ None) is free_of.0,
                subst (λ (y : ℕ). find v.ends (right_of y) ≡ None) is free_of.1,
              ),
        ),
      ))
      (λ miss. (read v (k + 1) x, keeps, tt, loads_keep F born s r id (k + 1) v at alive, (refl, (λ _. refl), λ _ _ hit. absurd (miss hit))))

  -- a new table
  pub starts : (count : ℕ) (e : E) → F.owes born e → Kept F born (opening (replicate (count + 1) 0) (replicate (4 * count) None) (blank born))
  starts count e owed = let homes : List (maybe.Option S) = map some (replicate (4 * count) None) in record {
    count = count;
    root = e;
    era = unborn;
    cells = λ _. free;
    holder = λ _. nobody;
    ending = λ _. e;
    owed = owed;
    wide = length-replicate (count + 1) 0;
    slots = length-map (replicate (4 * count) None) some ∙ length-replicate (4 * count) None;
    whole = refl;
    era_ok = (all_zero (count + 1) 0, refl, refl, refl);
    root_is = refl;
    each_cell = λ k near. (
      all_zero (count + 1) (k + 1),
      (refl, refl),
      (
        all_some (4 * count) (4 * k) None (omega arith),
        all_some (4 * count) (4 * k + 1) None (omega arith),
        all_some (4 * count) (4 * k + 2) None (omega arith),
        all_some (4 * count) (4 * k + 3) None (omega arith),
      ),
    );
    each_seat = λ j v e'. first_seat j v e';
    keeps_end = λ c k e'. absurd (nobody_kept e');
    seated = λ c j m e'. absurd (nobody_seat e');
    handed = λ _. tt;
    within = λ c live. absurd (live refl);
  }
    where
      nobody_kept : {k : ℕ} → nobody ≡ kept k → ⊥
      nobody_kept e' = cc

      nobody_seat : {j : ℕ} {m : CallState} → nobody ≡ seat j m → ⊥
      nobody_seat e' = cc

      blank_seat : (j : ℕ) → SeatOk born (replicate (count + 1) 0) unborn e (λ _. free) (λ _. nobody) (λ _. e) j (blank born)
      blank_seat j = record { ends = λ _. refl; hand = λ _. refl; told = λ saw. absurd (cc); rooted = λ _. (refl, refl); idle = λ z. absurd (omega arith) }

      first_seat : (j : ℕ) (v : V) → get_elem? (blank born ∷ []) j ≡ some v → SeatOk born (replicate (count + 1) 0) unborn e (λ _. free) (λ _. nobody) (λ _. e) j v
      first_seat zero v e' = subst (SeatOk born (replicate (count + 1) 0) unborn e (λ _. free) (λ _. nobody) (λ _. e) 0) (maybe.some-injective _ _ e') (blank_seat 0)
      first_seat (suc j) v e' = absurd (some-ne-none v (sym e'))

  none_some : {A : Type 0} {x : A} → None ≡ Some x → ⊥
  none_some e = cc

  -- the era in which a seat has no root
  era_of : (root : E) (era : Era) (b : Option C) (e : Option E) → Rooted born root era b e → e ≡ None → (era ≡ unborn) × (b ≡ Some born)
  era_of root unborn b e is rootless = (refl, is.1)
  era_of root running b e is rootless = absurd (none_some (sym rootless ∙ is))
  era_of root finished b e is rootless = absurd (none_some (sym rootless ∙ is))

  -- the first seat takes the root
  module _ (s : St) (r : Kept F born s) (id : ℕ) (v : V) (at : get_elem? s.views id ≡ some v) (alive : v.parts ≢ 0) (rootless : v.root ≡ None) (hand : v.hand ≡ []) (ends : v.ends ≡ []) where
    new_era : (r.era ≡ unborn) × (v.born ≡ Some born)
    new_era = era_of r.root r.era v.born v.root ((r.each_seat id v at).rooted alive) rootless

    first_era : EraOk s.words s.views r.holder unborn
    first_era = subst (EraOk s.words s.views r.holder) new_era.0 r.era_ok

    abbrev rooting : V
    rooting = rooted_at (read v 0 0) r.root

    abbrev holding : ℕ → Holder
    holding = put r.holder 0 (seat id Steady)

    no_met : (i : ℕ) (out : Bool) (up : End) → r.cells i ≢ met id out up
    no_met i out up = hand_none id i out up (r.cells i) (ap (λ (h : List (ℕ × Grip)). in_hand h i) (sym hand) ∙ (r.each_seat id v at).hand i)

    seat_held : (c : ℕ) → find (record { end = Root; ending = r.root; stage = Steady } ∷ []) c ≡ held_of id (holding c) (r.ending c)
    seat_held c = at_put r.holder 0 (seat id Steady) (λ y a. y ≡ c → find (record { end = Root; ending = r.root; stage = Steady } ∷ []) c ≡ held_of id a (r.ending c)) c
        (λ z. ap (λ (b : Bool). cond b (Some (r.root, Steady)) None) (eq-eqb 0 c z) ∙ (ap (λ (y : E). Some (y, Steady)) (sym r.root_is ∙ ap r.ending z) ∙ sym (pick_here id (Some (r.ending c, Steady)))))
        (λ apart _. ap (λ (b : Bool). cond b (Some (r.root, Steady)) None) (ne_eqb 0 c (λ e. apart (sym e))) ∙ (ap (λ (h : List (Holding E)). find h c) (sym ends) ∙ (r.each_seat id v at).ends c)) refl

    pub roots : Kept F born record { words = s.words; homes = s.homes; views = set s.views id rooting }
    roots = let seats : length (set s.views id rooting) ≡ length s.views = length-set s.views id rooting in record {
      count = r.count;
      root = r.root;
      era = running;
      cells = r.cells;
      holder = holding;
      ending = r.ending;
      owed = r.owed;
      wide = r.wide;
      slots = r.slots;
      whole = total_same (λ u. u.parts) s.views id v rooting at refl ∙ r.whole;
      era_ok = (first_era.0, total_same (λ u. u.made) s.views id v rooting at refl ∙ first_era.1, λ z. let e = ap kind (sym (put_here r.holder 0 (seat id Steady))) ∙ z in absurd (omega arith));
      root_is = r.root_is;
      each_cell = λ k near. cell_stays F born s r id (k + 1) k near s.words s.homes holding r.ending (λ e. omega arith) refl (λ _ _ _. refl)
          (λ c. at_put r.holder 0 (seat id Steady) (λ y a. ((a ≡ r.holder y) × (r.ending y ≡ r.ending y)) ⊎ (Loose F born r.cells r.count id (k + 1) (r.holder y) × Loose F born r.cells r.count id (k + 1) a)) c
          (inr (dead_loose F born r.cells r.count id (k + 1) (r.holder 0) first_era.2, (refl, λ i out up _. no_met i out up))) (λ _. inl (refl, refl)))
          (ap kind (put_else r.holder 0 (seat id Steady) (left_of k) (λ e. omega arith)), refl) (ap kind (put_else r.holder 0 (seat id Steady) (right_of k) (λ e. omega arith)), refl) (r.cells k) refl (r.each_cell k near);
      each_seat = λ j u e. ⊎_elim
          (λ (y : (j ≡ id) × (rooting ≡ u)). subst (λ (z : ℕ × V). SeatOk born s.words running r.root r.cells holding r.ending z.0 z.1) (λ i. (sym y.0 i, y.1 i)) mine)
          (λ (y : (j ≢ id) × (get_elem? s.views j ≡ some u)). let a = at_below s.views j u y.1 in let b = at_below s.views id v at in let one = first_era.3 in absurd (y.0 (omega arith)))
          (at_set s.views id j rooting u e);
      keeps_end = λ c k e. at_put r.holder 0 (seat id Steady) (λ y a. a ≡ kept k → (k < r.count) × KeepsEnd y (r.cells k)) c (λ z. absurd (seat_kept z)) (λ _ z. r.keeps_end c k z) e;
      seated = λ c j m e. subst (λ (n : ℕ). j < n) (sym seats) (at_put r.holder 0 (seat id Steady) (λ y a. a ≡ seat j m → j < length s.views) c (λ z. subst (λ (y : ℕ). y < length s.views) (seat_is z) (at_below s.views id v at)) (λ _ z. r.seated c j m z) e);
      handed = λ k. subst (λ (n : ℕ). NamesBelow n (r.cells k)) (sym seats) (r.handed k);
      within = λ c. at_put r.holder 0 (seat id Steady) (λ y a. kind a ≢ 0 → y ≤ 2 * r.count) c (λ _. omega arith) (λ _. r.within c);
    }
      where
        seat_kept : {j k : ℕ} {m : CallState} → seat j m ≡ kept k → ⊥
        seat_kept e = cc

        seat_is : {i j : ℕ} {m m' : CallState} → seat i m ≡ seat j m' → i ≡ j
        seat_is e = cc

        mine : SeatOk born s.words running r.root r.cells holding r.ending id rooting
        mine = let ok = r.each_seat id v at in record {
          ends = seat_held;
          hand = ok.hand;
          told = λ saw. ok.told (saw_more v.reads 0 0 (λ _ e. omega arith) saw);
          rooted = λ _. refl;
          idle = λ z. absurd (alive z);
        }

  pub opens_seat : (n id : ℕ) (me : M) → me.0.parts ≢ 0 → me.0.root ≡ None → me.0.hand ≡ [] → me.0.ends ≡ [] → Allows (Kept F born) n id me 0 (λ x. x) (seat_opened F.owes (step n 0 0 0 none) me)
  opens_seat n id me alive rootless hand ends s r wide at _ = let v : V = me.0 in (
    rooting s r id v at alive rootless hand ends,
    keeps,
    tt,
    subst (λ (ws : List ℕ). Kept F born record { words = ws; homes = s.homes; views = set s.views id (rooting s r id v at alive rootless hand ends) }) (sym (set-get_or s.words 0 0)) (roots s r id v at alive rootless hand ends),
    ((first_era s r id v at alive rootless hand ends).0, refl, (born, (new_era s r id v at alive rootless hand ends).1, (r.root, r.owed, refl))),
  )

  -- a seat is split
  pub splits : (id : ℕ) (v : V) (e : E) → v.root ≡ Some e → 1 < v.parts → Splits (Kept F born) id v (split_left v) (fresh v)
  splits id v e rooted parts s r at = let vs : List V = set s.views id (split_left v) in let n : length vs ≡ length s.views = length-set s.views id (split_left v) in
      let longer : length (vs ++ fresh v ∷ []) ≡ length s.views + 1 = length_more vs (fresh v) ∙ ap (λ (y : ℕ). y + 1) n in let ok = r.each_seat id v at in let rt = ok.rooted (λ z. omega arith) in record {
        count = r.count;
        root = r.root;
        era = r.era;
        cells = r.cells;
        holder = r.holder;
        ending = r.ending;
        owed = r.owed;
        wide = r.wide;
        slots = r.slots;
        whole = let a = total_append (λ u. u.parts) vs (fresh v ∷ []) in let b = total_set (λ u. u.parts) s.views id v (split_left v) at in let c = r.whole in omega arith;
        era_ok = era_same r.era rt r.era_ok;
        root_is = r.root_is;
        each_cell = r.each_cell;
        each_seat = λ j u is. ⊎_elim
            (λ was. ⊎_elim
            (λ (y : (j ≡ id) × (split_left v ≡ u)). subst (λ (z : ℕ × V). SeatOk born s.words r.era r.root r.cells r.holder r.ending z.0 z.1) (λ i. (sym y.0 i, y.1 i)) (left_seat ok))
            (λ (y : (j ≢ id) × (get_elem? s.views j ≡ some u)). r.each_seat j u y.1)
            (at_set s.views id j (split_left v) u was))
            (λ (y : (j ≡ length vs) × (fresh v ≡ u)). subst (λ (z : ℕ × V). SeatOk born s.words r.era r.root r.cells r.holder r.ending z.0 z.1) (λ i. (sym (y.0 ∙ n) i, y.1 i)) (fresh_seat rt))
            (at_more vs (fresh v) u j is);
        keeps_end = r.keeps_end;
        seated = λ c j m is. let b = r.seated c j m is in omega arith;
        handed = λ k. below_more (r.cells k) (length s.views) (length (vs ++ fresh v ∷ [])) (omega arith) (r.handed k);
        within = r.within;
      }
    where
      below_more : (ph : Phase) (m n : ℕ) → m ≤ n → NamesBelow m ph → NamesBelow n ph
      below_more free m n le b = tt
      below_more (taken i out) m n le b = omega arith
      below_more (opened up l q) m n le b = tt
      below_more (met i out up) m n le b = omega arith

      era_same : (era : Era) → Rooted born r.root era v.born v.root → EraOk s.words s.views r.holder era → EraOk s.words (set s.views id (split_left v) ++ fresh v ∷ []) r.holder era
      era_same unborn is good = absurd (none_some (sym is.0 ∙ rooted))
      era_same running is good = (good.0, total_append (λ u. u.made) (set s.views id (split_left v)) (fresh v ∷ []) ∙ (let a = total_same (λ u. u.made) s.views id v (split_left v) at refl in let b = good.1 in omega arith), good.2)
      era_same finished is good = (good.0, total_append (λ u. u.made) (set s.views id (split_left v)) (fresh v ∷ []) ∙ (let a = total_same (λ u. u.made) s.views id v (split_left v) at refl in let b = good.1 in omega arith), good.2)

      left_seat : SeatOk born s.words r.era r.root r.cells r.holder r.ending id v → SeatOk born s.words r.era r.root r.cells r.holder r.ending id (split_left v)
      left_seat ok = record { ends = ok.ends; hand = ok.hand; told = λ saw. ok.told (saw_more v.reads 0 0 (λ _ z. omega arith) saw); rooted = λ _. ok.rooted (λ z. omega arith); idle = λ z. absurd (omega arith) }

      no_holder : (h : Holder) (x : E) → ((i : ℕ) (m : CallState) → h ≡ seat i m → i < length s.views) → held_of (length s.views) h x ≡ None
      no_holder nobody x below = refl
      no_holder (seat i m) x below = pick_else i (length s.views) (Some (x, m)) (λ z. let b = below i m refl in omega arith)
      no_holder (kept k) x below = refl

      no_hand : (ph : Phase) → NamesBelow (length s.views) ph → hand_of (length s.views) ph ≡ None
      no_hand free b = refl
      no_hand (taken i out) b = pick_else i (length s.views) (Some (cond out Filling Reserved)) (λ z. omega arith)
      no_hand (opened up l q) b = refl
      no_hand (met i out up) b = pick_else i (length s.views) (Some (cond out (Emptying up) (Emptied up))) (λ z. omega arith)

      fresh_root : (era : Era) → Rooted born r.root era v.born v.root → Rooted born r.root era None v.root
      fresh_root unborn is = absurd (none_some (sym is.0 ∙ rooted))
      fresh_root running is = is
      fresh_root finished is = is

      fresh_seat : Rooted born r.root r.era v.born v.root → SeatOk born s.words r.era r.root r.cells r.holder r.ending (length s.views) (fresh v)
      fresh_seat rt = record {
        ends = λ c. sym (no_holder (r.holder c) (r.ending c) (λ i m is. r.seated c i m is));
        hand = λ k. sym (no_hand (r.cells k) (r.handed k));
        told = λ saw. absurd (cc);
        rooted = λ _. fresh_root r.era rt;
        idle = λ z. absurd (omega arith);
      }

  -- in the last era one view made the finish
  last_made : (words : List ℕ) (views : List V) (holder : ℕ → Holder) (era : Era) → EraOk words views holder era → get_or words 0 0 ≡ 1 → total (λ u. u.made) views ≡ 1
  last_made words views holder unborn ok e = let z = ok.0 in absurd (omega arith)
  last_made words views holder running ok e = let z = ok.0 in absurd (omega arith)
  last_made words views holder finished ok e = ok.1

  -- the pass with every part reads the finish word
  pub settles : (n id : ℕ) (me : M) → me.0.parts ≢ 0 → Allows (Kept F born) n id me 0 (λ x. x) (settled (step n 0 0 0 none) me)
  settles n id me alive s r wide at _ = (
    read me.0 0 (get_or s.words 0 0),
    keeps,
    tt,
    loads_keep F born s r id 0 me.0 at alive,
    (
      (refl, refl),
      λ all saw. sym (total_alone (λ u. u.made) (λ u. u.parts) s.views id me.0 at (r.whole ∙ sym all) (λ i u is idle. ap (λ (y : V). y.made) ((r.each_seat i u is).idle idle)))
          ∙ last_made s.words s.views r.holder r.era r.era_ok ((r.each_seat id me.0 at).told saw),
    ),
  )

  pub starts_as : (ws : List ℕ) (count n : ℕ) (e : E) → ws ≡ replicate (count + 1) 0 → n ≡ count * 4 → F.owes born e → Kept F born (opening ws (replicate n None) (blank born))
  starts_as ws count n e is long owed = subst (λ (y : List ℕ × ℕ). Kept F born (opening y.0 (replicate y.1 None) (blank born))) (λ i. (sym is i, sym (long ∙ (let h : count * 4 ≡ 4 * count = omega arith in h)) i)) (starts count e owed)
