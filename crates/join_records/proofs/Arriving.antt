-- The steps by which a side arrives keep the rule.
use Rattle.tpal_machine.specs.declared.ends.End.{End}
use Rattle.tpal_machine.specs.declared.ends.End.TheVariants.{Root, At}
use Rattle.tpal_machine.specs.declared.ends.SideName.TheVariants.{Left, Right}
use Rattle.join_records.specs.declared.views.Grip.TheVariants.{Emptying}
use Rattle.join_records.specs.declared.views.CallState.TheVariants.{Steady, Arriving}
use Rattle.join_records.specs.Ends.{code_of}
use Rattle.std.proofs.Common.{◌≡◌, ◌≢◌, ◌⊎◌, ℕ, ◌+◌, ◌*◌, ◌<◌, ◌≤◌, ◌%◌, ◌/◌, List, [], ◌∷◌, length}
use Rattle.std.proofs.Common.{get_or, set, Bool, true, false, refl, sym, ap, ◌∙◌, subst, inl, inr}
use Rattle.std.proofs.Common.{⊎_elim, arith, length-set, get_or-set_same, get_or-set_other, ◌^◌}
use mathlib.Core.Option.{some, none}
use mathlib.Core.Option as maybe
use lib.ListN.{get_elem?}
use Rattle.std.specs.Prelude.{Option, Some, None}
use Rattle.atomic_table.specs.Table.{State, Me, step, Act, takes, gives, chain, Valid}
use Rattle.atomic_table.specs.Table.{carried_after, stepped, Allows}
use Rattle.atomic_table.proofs.Lists.{set_here, set_else}
use Rattle.join_records.specs.declared.slot.Item.{Item}
use Rattle.join_records.specs.declared.slot.Item.TheVariants.{Rest, Side}
use Rattle.join_records.specs.declared.views.View.{View}
use Rattle.join_records.specs.Ends.{left_of, right_of}
use Rattle.join_records.specs.Rule.{NotBoth, Facts, Holder, nobody, seat, kept, RightSide, unclaimed}
use Rattle.join_records.specs.Rule.{claimed, arrived, opened, kind, hand_of, KeepsEnd, CellOk, Kept}
use Rattle.join_records.specs.Rule.{RightOk, LeftOk, marks}
use Rattle.join_records.specs.Views.{read, with_hand, with_ends, holds_end, drop_record, NoneMet}
use Rattle.join_records.specs.Steps.{side_taken, arrived_at, side_arrived}
use Rattle.join_records.proofs.Functions.{put, put_here, put_else, hand_same, one_ending}
use Rattle.join_records.proofs.Frame.{Loose, told_more, root_known, moved}
use Rattle.std.specs.Prelude.{bit_or}
use Rattle.std.proofs.lemmas.Nat.{or_block}
use Rattle.std.specs.Int.Bits.{or_zero_r}
use Rattle.join_records.proofs.Opening.{end_held, no_met}
use Rattle.join_records.proofs.Turning.{left_kept, right_kept, left_live, right_live, was}
use Rattle.join_records.proofs.Turning.{turn_else, turn_changes, turn_softly, turn_kept, turn_up}
use Rattle.join_records.proofs.Turning.{turn_held, turn_gone, meets}

-- a word with one more bit
or_bit : (up r bit n : ℕ) → r < 32 → bit < 32 → bit_or r bit ≡ n → n < 32 → bit_or (r + 256 * up) bit ≡ n + 256 * up
or_bit up r bit n small low is near =
    let e : r + 256 * up ≡ 8 * up * 2 ^ 5 + r = omega arith in let z : bit ≡ 0 * 2 ^ 5 + bit = omega arith in
    (λ i. bit_or (e i) (z i)) ∙ or_block 5 (8 * up) 0 r bit small low ∙ (λ i. or_zero_r (8 * up) i * 2 ^ 5 + is i) ∙ (let q : 8 * up * 2 ^ 5 + n ≡ n + 256 * up = omega arith in q)

-- the bits 8 and 16 join the words of an open record
left_bit : (words : List ℕ) (k up : ℕ) (b : RightSide) → get_or words (k + 1) 0 ≡ 3 + 8 * 0 + marks b + 256 * up → bit_or (get_or words (k + 1) 0) 8 ≡ 11 + marks b + 256 * up
left_bit words k up unclaimed is = ap (λ (x : ℕ). bit_or x 8) is ∙ or_bit up 3 8 11 (omega arith) (omega arith) refl (omega arith)
left_bit words k up claimed is = ap (λ (x : ℕ). bit_or x 8) is ∙ or_bit up 7 8 15 (omega arith) (omega arith) refl (omega arith)
left_bit words k up arrived is = ap (λ (x : ℕ). bit_or x 8) is ∙ or_bit up 23 8 31 (omega arith) (omega arith) refl (omega arith)

module _ {R C D E : Type 0} (F : Facts R C D E) (born : C) where
  abbrev V : Type 0
  V = View C E

  abbrev S : Type 0
  S = Option (Item R C D)

  abbrev St : Type 0
  St = State S V

  abbrev M : Type 0
  M = Me S V

  -- the left side puts its outcome in, first
  module _ (s : St) (r : Kept F born s) (id k : ℕ) (up : End) (b : RightSide) (v : V) (e : E) (d : D) (at : get_elem? s.views id ≡ some v) (alive : v.parts ≢ 0) (below : k < r.count) (none_met : NoneMet v) (ends : v.ends ≡ holds_end (At k Left) e Arriving)
      (is : r.cells k ≡ opened up false b) (outcome : F.is_ending d (At k Left) e) (new : ℕ) (shows : new ≡ 11 + marks b + 256 * code_of up) (alone : NotBoth b true) where
    abbrev first_x : ℕ
    first_x = get_or s.words (k + 1) 0

    left_cell : CellOk F s.words s.homes r.holder r.ending k (opened up false b)
    left_cell = subst (CellOk F s.words s.homes r.holder r.ending k) is (r.each_cell k below)

    abbrev gone : ℕ → Holder
    gone = put r.holder (left_of k) nobody

    left_first : Kept F born record { words = set s.words (k + 1) new; homes = set s.homes (4 * k + 2) (some (Some (Side d))); views = set s.views id (with_ends (read v (k + 1) first_x) []) }
    left_first = let ok = r.each_seat id v at in let wide : length s.words ≡ r.count + 1 = r.wide in let slots : length s.homes ≡ 4 * r.count = r.slots in let put_side : List (maybe.Option S) = set s.homes (4 * k + 2) (some (Some (Side d))) in
        let unmet = no_met F born s r id v at none_met in let unkept = (λ (i : ℕ). nobody_kept i) in let w = was F born s r id k v e (At k Left) Arriving at ends (inl refl) unmet nobody tt unkept in
        let else = turn_else F born s r id k v e (At k Left) Arriving at ends (inl refl) unmet nobody tt unkept in let upward = turn_up F born s r id k v e (At k Left) Arriving at ends (inl refl) unmet nobody tt unkept (code_of up) k left_cell.1 in
        moved F born s r id k new v (with_ends (read v (k + 1) first_x) []) (opened up true b) put_side gone r.ending at below (length-set s.homes (4 * k + 2) (some (Some (Side d)))) (λ y _ _ q _. set_else s.homes (4 * k + 2) y (some (Some (Side d))) q) refl refl
        (turn_changes F born s r id k v e (At k Left) Arriving at ends (inl refl) unmet nobody tt unkept) (turn_softly F born s r id k v e (At k Left) Arriving at ends (inl refl) unmet nobody tt unkept)
        (λ j _. ap (hand_of j) is) tt (λ y z. subst (KeepsEnd y) is (r.keeps_end y k (turn_kept F born s r id k v e (At k Left) Arriving at ends (inl refl) unmet nobody tt unkept y k z)).1) (
          get_or-set_same s.words (k + 1) new 0 (omega arith) ∙ (shows ∙ (omega arith)),
          upward.1,
          (left_cell.2.0, set_else s.homes (4 * k + 2) (4 * k) (some (Some (Side d))) (λ q. omega arith) ∙ left_cell.2.1, left_cell.2.2, left_cell.2.3),
          (ap kind (put_here r.holder (left_of k) nobody), (d, set_here s.homes (4 * k + 2) (some (Some (Side d))) (omega arith), subst (F.is_ending d (At k Left)) (sym w.1) outcome)),
          right_kept F born s.words (set s.words (k + 1) new) s.homes put_side r.holder gone r.ending r.ending k (set_else s.homes (4 * k + 2) (4 * k + 1) (some (Some (Side d))) (λ q. omega arith)) (set_else s.homes (4 * k + 2) (4 * k + 3) (some (Some (Side d))) (λ q. omega arith))
              (else (right_of k) (λ q. omega arith)) refl b left_cell.4,
          left_cell.5,
          alone,
        )
        record {
          ends = turn_gone F born s r id k v e (At k Left) Arriving at ends (inl refl) unmet nobody tt unkept refl;
          hand = hand_same r.cells id k v.hand ok.hand (opened up true b) (ap (hand_of id) is);
          told = λ saw. get_or-set_other s.words (k + 1) 0 new 0 (λ z. omega arith) ∙ told_more F born s.words v.reads (k + 1) ok.told saw;
          rooted = ok.rooted;
          idle = λ z. absurd (alive z);
        }
      where
        nobody_kept : (i : ℕ) → nobody ≡ kept i → ⊥
        nobody_kept i z = cc

  -- the right side puts its outcome in, first
  module _ (s : St) (r : Kept F born s) (id k : ℕ) (up : End) (v : V) (e : E) (d : D) (at : get_elem? s.views id ≡ some v) (alive : v.parts ≢ 0) (below : k < r.count) (none_met : NoneMet v) (ends : v.ends ≡ holds_end (At k Right) e Arriving)
      (is : r.cells k ≡ opened up false claimed) (outcome : F.is_ending d (At k Right) e) (new : ℕ) (shows : new ≡ 23 + 256 * code_of up) where
    abbrev second_x : ℕ
    second_x = get_or s.words (k + 1) 0

    right_cell : CellOk F s.words s.homes r.holder r.ending k (opened up false claimed)
    right_cell = subst (CellOk F s.words s.homes r.holder r.ending k) is (r.each_cell k below)

    abbrev left : ℕ → Holder
    left = put r.holder (right_of k) nobody

    right_first : Kept F born record { words = set s.words (k + 1) new; homes = set s.homes (4 * k + 3) (some (Some (Side d))); views = set s.views id (with_ends (read v (k + 1) second_x) []) }
    right_first = let ok = r.each_seat id v at in let wide : length s.words ≡ r.count + 1 = r.wide in let slots : length s.homes ≡ 4 * r.count = r.slots in let put_side : List (maybe.Option S) = set s.homes (4 * k + 3) (some (Some (Side d))) in
        let unmet = no_met F born s r id v at none_met in let w = was F born s r id k v e (At k Right) Arriving at ends (inr refl) unmet nobody tt nobody_kept in
        let else = turn_else F born s r id k v e (At k Right) Arriving at ends (inr refl) unmet nobody tt nobody_kept in let upward = turn_up F born s r id k v e (At k Right) Arriving at ends (inr refl) unmet nobody tt nobody_kept (code_of up) k right_cell.1 in
        moved F born s r id k new v (with_ends (read v (k + 1) second_x) []) (opened up false arrived) put_side left r.ending at below (length-set s.homes (4 * k + 3) (some (Some (Side d)))) (λ y _ _ _ q. set_else s.homes (4 * k + 3) y (some (Some (Side d))) q) refl refl
        (turn_changes F born s r id k v e (At k Right) Arriving at ends (inr refl) unmet nobody tt nobody_kept) (turn_softly F born s r id k v e (At k Right) Arriving at ends (inr refl) unmet nobody tt nobody_kept)
        (λ j _. ap (hand_of j) is) tt (λ y z. subst (KeepsEnd y) is (r.keeps_end y k (turn_kept F born s r id k v e (At k Right) Arriving at ends (inr refl) unmet nobody tt nobody_kept y k z)).1) (
          get_or-set_same s.words (k + 1) new 0 (omega arith) ∙ (shows ∙ (omega arith)),
          upward.1,
          (right_cell.2.0, set_else s.homes (4 * k + 3) (4 * k) (some (Some (Side d))) (λ q. omega arith) ∙ right_cell.2.1, right_cell.2.2, right_cell.2.3),
          left_kept F born s.words (set s.words (k + 1) new) s.homes put_side r.holder left r.ending r.ending k (set_else s.homes (4 * k + 3) (4 * k + 2) (some (Some (Side d))) (λ q. omega arith)) (else (left_of k) (λ q. omega arith)) refl false right_cell.3,
          (
            ap kind (put_here r.holder (right_of k) nobody),
            set_else s.homes (4 * k + 3) (4 * k + 1) (some (Some (Side d))) (λ q. omega arith) ∙ right_cell.4.1 (λ z. let t = ap kind w.0 in omega arith),
            (d, set_here s.homes (4 * k + 3) (some (Some (Side d))) (omega arith), subst (F.is_ending d (At k Right)) (sym w.1) outcome),
          ),
          right_cell.5,
          tt,
        )
        record {
          ends = turn_gone F born s r id k v e (At k Right) Arriving at ends (inr refl) unmet nobody tt nobody_kept refl;
          hand = hand_same r.cells id k v.hand ok.hand (opened up false arrived) (ap (hand_of id) is);
          told = λ saw. get_or-set_other s.words (k + 1) 0 new 0 (λ z. omega arith) ∙ told_more F born s.words v.reads (k + 1) ok.told saw;
          rooted = ok.rooted;
          idle = λ z. absurd (alive z);
        }
      where
        nobody_kept : (i : ℕ) → nobody ≡ kept i → ⊥
        nobody_kept i z = cc

  -- an end that a rest keeps is Root or an end of one of the records
  kept_within : (s : St) (r : Kept F born s) (k c : ℕ) → r.holder c ≡ kept k → c ≤ 2 * r.count
  kept_within s r k c is = r.within c (λ z. let t = ap kind is in omega arith)

  -- and where it is Root, each seat knows what is owed there
  kept_root : (s : St) (r : Kept F born s) (id k : ℕ) (up : End) (v : V) → get_elem? s.views id ≡ some v → v.parts ≢ 0 → r.holder (code_of up) ≡ kept k → up ≡ Root → v.root ≡ Some (r.ending (code_of up))
  kept_root s r id k up v at alive is root =
      let zero : code_of up ≡ 0 = ap code_of root in
      root_known F born s r id v at alive (λ z. let t = ap kind (ap r.holder (sym zero) ∙ is) in omega arith) ∙ ap (λ (c : ℕ). Some (r.ending c)) (sym zero)

  -- two slots of a record come to a seat
  two_out_long : (homes : List (maybe.Option S)) (i j : ℕ) → length (set (set homes i none) j none) ≡ length homes
  two_out_long homes i j = length-set (set homes i none) j none ∙ length-set homes i none

  two_out : (homes : List (maybe.Option S)) (i j y : ℕ) → y ≢ i → y ≢ j → get_elem? (set (set homes i none) j none) y ≡ get_elem? homes y
  two_out homes i j y a b = set_else (set homes i none) j y none b ∙ set_else homes i y none a

  pub arrives_left : (n id : ℕ) (me : M) (k : ℕ) (e : E) (d : D) (c : List (ℕ × S)) → me.0.parts ≢ 0 → 4 * k < n → NoneMet me.0 → me.0.ends ≡ holds_end (At k Left) e Arriving → me.1 ≡ (4 * k + 2, Some (Side d)) ∷ c → F.is_ending d (At k Left) e
      → Allows (Kept F born) n id me (k + 1) (λ y. bit_or y 8) (side_arrived F.keeps F.rest_owes F.is_ending Left (step n (k + 1) 8 0 none) me)
  arrives_left n id me k e d c alive near none_met ends carried outcome s r wide at _ =
      let below : k < r.count = (let sl = r.slots in omega arith) in let v : V = me.0 in let held = end_held F born s r id v at (At k Left) Arriving e ends in
      let live = left_live F born s.words s.homes r.holder r.ending k (r.cells k) (r.each_cell k below) (λ z. let t = ap kind held.0 in omega arith) in go below live.0 live.1 live.2
    where
      x : ℕ
      x = get_or s.words (k + 1) 0

      told : (i : ℕ) (e' : E) (u : V) (l : List (ℕ × S)) → arrived_at F.keeps F.rest_owes F.is_ending Left n me x (u, l) k e → k + 1 ≡ i + 1 → me.0.ends ≡ holds_end (At i Left) e' Arriving → arrived_at F.keeps F.rest_owes F.is_ending Left n me x (u, l) i e'
      told i e' u l here same ends' = let is : k ≡ i = omega arith in subst (λ (p : ℕ × E). arrived_at F.keeps F.rest_owes F.is_ending Left n me x (u, l) p.0 p.1) (λ t. (is t, one_ending (sym ends ∙ ends') t)) here

      first : k < r.count → (up : End) (b : RightSide) → r.cells k ≡ opened up false b → x / 16 % 2 ≡ 0 → NotBoth b true → (w : V) × (act : Act S) × Valid s.homes me.1 act × Kept F born (stepped s (k + 1) (bit_or x 8) id me.1 w act) × side_arrived F.keeps F.rest_owes F.is_ending Left (step n (k + 1) 8 0 none) me x (w, carried_after me.1 act)
      first below up b is lacks alone = let v : V = me.0 in let cell = subst (CellOk F s.words s.homes r.holder r.ending k) is (r.each_cell k below) in (
        with_ends (read v (k + 1) x) [],
        gives,
        tt,
        subst (λ (y : List (ℕ × S)). Kept F born (stepped s (k + 1) (bit_or x 8) id y (with_ends (read v (k + 1) x) []) gives)) (sym carried)
            (left_first s r id k up b v e d at alive below none_met ends is outcome (bit_or x 8) (left_bit s.words k (code_of up) b cell.0) alone),
        (λ i e' same ends'. told i e' (with_ends (read v (k + 1) x) []) (carried_after me.1 gives) ((λ _. (refl, refl)), λ not. absurd (not lacks)) same ends'),
      )

      second : k < r.count → (up : End) → r.cells k ≡ opened up false arrived → (w : V) × (act : Act S) × Valid s.homes me.1 act × Kept F born (stepped s (k + 1) (bit_or x 8) id me.1 w act) × side_arrived F.keeps F.rest_owes F.is_ending Left (step n (k + 1) 8 0 none) me x (w, carried_after me.1 act)
      second below up is = let v : V = me.0 in let cell = subst (CellOk F s.words s.homes r.holder r.ending k) is (r.each_cell k below) in let homes' : List (maybe.Option S) = set (set s.homes (4 * k + 3) none) (4 * k) none in
          let unmet = no_met F born s r id v at none_met in let held = end_held F born s r id v at (At k Left) Arriving e ends in
          let dead = (λ (y : ℕ) (which : (y ≡ left_of k) ⊎ (y ≡ right_of k)) (n : y ≢ left_of k). ⊎_elim (λ (w : y ≡ left_of k). absurd (n w)) (λ (w : y ≡ right_of k). ap (λ (q : ℕ). kind (r.holder q)) w ∙ cell.4.0) which) in
          let act : Act S = chain (takes (4 * k + 3) (Some (Side cell.4.2.0))) (takes (4 * k) (Some (Rest cell.2.0))) in let u : V = with_hand (with_ends (read v (k + 1) x) (holds_end up (r.ending (code_of up)) Steady)) ((k, Emptying up) ∷ drop_record k v.hand) in (
            u,
            act,
            (cell.4.2.1, set_else s.homes (4 * k + 3) (4 * k) none (λ q. omega arith) ∙ cell.2.1),
            meets F born s r id k up false arrived v e (At k Left) Arriving (bit_or x 8) homes' at alive below ends (inl refl) unmet is dead (two_out_long s.homes (4 * k + 3) (4 * k)) (λ y a _ _ q. two_out s.homes (4 * k + 3) (4 * k) y q a)
                (two_out s.homes (4 * k + 3) (4 * k) (4 * k + 1) (λ q. omega arith) (λ q. omega arith) ∙ cell.4.1) (left_bit s.words k (code_of up) arrived cell.0),
            (λ i e' same ends'. told i e' u (carried_after me.1 act) (
              (λ lacks. let is' = cell.0 in absurd (omega arith)),
              λ _. (cell.2.0, cell.4.2.0, r.ending (right_of k), r.ending (code_of up), up, (let is' = cell.0 in omega arith), cell.2.2, subst (λ (y : E). F.rest_owes cell.2.0 y (r.ending (right_of k)) (r.ending (code_of up))) held.1 cell.2.3, cell.4.2.2, (let near_up = kept_within s r k (code_of up) cell.1 in let sl = r.slots in omega arith), kept_root s r id k up v at alive cell.1, refl, refl),
            ) same ends'),
          )

      go : k < r.count → (up : End) (b : RightSide) → r.cells k ≡ opened up false b
          → (w : V) × (act : Act S) × Valid s.homes me.1 act × Kept F born (stepped s (k + 1) (bit_or (get_or s.words (k + 1) 0) 8) id me.1 w act) × side_arrived F.keeps F.rest_owes F.is_ending Left (step n (k + 1) 8 0 none) me (get_or s.words (k + 1) 0) (w, carried_after me.1 act)
      go below up unclaimed is = let cell = subst (CellOk F s.words s.homes r.holder r.ending k) is (r.each_cell k below) in let shows = cell.0 in first below up unclaimed is (omega arith) tt
      go below up claimed is = let cell = subst (CellOk F s.words s.homes r.holder r.ending k) is (r.each_cell k below) in let shows = cell.0 in first below up claimed is (omega arith) tt
      go below up arrived is = second below up is

  pub arrives_right : (n id : ℕ) (me : M) (k : ℕ) (e : E) (d : D) (c : List (ℕ × S)) → me.0.parts ≢ 0 → 4 * k < n → NoneMet me.0 → me.0.ends ≡ holds_end (At k Right) e Arriving → me.1 ≡ (4 * k + 3, Some (Side d)) ∷ c → F.is_ending d (At k Right) e
      → Allows (Kept F born) n id me (k + 1) (λ y. bit_or y 16) (side_arrived F.keeps F.rest_owes F.is_ending Right (step n (k + 1) 16 0 none) me)
  arrives_right n id me k e d c alive near none_met ends carried outcome s r wide at _ =
      let below : k < r.count = (let sl = r.slots in omega arith) in let v : V = me.0 in let held = end_held F born s r id v at (At k Right) Arriving e ends in
      let live = right_live F born s.words s.homes r.holder r.ending k (r.cells k) (r.each_cell k below) (λ z. let t = ap kind held.0 in omega arith) in go below live.0 live.1 live.2
    where
      x : ℕ
      x = get_or s.words (k + 1) 0

      told : (i : ℕ) (e' : E) (u : V) (l : List (ℕ × S)) → arrived_at F.keeps F.rest_owes F.is_ending Right n me x (u, l) k e → k + 1 ≡ i + 1 → me.0.ends ≡ holds_end (At i Right) e' Arriving → arrived_at F.keeps F.rest_owes F.is_ending Right n me x (u, l) i e'
      told i e' u l here same ends' = let is : k ≡ i = omega arith in subst (λ (p : ℕ × E). arrived_at F.keeps F.rest_owes F.is_ending Right n me x (u, l) p.0 p.1) (λ t. (is t, one_ending (sym ends ∙ ends') t)) here

      first : k < r.count → (up : End) → r.cells k ≡ opened up false claimed → (w : V) × (act : Act S) × Valid s.homes me.1 act × Kept F born (stepped s (k + 1) (bit_or x 16) id me.1 w act) × side_arrived F.keeps F.rest_owes F.is_ending Right (step n (k + 1) 16 0 none) me x (w, carried_after me.1 act)
      first below up is = let v : V = me.0 in let cell = subst (CellOk F s.words s.homes r.holder r.ending k) is (r.each_cell k below) in let shows = cell.0 in let new : bit_or x 16 ≡ 23 + 256 * code_of up = ap (λ (y : ℕ). bit_or y 16) shows ∙ or_bit (code_of up) 7 16 23 (omega arith) (omega arith) refl (omega arith) in (
        with_ends (read v (k + 1) x) [],
        gives,
        tt,
        subst (λ (y : List (ℕ × S)). Kept F born (stepped s (k + 1) (bit_or x 16) id y (with_ends (read v (k + 1) x) []) gives)) (sym carried)
            (right_first s r id k up v e d at alive below none_met ends is outcome (bit_or x 16) new),
        (λ i e' same ends'. told i e' (with_ends (read v (k + 1) x) []) (carried_after me.1 gives) ((λ _. (refl, refl)), λ not. absurd (not (omega arith))) same ends'),
      )

      second : k < r.count → (up : End) → r.cells k ≡ opened up true claimed → (w : V) × (act : Act S) × Valid s.homes me.1 act × Kept F born (stepped s (k + 1) (bit_or x 16) id me.1 w act) × side_arrived F.keeps F.rest_owes F.is_ending Right (step n (k + 1) 16 0 none) me x (w, carried_after me.1 act)
      second below up is = let v : V = me.0 in let cell = subst (CellOk F s.words s.homes r.holder r.ending k) is (r.each_cell k below) in let homes' : List (maybe.Option S) = set (set s.homes (4 * k + 2) none) (4 * k) none in
          let shows = cell.0 in let new : bit_or x 16 ≡ 31 + 256 * code_of up = ap (λ (y : ℕ). bit_or y 16) shows ∙ or_bit (code_of up) 15 16 31 (omega arith) (omega arith) refl (omega arith) in
          let unmet = no_met F born s r id v at none_met in let held = end_held F born s r id v at (At k Right) Arriving e ends in
          let dead = (λ (y : ℕ) (which : (y ≡ left_of k) ⊎ (y ≡ right_of k)) (n : y ≢ right_of k). ⊎_elim (λ (w : y ≡ left_of k). ap (λ (q : ℕ). kind (r.holder q)) w ∙ cell.3.0) (λ (w : y ≡ right_of k). absurd (n w)) which) in
          let act : Act S = chain (takes (4 * k + 2) (Some (Side cell.3.1.0))) (takes (4 * k) (Some (Rest cell.2.0))) in let u : V = with_hand (with_ends (read v (k + 1) x) (holds_end up (r.ending (code_of up)) Steady)) ((k, Emptying up) ∷ drop_record k v.hand) in (
            u,
            act,
            (cell.3.1.1, set_else s.homes (4 * k + 2) (4 * k) none (λ q. omega arith) ∙ cell.2.1),
            meets F born s r id k up true claimed v e (At k Right) Arriving (bit_or x 16) homes' at alive below ends (inr refl) unmet is dead (two_out_long s.homes (4 * k + 2) (4 * k)) (λ y a _ q _. two_out s.homes (4 * k + 2) (4 * k) y q a)
                (two_out s.homes (4 * k + 2) (4 * k) (4 * k + 1) (λ q. omega arith) (λ q. omega arith) ∙ cell.4.1 (λ z. let t = ap kind held.0 in omega arith)) new,
            (λ i e' same ends'. told i e' u (carried_after me.1 act) (
              (λ lacks. absurd (omega arith)),
              λ _. (cell.2.0, cell.3.1.0, r.ending (left_of k), r.ending (code_of up), up, (let is' = cell.0 in omega arith), cell.2.2, subst (λ (y : E). F.rest_owes cell.2.0 (r.ending (left_of k)) y (r.ending (code_of up))) held.1 cell.2.3, cell.3.1.2, (let near_up = kept_within s r k (code_of up) cell.1 in let sl = r.slots in omega arith), kept_root s r id k up v at alive cell.1, refl, refl),
            ) same ends'),
          )

      go : k < r.count → (up : End) (b : Bool) → r.cells k ≡ opened up b claimed → (w : V) × (act : Act S) × Valid s.homes me.1 act × Kept F born (stepped s (k + 1) (bit_or x 16) id me.1 w act) × side_arrived F.keeps F.rest_owes F.is_ending Right (step n (k + 1) 16 0 none) me x (w, carried_after me.1 act)
      go below up false is = first below up is
      go below up true is = second below up is

  -- the slot of a side's outcome comes to the seat that has the side's end
  module _ (s : St) (r : Kept F born s) (id k : ℕ) (up : End) (l : Bool) (b : RightSide) (v : V) (e : E) (c : End) (slot : ℕ) (at : get_elem? s.views id ≡ some v) (alive : v.parts ≢ 0) (below : k < r.count) (none_met : NoneMet v) (ends : v.ends ≡ holds_end c e Steady)
      (side : (code_of c ≡ left_of k) ⊎ (code_of c ≡ right_of k)) (is : r.cells k ≡ opened up l b) (own : (slot ≢ 4 * k) × (slot ≢ 4 * k + 1)) (away : (y : ℕ) → y ≢ 4 * k → y ≢ 4 * k + 1 → y ≢ 4 * k + 2 → y ≢ 4 * k + 3 → y ≢ slot)
      (sides : LeftOk F (set s.words (k + 1) (get_or s.words (k + 1) 0)) (set s.homes slot none) (put r.holder (code_of c) (seat id Arriving)) r.ending k l × RightOk F (set s.words (k + 1) (get_or s.words (k + 1) 0)) (set s.homes slot none) (put r.holder (code_of c) (seat id Arriving)) r.ending k b) where
    side_keeps : Kept F born record { words = set s.words (k + 1) (get_or s.words (k + 1) 0); homes = set s.homes slot none; views = set s.views id (with_ends (read v (k + 1) (get_or s.words (k + 1) 0)) (holds_end c e Arriving)) }
    side_keeps = let ok = r.each_seat id v at in let wide : length s.words ≡ r.count + 1 = r.wide in let x : ℕ = get_or s.words (k + 1) 0 in let cell = subst (CellOk F s.words s.homes r.holder r.ending k) is (r.each_cell k below) in
        let unmet = no_met F born s r id v at none_met in let loose : Loose F born r.cells r.count id k (seat id Arriving) = (refl, unmet) in
        moved F born s r id k x v (with_ends (read v (k + 1) x) (holds_end c e Arriving)) (opened up l b) (set s.homes slot none) (put r.holder (code_of c) (seat id Arriving)) r.ending at below (length-set s.homes slot none) (λ y p q t u. set_else s.homes slot y none (away y p q t u)) refl refl
        (turn_changes F born s r id k v e c Steady at ends side unmet (seat id Arriving) loose seat_kept) (turn_softly F born s r id k v e c Steady at ends side unmet (seat id Arriving) loose seat_kept)
        (λ j _. ap (hand_of j) is) tt (λ y z. subst (KeepsEnd y) is (r.keeps_end y k (turn_kept F born s r id k v e c Steady at ends side unmet (seat id Arriving) loose seat_kept y k z)).1) (
          get_or-set_same s.words (k + 1) x 0 (omega arith) ∙ cell.0,
          (turn_up F born s r id k v e c Steady at ends side unmet (seat id Arriving) loose seat_kept (code_of up) k cell.1).1,
          (cell.2.0, set_else s.homes slot (4 * k) none (λ q. own.0 (sym q)) ∙ cell.2.1, cell.2.2, cell.2.3),
          sides.0,
          sides.1,
          cell.5,
          cell.6,
        )
        record {
          ends = turn_held F born s r id k v e c Steady at ends side unmet (seat id Arriving) loose seat_kept Arriving refl;
          hand = hand_same r.cells id k v.hand ok.hand (opened up l b) (ap (hand_of id) is);
          told = λ saw. get_or-set_other s.words (k + 1) 0 x 0 (λ z. omega arith) ∙ told_more F born s.words v.reads (k + 1) ok.told saw;
          rooted = ok.rooted;
          idle = λ z. absurd (alive z);
        }
      where
        seat_kept : (i : ℕ) → seat id Arriving ≡ kept i → ⊥
        seat_kept i z = cc

  pub takes_left : (n id : ℕ) (me : M) (k : ℕ) (e : E) → me.0.parts ≢ 0 → 4 * k < n → NoneMet me.0 → me.0.ends ≡ holds_end (At k Left) e Steady → Allows (Kept F born) n id me (k + 1) (λ y. y) (side_taken Left (step n (k + 1) 0 0 none) me)
  takes_left n id me k e alive near none_met ends s r wide at _ = let below : k < r.count = (let sl = r.slots in omega arith) in let v : V = me.0 in let x : ℕ = get_or s.words (k + 1) 0 in let held = end_held F born s r id v at (At k Left) Steady e ends in
      let live = left_live F born s.words s.homes r.holder r.ending k (r.cells k) (r.each_cell k below) (λ z. let t = ap kind held.0 in omega arith) in let b : RightSide = live.1 in
      let cell = subst (CellOk F s.words s.homes r.holder r.ending k) live.2 (r.each_cell k below) in let here = put_here r.holder (left_of k) (seat id Arriving) in (
        with_ends (read v (k + 1) x) (holds_end (At k Left) e Arriving),
        takes (4 * k + 2) None,
        cell.3.1 (λ z. let t = ap kind held.0 in omega arith),
        side_keeps s r id k live.0 false b v e (At k Left) (4 * k + 2) at alive below none_met ends (inl refl) live.2 ((λ q. omega arith), λ q. omega arith) (λ y _ _ q _. q) (
          ((λ z. let t = ap kind here in omega arith), λ z. absurd (z (ap kind here))),
          right_kept F born s.words (set s.words (k + 1) x) s.homes (set s.homes (4 * k + 2) none) r.holder (put r.holder (left_of k) (seat id Arriving)) r.ending r.ending k (set_else s.homes (4 * k + 2) (4 * k + 1) none (λ q. omega arith))
              (set_else s.homes (4 * k + 2) (4 * k + 3) none (λ q. omega arith)) (put_else r.holder (left_of k) (seat id Arriving) (right_of k) (λ q. omega arith)) refl b cell.4,
        ),
        (λ i d same ends'. let is : k ≡ i = omega arith in ((λ t. with_ends (read v (is t + 1) x) (holds_end (At (is t) Left) (one_ending (sym ends ∙ ends') t) Arriving)), ap (λ (y : ℕ). (4 * y + 2, None) ∷ me.1) is)),
      )

  pub takes_right : (n id : ℕ) (me : M) (k : ℕ) (e : E) → me.0.parts ≢ 0 → 4 * k < n → NoneMet me.0 → me.0.ends ≡ holds_end (At k Right) e Steady → Allows (Kept F born) n id me (k + 1) (λ y. y) (side_taken Right (step n (k + 1) 0 0 none) me)
  takes_right n id me k e alive near none_met ends s r wide at _ = let below : k < r.count = (let sl = r.slots in omega arith) in let v : V = me.0 in let x : ℕ = get_or s.words (k + 1) 0 in let held = end_held F born s r id v at (At k Right) Steady e ends in
      let live = right_live F born s.words s.homes r.holder r.ending k (r.cells k) (r.each_cell k below) (λ z. let t = ap kind held.0 in omega arith) in let l : Bool = live.1 in
      let cell = subst (CellOk F s.words s.homes r.holder r.ending k) live.2 (r.each_cell k below) in let here = put_here r.holder (right_of k) (seat id Arriving) in (
        with_ends (read v (k + 1) x) (holds_end (At k Right) e Arriving),
        takes (4 * k + 3) None,
        cell.4.0.1 (λ z. let t = ap kind held.0 in omega arith),
        side_keeps s r id k live.0 l claimed v e (At k Right) (4 * k + 3) at alive below none_met ends (inr refl) live.2 ((λ q. omega arith), λ q. omega arith) (λ y _ _ _ q. q) (
          left_kept F born s.words (set s.words (k + 1) x) s.homes (set s.homes (4 * k + 3) none) r.holder (put r.holder (right_of k) (seat id Arriving)) r.ending r.ending k (set_else s.homes (4 * k + 3) (4 * k + 2) none (λ q. omega arith))
              (put_else r.holder (right_of k) (seat id Arriving) (left_of k) (λ q. omega arith)) refl l cell.3,
          (
            ((λ z. let t = ap kind here in omega arith), λ z. absurd (z (ap kind here))),
            λ _. set_else s.homes (4 * k + 3) (4 * k + 1) none (λ q. omega arith) ∙ cell.4.1 (λ z. let t = ap kind held.0 in omega arith),
          ),
        ),
        (λ i d same ends'. let is : k ≡ i = omega arith in ((λ t. with_ends (read v (is t + 1) x) (holds_end (At (is t) Right) (one_ending (sym ends ∙ ends') t) Arriving)), ap (λ (y : ℕ). (4 * y + 3, None) ∷ me.1) is)),
      )
