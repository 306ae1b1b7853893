-- What stays of the rule when a step moves one record and one seat.
use Rattle.tpal_machine.specs.declared.ends.End.{End}
use Rattle.tpal_machine.specs.declared.ends.End.TheVariants.{At}
use Rattle.tpal_machine.specs.declared.ends.SideName.TheVariants.{Left, Right}
use Rattle.join_records.specs.Ends.{code_of}
use Rattle.std.proofs.Common.{◌≡◌, ◌≢◌, ◌⊎◌, ℕ, ◌+◌, ◌*◌, ◌<◌, ◌≤◌, List, [], ◌∷◌, ◌++◌, length}
use Rattle.std.proofs.Common.{get_or, set, Bool, true, false, refl, sym, ap, ◌∙◌, subst, ⊎_elim}
use Rattle.std.proofs.Common.{arith, length-set, get_or-set_other}
use Rattle.std.proofs.lemmas.List.{set-get_or}
use mathlib.Core.Option.{some, none}
use mathlib.Core.Option as maybe
use mathlib.Core.Logic.{dite}
use native.Mathlib.Decide.{ℕ_discrete}
use lib.ListN.{get_elem?}
use Rattle.std.specs.Prelude.{Option, Some, None}
use Rattle.atomic_table.specs.Table.{State, Me, step, keeps, Allows}
use Rattle.atomic_table.proofs.Lists.{at_set}
use Rattle.join_records.specs.declared.slot.Item.{Item}
use Rattle.join_records.specs.declared.views.View.{View}
use Rattle.join_records.specs.Ends.{left_of, right_of}
use Rattle.join_records.specs.Rule.{Facts, Holder, nobody, seat, kept, RightSide, unclaimed, claimed}
use Rattle.join_records.specs.Rule.{arrived, Phase, free, taken, opened, met, Era, unborn, running}
use Rattle.join_records.specs.Rule.{finished, kind, hand_of, held_of, Rooted, KeepsEnd, NamesBelow}
use Rattle.join_records.specs.Rule.{CellOk, EraOk, SeatOk, Kept, LeftOk, RightOk, HasRest, HasSide}
use Rattle.join_records.specs.Rule.{Waits}
use Rattle.join_records.specs.Views.{saw_finish, read}
use Rattle.join_records.specs.Steps.{loaded}
use Rattle.join_records.proofs.Functions.{put, at_put, total_same, at_below, saw_more, pick_else}

module _ {R C D E : Type 0} (F : Facts R C D E) (born : C) where
  abbrev pub V : Type 0
  V = View C E

  abbrev pub S : Type 0
  S = Option (Item R C D)

  abbrev pub St : Type 0
  St = State S V

  abbrev pub M : Type 0
  M = Me S V

  -- what a seat may change of who has an end: it had it, or the rest of record k did, or nobody
  abbrev pub Loose : (ℕ → Phase) → ℕ → ℕ → ℕ → Holder → Type 0
  Loose cells n id k nobody = Unit {0}
  Loose cells n id k (seat j m) = (j ≡ id) × ((i : ℕ) (out : Bool) (up : End) → i < n → cells i ≢ met id out up)
  Loose cells n id k (kept i) = i ≡ k

  pub dead_loose : (cells : ℕ → Phase) (n id k : ℕ) (h : Holder) → kind h ≡ 0 → Loose cells n id k h
  dead_loose cells n id k nobody e = tt
  dead_loose cells n id k (seat i m) e = absurd (omega arith)
  dead_loose cells n id k (kept i) e = absurd (omega arith)

  -- a new view of one seat, with the same words, homes and records
  pub reviewed : (s : St) (r : Kept F born s) (id : ℕ) (v w : V) → get_elem? s.views id ≡ some v → w.parts ≡ v.parts → w.made ≡ v.made
      → SeatOk born s.words r.era r.root r.cells r.holder r.ending id w → Kept F born record { words = s.words; homes = s.homes; views = set s.views id w }
  reviewed s r id v w at parts made mine = record {
    count = r.count;
    root = r.root;
    era = r.era;
    cells = r.cells;
    holder = r.holder;
    ending = r.ending;
    owed = r.owed;
    wide = r.wide;
    slots = r.slots;
    whole = total_same (λ u. u.parts) s.views id v w at parts ∙ r.whole;
    era_ok = era_same r.era r.era_ok;
    root_is = r.root_is;
    each_cell = r.each_cell;
    each_seat = λ j u e. ⊎_elim
        (λ (x : (j ≡ id) × (w ≡ u)). subst (λ (y : ℕ × V). SeatOk born s.words r.era r.root r.cells r.holder r.ending y.0 y.1) (λ i. (sym x.0 i, x.1 i)) mine)
        (λ (x : (j ≢ id) × (get_elem? s.views j ≡ some u)). r.each_seat j u x.1)
        (at_set s.views id j w u e);
    keeps_end = r.keeps_end;
    seated = λ c j m e. subst (λ (n : ℕ). j < n) (sym (length-set s.views id w)) (r.seated c j m e);
    handed = λ k. subst (λ (n : ℕ). NamesBelow n (r.cells k)) (sym (length-set s.views id w)) (r.handed k);
    within = r.within;
  }
    where
      era_same : (era : Era) → EraOk s.words s.views r.holder era → EraOk s.words (set s.views id w) r.holder era
      era_same unborn ok = (ok.0, total_same (λ u. u.made) s.views id v w at made ∙ ok.1, ok.2, length-set s.views id w ∙ ok.3)
      era_same running ok = (ok.0, total_same (λ u. u.made) s.views id v w at made ∙ ok.1, ok.2)
      era_same finished ok = (ok.0, total_same (λ u. u.made) s.views id v w at made ∙ ok.1, ok.2)

  pub told_more : (words : List ℕ) (reads : List (ℕ × ℕ)) (i : ℕ) → (saw_finish reads ≡ true → get_or words 0 0 ≡ 1) → saw_finish (reads ++ (i, get_or words i 0) ∷ []) ≡ true → get_or words 0 0 ≡ 1
  told_more words reads i before saw = dite (ℕ_discrete (get_or words 0 0) 1) (λ e. e)
      (λ n. before (saw_more reads i (get_or words i 0) (λ z e. n (ap (λ (y : ℕ). get_or words y 0) (sym z) ∙ e)) saw))

  -- a seat's view has one more read
  pub read_more : (s : St) (r : Kept F born s) (id i : ℕ) (v : V) → get_elem? s.views id ≡ some v → v.parts ≢ 0 → SeatOk born s.words r.era r.root r.cells r.holder r.ending id (read v i (get_or s.words i 0))
  read_more s r id i v at alive = let ok = r.each_seat id v at in record {
    ends = ok.ends;
    hand = ok.hand;
    told = told_more s.words v.reads i ok.told;
    rooted = ok.rooted;
    idle = λ none. absurd (alive none);
  }

  -- where Root is held or kept, each seat knows what is owed there
  pub root_known : (s : St) (r : Kept F born s) (id : ℕ) (v : V) → get_elem? s.views id ≡ some v → v.parts ≢ 0 → kind (r.holder 0) ≢ 0 → v.root ≡ Some (r.ending 0)
  root_known s r id v at alive live = by_era r.era r.era_ok ((r.each_seat id v at).rooted alive) ∙ ap Some (sym r.root_is)
    where
      by_era : (era : Era) → EraOk s.words s.views r.holder era → Rooted born r.root era v.born v.root → v.root ≡ Some r.root
      by_era unborn ok is = absurd (live ok.2)
      by_era running ok is = is
      by_era finished ok is = is

  -- a load keeps the rule
  pub loads_keep : (s : St) (r : Kept F born s) (id i : ℕ) (v : V) → get_elem? s.views id ≡ some v → v.parts ≢ 0 → Kept F born record { words = set s.words i (get_or s.words i 0); homes = s.homes; views = set s.views id (read v i (get_or s.words i 0)) }
  loads_keep s r id i v at alive = subst (λ (ws : List ℕ). Kept F born record { words = ws; homes = s.homes; views = set s.views id (read v i (get_or s.words i 0)) }) (sym (set-get_or s.words i 0))
      (reviewed s r id v (read v i (get_or s.words i 0)) at refl refl (read_more s r id i v at alive))

  pub loads : (n id : ℕ) (me : M) (i : ℕ) → me.0.parts ≢ 0 → Allows (Kept F born) n id me i (λ x. x) (loaded (step n i 0 0 none) me)
  loads n id me i alive s r wide at _ = (read me.0 i (get_or s.words i 0), keeps, tt, loads_keep s r id i me.0 at alive, (refl, refl))

  module _ (s : St) (r : Kept F born s) (id k other : ℕ) (inside : other < r.count) (words' : List ℕ) (homes' : List (maybe.Option S)) (holder' : ℕ → Holder) (ending' : ℕ → E) (apart : other ≢ k)
      (word : get_or words' (other + 1) 0 ≡ get_or s.words (other + 1) 0)
      (home : (y : ℕ) → 4 * other ≤ y → y ≤ 4 * other + 3 → get_elem? homes' y ≡ get_elem? s.homes y)
      (changed : (c : ℕ) → ((holder' c ≡ r.holder c) × (ending' c ≡ r.ending c)) ⊎ (Loose r.cells r.count id k (r.holder c) × Loose r.cells r.count id k (holder' c)))
      (left_soft : (kind (holder' (left_of other)) ≡ kind (r.holder (left_of other))) × (ending' (left_of other) ≡ r.ending (left_of other)))
      (right_soft : (kind (holder' (right_of other)) ≡ kind (r.holder (right_of other))) × (ending' (right_of other) ≡ r.ending (right_of other))) where
    waits_stay : (x e : ℕ) → get_elem? homes' x ≡ get_elem? s.homes x → kind (holder' e) ≡ kind (r.holder e) → Waits F s.words s.homes r.holder r.ending other x e → Waits F words' homes' holder' ending' other x e
    waits_stay x e same soft' ok = ((λ z. ok.0 (sym soft' ∙ z)), λ z. same ∙ ok.1 (λ q. z (soft' ∙ q)))

    side_stays : (x : ℕ) (e : End) → get_elem? homes' x ≡ get_elem? s.homes x → ending' (code_of e) ≡ r.ending (code_of e) → HasSide F s.words s.homes r.holder r.ending other x e → HasSide F words' homes' holder' ending' other x e
    side_stays x e same was ok = (ok.0, same ∙ ok.1, subst (F.is_ending ok.0 e) (sym was) ok.2)

    left_stays : (l : Bool) → LeftOk F s.words s.homes r.holder r.ending other l → LeftOk F words' homes' holder' ending' other l
    left_stays false ok = waits_stay (4 * other + 2) (left_of other) (home (4 * other + 2) (omega arith) (omega arith)) left_soft.0 ok
    left_stays true ok = (left_soft.0 ∙ ok.0, side_stays (4 * other + 2) (At other Left) (home (4 * other + 2) (omega arith) (omega arith)) left_soft.1 ok.1)

    right_stays : (b : RightSide) → RightOk F s.words s.homes r.holder r.ending other b → RightOk F words' homes' holder' ending' other b
    right_stays unclaimed ok = (
      right_soft.0 ∙ ok.0,
      (ok.1.0, home (4 * other + 1) (omega arith) (omega arith) ∙ ok.1.1, ok.1.2, subst (F.owes ok.1.0) (sym right_soft.1) ok.1.3),
      home (4 * other + 3) (omega arith) (omega arith) ∙ ok.2,
    )
    right_stays claimed ok = (waits_stay (4 * other + 3) (right_of other) (home (4 * other + 3) (omega arith) (omega arith)) right_soft.0 ok.0, λ z. home (4 * other + 1) (omega arith) (omega arith) ∙ ok.1 (λ q. z (right_soft.0 ∙ q)))
    right_stays arrived ok = (
      right_soft.0 ∙ ok.0,
      home (4 * other + 1) (omega arith) (omega arith) ∙ ok.1,
      side_stays (4 * other + 3) (At other Right) (home (4 * other + 3) (omega arith) (omega arith)) right_soft.1 ok.2,
    )

    kept_stays : (up : ℕ) → r.holder up ≡ kept other → (holder' up ≡ kept other) × (ending' up ≡ r.ending up)
    kept_stays up is = ⊎_elim (λ same. (same.0 ∙ is, same.1)) (λ loose. absurd (apart (subst (Loose r.cells r.count id k) is loose.0))) (changed up)

    rest_stays : (up : End) → r.holder (code_of up) ≡ kept other → HasRest F s.words s.homes r.holder r.ending other up → HasRest F words' homes' holder' ending' other up
    rest_stays up is ok = let a : ending' (code_of up) ≡ r.ending (code_of up) = (kept_stays (code_of up) is).1 in (
      ok.0,
      home (4 * other) (omega arith) (omega arith) ∙ ok.1,
      ok.2,
      subst (λ (y : E × E × E). F.rest_owes ok.0 y.0 y.1 y.2) (λ i. (sym left_soft.1 i, sym right_soft.1 i, sym a i)) ok.3,
    )

    pub cell_stays : (ph : Phase) → r.cells other ≡ ph → CellOk F s.words s.homes r.holder r.ending other ph → CellOk F words' homes' holder' ending' other ph
    cell_stays free is ok = (
      word ∙ ok.0,
      (left_soft.0 ∙ ok.1.0, right_soft.0 ∙ ok.1.1),
      (
        home (4 * other) (omega arith) (omega arith) ∙ ok.2.0,
        home (4 * other + 1) (omega arith) (omega arith) ∙ ok.2.1,
        home (4 * other + 2) (omega arith) (omega arith) ∙ ok.2.2,
        home (4 * other + 3) (omega arith) (omega arith) ∙ ok.2.3,
      ),
    )
    cell_stays (taken i out) is ok = (
      word ∙ ok.0,
      (left_soft.0 ∙ ok.1.0, right_soft.0 ∙ ok.1.1),
      (
        (λ z. let e = ok.2.0 z in (home (4 * other) (omega arith) (omega arith) ∙ e.0, home (4 * other + 1) (omega arith) (omega arith) ∙ e.1)),
        home (4 * other + 2) (omega arith) (omega arith) ∙ ok.2.1,
        home (4 * other + 3) (omega arith) (omega arith) ∙ ok.2.2,
      ),
    )
    cell_stays (opened up l b) is ok = (word ∙ ok.0, (kept_stays (code_of up) ok.1).0, rest_stays up ok.1 ok.2, left_stays l ok.3, right_stays b ok.4, ok.5, ok.6)
    cell_stays (met i out up) is ok = (
      word ∙ ok.0,
      ⊎_elim (λ same. same.0 ∙ ok.1) (λ loose. let m = subst (Loose r.cells r.count id k) ok.1 loose.0 in absurd (m.1 other out up inside (is ∙ ap (λ (y : ℕ). met y out up) m.0))) (changed (code_of up)),
      (left_soft.0 ∙ ok.2.0, right_soft.0 ∙ ok.2.1),
      (
        (λ z. let e = ok.3.0 z in (
          home (4 * other) (omega arith) (omega arith) ∙ e.0,
          home (4 * other + 2) (omega arith) (omega arith) ∙ e.1,
          home (4 * other + 3) (omega arith) (omega arith) ∙ e.2,
        )),
        home (4 * other + 1) (omega arith) (omega arith) ∙ ok.3.1,
      ),
    )

  held_loose : (cells : ℕ → Phase) (n id k j : ℕ) (h : Holder) (e : E) → j ≢ id → Loose cells n id k h → held_of j h e ≡ None
  held_loose cells n id k j nobody e apart loose = refl
  held_loose cells n id k j (seat i m) e apart loose = pick_else i j (Some (e, m)) (λ z. apart (sym z ∙ loose.0))
  held_loose cells n id k j (kept i) e apart loose = refl

  -- a step on record k, by the seat id: the record's phase becomes ph, and the seat's view w
  pub moved : (s : St) (r : Kept F born s) (id k x : ℕ) (v w : V) (ph : Phase) (homes' : List (maybe.Option S)) (holder' : ℕ → Holder) (ending' : ℕ → E) → get_elem? s.views id ≡ some v → k < r.count
      → length homes' ≡ length s.homes → ((y : ℕ) → y ≢ 4 * k → y ≢ 4 * k + 1 → y ≢ 4 * k + 2 → y ≢ 4 * k + 3 → get_elem? homes' y ≡ get_elem? s.homes y) → w.parts ≡ v.parts → w.made ≡ v.made
      → ((c : ℕ) → ((holder' c ≡ r.holder c) × (ending' c ≡ r.ending c)) ⊎ (Loose r.cells r.count id k (r.holder c) × Loose r.cells r.count id k (holder' c)))
      → ((c : ℕ) → c ≢ left_of k → c ≢ right_of k → (kind (holder' c) ≡ kind (r.holder c)) × (ending' c ≡ r.ending c))
      → ((j : ℕ) → j ≢ id → hand_of j (r.cells k) ≡ hand_of j ph) → NamesBelow (length s.views) ph → ((c : ℕ) → holder' c ≡ kept k → KeepsEnd c ph)
      → CellOk F (set s.words (k + 1) x) homes' holder' ending' k ph → SeatOk born (set s.words (k + 1) x) r.era r.root (put r.cells k ph) holder' ending' id w
      → Kept F born record { words = set s.words (k + 1) x; homes = homes'; views = set s.views id w }
  moved s r id k x v w ph homes' holder' ending' at near long away parts made changed soft names below keep cell mine =
      let words' : List ℕ = set s.words (k + 1) x in let seats : length (set s.views id w) ≡ length s.views = length-set s.views id w in let soft0 = soft 0 (λ e. omega arith) (λ e. omega arith) in
      let word0 : get_or words' 0 0 ≡ get_or s.words 0 0 = get_or-set_other s.words (k + 1) 0 x 0 (λ e. omega arith) in record {
        count = r.count;
        root = r.root;
        era = r.era;
        cells = put r.cells k ph;
        holder = holder';
        ending = ending';
        owed = r.owed;
        wide = length-set s.words (k + 1) x ∙ r.wide;
        slots = long ∙ r.slots;
        whole = total_same (λ u. u.parts) s.views id v w at parts ∙ r.whole;
        era_ok = era_same word0 soft0.0 seats r.era r.era_ok;
        root_is = soft0.1 ∙ r.root_is;
        each_cell = λ i near'. at_put r.cells k ph (λ y a. CellOk F words' homes' holder' ending' y a) i cell
            (λ apart. cell_stays s r id k i near' words' homes' holder' ending' apart (get_or-set_other s.words (k + 1) (i + 1) x 0 (λ e. apart (omega arith)))
            (λ y lo hi. away y (λ e. apart (omega arith)) (λ e. apart (omega arith)) (λ e. apart (omega arith)) (λ e. apart (omega arith))) changed
            (soft (left_of i) (λ e. apart (omega arith)) (λ e. omega arith)) (soft (right_of i) (λ e. omega arith) (λ e. apart (omega arith))) (r.cells i) refl (r.each_cell i near'));
        each_seat = λ j u e. ⊎_elim
            (λ (y : (j ≡ id) × (w ≡ u)). subst (λ (z : ℕ × V). SeatOk born words' r.era r.root (put r.cells k ph) holder' ending' z.0 z.1) (λ i. (sym y.0 i, y.1 i)) mine)
            (λ (y : (j ≢ id) × (get_elem? s.views j ≡ some u)). other_seat word0 j u y.0 (r.each_seat j u y.1))
            (at_set s.views id j w u e);
        keeps_end = λ c i e. at_put r.cells k ph (λ y a. y ≡ i → (i < r.count) × KeepsEnd c a) i (λ z. (subst (λ (y : ℕ). y < r.count) z near, keep c (e ∙ ap kept (sym z))))
            (λ apart _. ⊎_elim (λ same. r.keeps_end c i (sym same.0 ∙ e)) (λ loose. absurd (apart (subst (Loose r.cells r.count id k) e loose.1))) (changed c)) refl;
        seated = λ c j m e. subst (λ (n : ℕ). j < n) (sym seats) (⊎_elim (λ same. r.seated c j m (sym same.0 ∙ e))
            (λ loose. subst (λ (y : ℕ). y < length s.views) (sym (subst (Loose r.cells r.count id k) e loose.1).0) (at_below s.views id v at)) (changed c));
        handed = λ i. subst (λ (n : ℕ). NamesBelow n (put r.cells k ph i)) (sym seats) (at_put r.cells k ph (λ y a. NamesBelow (length s.views) a) i below (λ _. r.handed i));
        within = λ c live. dite (ℕ_discrete c (left_of k)) (λ z. omega arith)
            (λ l. dite (ℕ_discrete c (right_of k)) (λ z. omega arith) (λ q. r.within c (λ z. live ((soft c l q).0 ∙ z))));
      }
    where
      era_same : get_or (set s.words (k + 1) x) 0 0 ≡ get_or s.words 0 0 → kind (holder' 0) ≡ kind (r.holder 0) → length (set s.views id w) ≡ length s.views
          → (era : Era) → EraOk s.words s.views r.holder era → EraOk (set s.words (k + 1) x) (set s.views id w) holder' era
      era_same word0 live seats unborn ok = (word0 ∙ ok.0, total_same (λ u. u.made) s.views id v w at made ∙ ok.1, live ∙ ok.2, seats ∙ ok.3)
      era_same word0 live seats running ok = (word0 ∙ ok.0, total_same (λ u. u.made) s.views id v w at made ∙ ok.1, λ z. ok.2 (sym live ∙ z))
      era_same word0 live seats finished ok = (word0 ∙ ok.0, total_same (λ u. u.made) s.views id v w at made ∙ ok.1, live ∙ ok.2)

      other_seat : get_or (set s.words (k + 1) x) 0 0 ≡ get_or s.words 0 0 → (j : ℕ) (u : V) → j ≢ id → SeatOk born s.words r.era r.root r.cells r.holder r.ending j u
          → SeatOk born (set s.words (k + 1) x) r.era r.root (put r.cells k ph) holder' ending' j u
      other_seat word0 j u apart ok = record {
        ends = λ c. ok.ends c ∙ ⊎_elim (λ same. λ i. held_of j (sym same.0 i) (sym same.1 i))
            (λ loose. held_loose r.cells r.count id k j (r.holder c) (r.ending c) apart loose.0 ∙ sym (held_loose r.cells r.count id k j (holder' c) (ending' c) apart loose.1)) (changed c);
        hand = λ i. ok.hand i ∙ at_put r.cells k ph (λ y a. y ≡ i → hand_of j (r.cells i) ≡ hand_of j a) i (λ z. ap (λ (y : ℕ). hand_of j (r.cells y)) (sym z) ∙ names j apart) (λ _ _. refl) refl;
        told = λ saw. word0 ∙ ok.told saw;
        rooted = ok.rooted;
        idle = ok.idle;
      }
