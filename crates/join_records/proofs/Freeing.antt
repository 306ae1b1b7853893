-- The steps that give a met record back, and the finish, keep the rule.
use Rattle.tpal_machine.specs.declared.ends.End.{End}
use Rattle.tpal_machine.specs.declared.ends.End.TheVariants.{Root}
use Rattle.join_records.specs.declared.views.Grip.TheVariants.{Emptying, Emptied}
use Rattle.join_records.specs.declared.views.CallState.{CallState}
use Rattle.join_records.specs.declared.views.CallState.TheVariants.{Steady}
use Rattle.join_records.specs.Ends.{code_of}
use Rattle.std.proofs.Common.{◌≡◌, ◌≢◌, ◌⊎◌, ℕ, ◌+◌, ◌*◌, ◌<◌, ◌≤◌, eqb, List, [], ◌∷◌, length}
use Rattle.std.proofs.Common.{get_or, set, false, refl, sym, ap, ◌∙◌, subst, inl, inr, ⊎_elim}
use Rattle.std.proofs.Common.{arith, length-set, get_or-set_same, get_or-set_other}
use mathlib.Core.Option.{some, none}
use mathlib.Core.Option as maybe
use mathlib.Core.Logic.{dite}
use native.Mathlib.Decide.{ℕ_discrete}
use prog.Atomic.{either}
use lib.ListN.{get_elem?}
use Rattle.std.specs.Prelude.{Option, Some, None}
use Rattle.atomic_table.specs.Table.{State, Me, step, Act, keeps, gives, chain, Valid}
use Rattle.atomic_table.specs.Table.{carried_after, stepped, Allows}
use Rattle.atomic_table.proofs.Lists.{at_set, set_here, set_else, exchanged}
use Rattle.join_records.specs.declared.slot.Item.{Item}
use Rattle.join_records.specs.declared.views.View.{View}
use Rattle.join_records.specs.Ends.{left_of, right_of}
use Rattle.join_records.specs.Rule.{Facts, Holder, nobody, seat, kept, free, met, Era, unborn}
use Rattle.join_records.specs.Rule.{running, finished, kind, hand_of, held_of, KeepsEnd, NamesBelow}
use Rattle.join_records.specs.Rule.{CellOk, EraOk, SeatOk, Kept, Rooted}
use Rattle.join_records.specs.Views.{in_hand, read, with_hand, with_ends, holds_end, drop_record}
use Rattle.join_records.specs.Views.{NoneMet, total, one_made}
use Rattle.join_records.specs.Steps.{slots_given, full_read, record_freed, finish_made}
use Rattle.join_records.proofs.Functions.{put, put_here, put_else, at_put, at_below, saw_more}
use Rattle.join_records.proofs.Functions.{pick_here, pick_else, dead_none, hand_put, hand_drop}
use Rattle.join_records.proofs.Functions.{hand_met, hand_emptying, total_set, total_same, at_most}
use Rattle.join_records.proofs.Frame.{Loose, told_more, root_known, loads_keep, cell_stays, moved}
use Rattle.join_records.proofs.Opening.{end_held, not_held, no_met}

module _ {R C D E : Type 0} (F : Facts R C D E) (born : C) where
  abbrev V : Type 0
  V = View C E

  abbrev S : Type 0
  S = Option (Item R C D)

  abbrev St : Type 0
  St = State S V

  abbrev M : Type 0
  M = Me S V

  -- the slots of a met record are home again
  module _ (s : St) (r : Kept F born s) (id k : ℕ) (v : V) (up : End) (homes' : List (maybe.Option S)) (at : get_elem? s.views id ≡ some v) (alive : v.parts ≢ 0) (below : k < r.count) (mine : in_hand v.hand k ≡ Some (Emptying up)) (long : length homes' ≡ length s.homes)
      (away : (y : ℕ) → y ≢ 4 * k → y ≢ 4 * k + 2 → y ≢ 4 * k + 3 → get_elem? homes' y ≡ get_elem? s.homes y) (bare : (get_elem? homes' (4 * k) ≡ some (some None)) × (get_elem? homes' (4 * k + 2) ≡ some (some None)) × (get_elem? homes' (4 * k + 3) ≡ some (some None))) where
    given_keep : Kept F born record { words = set s.words (k + 1) (get_or s.words (k + 1) 0); homes = homes'; views = set s.views id (with_hand (read v (k + 1) (get_or s.words (k + 1) 0)) ((k, Emptied up) ∷ drop_record k v.hand)) }
    given_keep = let ok = r.each_seat id v at in let wide : length s.words ≡ r.count + 1 = r.wide in let x : ℕ = get_or s.words (k + 1) 0 in let phase = hand_emptying id (r.cells k) up (sym mine ∙ ok.hand k) in
        let cell = subst (CellOk F s.words s.homes r.holder r.ending k) phase (r.each_cell k below) in
        moved F born s r id k x v (with_hand (read v (k + 1) x) ((k, Emptied up) ∷ drop_record k v.hand)) (met id false up) homes' r.holder r.ending at below long (λ y p _ q t. away y p q t) refl refl (λ c. inl (refl, refl)) (λ c _ _. (refl, refl))
        (λ j apart. ap (hand_of j) phase ∙ (pick_else id j (Some (Emptying up)) (λ z. apart (sym z)) ∙ sym (pick_else id j (Some (Emptied up)) (λ z. apart (sym z))))) (at_below s.views id v at)
        (λ c z. subst (KeepsEnd c) phase (r.keeps_end c k z).1)
        (get_or-set_same s.words (k + 1) x 0 (omega arith) ∙ cell.0, cell.1, cell.2, ((λ _. bare), away (4 * k + 1) (λ q. omega arith) (λ q. omega arith) (λ q. omega arith) ∙ cell.3.1))
        record {
          ends = ok.ends;
          hand = hand_put r.cells id k v.hand ok.hand (met id false up) (Emptied up) (pick_here id (Some (Emptied up)));
          told = λ saw. get_or-set_other s.words (k + 1) 0 x 0 (λ z. omega arith) ∙ told_more F born s.words v.reads (k + 1) ok.told saw;
          rooted = ok.rooted;
          idle = λ z. absurd (alive z);
        }

  three_home : (homes : List (maybe.Option S)) (k a b : ℕ) → 4 * k + 3 < length homes → ((a ≡ 4 * k + 2) × (b ≡ 4 * k + 3)) ⊎ ((a ≡ 4 * k + 3) × (b ≡ 4 * k + 2)) → let h : List (maybe.Option S) = set (set (set homes (4 * k) (some None)) a (some None)) b (some None) in
      (get_elem? h (4 * k) ≡ some (some None)) × (get_elem? h (4 * k + 2) ≡ some (some None)) × (get_elem? h (4 * k + 3) ≡ some (some None))
  three_home homes k a b near which = let one : List (maybe.Option S) = set homes (4 * k) (some None) in let two : List (maybe.Option S) = set one a (some None) in
      let n1 : length one ≡ length homes = length-set homes (4 * k) (some None) in let n2 : length two ≡ length homes = length-set one a (some None) ∙ n1 in
      ⊎_elim
      (λ w. let p = w.0 in let q = w.1 in (
        set_else two b (4 * k) (some None) (λ z. omega arith) ∙ (set_else one a (4 * k) (some None) (λ z. omega arith) ∙ set_here homes (4 * k) (some None) (omega arith)),
        set_else two b (4 * k + 2) (some None) (λ z. omega arith) ∙ subst (λ (y : ℕ). get_elem? (set one a (some None)) y ≡ some (some None)) p (set_here one a (some None) (omega arith)),
        subst (λ (y : ℕ). get_elem? (set two b (some None)) y ≡ some (some None)) q (set_here two b (some None) (omega arith)),
      ))
      (λ w. let p = w.0 in let q = w.1 in (
        set_else two b (4 * k) (some None) (λ z. omega arith) ∙ (set_else one a (4 * k) (some None) (λ z. omega arith) ∙ set_here homes (4 * k) (some None) (omega arith)),
        subst (λ (y : ℕ). get_elem? (set two b (some None)) y ≡ some (some None)) q (set_here two b (some None) (omega arith)),
        set_else two b (4 * k + 3) (some None) (λ z. omega arith) ∙ subst (λ (y : ℕ). get_elem? (set one a (some None)) y ≡ some (some None)) p (set_here one a (some None) (omega arith)),
      )) which

  pub gives_slots : (n id : ℕ) (me : M) (k a b : ℕ) (up : End) (c : List (ℕ × S)) → me.0.parts ≢ 0 → 4 * k < n → in_hand me.0.hand k ≡ Some (Emptying up) → ((a ≡ 4 * k + 2) × (b ≡ 4 * k + 3)) ⊎ ((a ≡ 4 * k + 3) × (b ≡ 4 * k + 2))
      → me.1 ≡ (4 * k, None) ∷ (a, None) ∷ (b, None) ∷ c → Allows (Kept F born) n id me (k + 1) (λ y. y) (slots_given (step n (k + 1) 0 0 none) me)
  gives_slots n id me k a b up c alive near mine which carried s r wide at _ = let below : k < r.count = (let sl = r.slots in omega arith) in let v : V = me.0 in let x : ℕ = get_or s.words (k + 1) 0 in let slots : length s.homes ≡ 4 * r.count = r.slots in
      let act : Act S = chain gives (chain gives gives) in let w : V = with_hand (read v (k + 1) x) ((k, Emptied up) ∷ drop_record k v.hand) in let one : List (maybe.Option S) = set s.homes (4 * k) (some None) in let two : List (maybe.Option S) = set one a (some None) in (
        w,
        act,
        (tt, (tt, tt)),
        subst (λ (l : List (ℕ × S)). Kept F born (stepped s (k + 1) x id l w act)) (sym carried)
            (given_keep s r id k v up (set two b (some None)) at alive below mine (length-set two b (some None) ∙ (length-set one a (some None) ∙ length-set s.homes (4 * k) (some None)))
            (λ y p q t. set_else two b y (some None) (λ z. ⊎_elim (λ u. t (z ∙ u.1)) (λ u. q (z ∙ u.1)) which) ∙ (set_else one a y (some None) (λ z. ⊎_elim (λ u. q (z ∙ u.0)) (λ u. t (z ∙ u.0)) which) ∙ set_else s.homes (4 * k) y (some None) p))
            (three_home s.homes k a b (omega arith) which)),
        (λ i to same mine'. let is : k ≡ i = omega arith in let one : up ≡ to = emptying_is (sym mine ∙ (ap (in_hand v.hand) is ∙ mine')) in
            ((λ t. with_hand (read v (is t + 1) x) ((is t, Emptied (one t)) ∷ drop_record (is t) v.hand)), refl)),
      )
    where
      emptying_is : {a b : End} → Some (Emptying a) ≡ Some (Emptying b) → a ≡ b
      emptying_is e = cc

  -- a met record is free again
  module _ (s : St) (r : Kept F born s) (id k : ℕ) (up : End) (v : V) (at : get_elem? s.views id ≡ some v) (alive : v.parts ≢ 0) (below : k < r.count) (mine : in_hand v.hand k ≡ Some (Emptied up)) where
    met_phase : r.cells k ≡ met id false up
    met_phase = hand_met id (r.cells k) up (sym mine ∙ (r.each_seat id v at).hand k)

    full_cell : CellOk F s.words s.homes r.holder r.ending k (met id false up)
    full_cell = subst (CellOk F s.words s.homes r.holder r.ending k) met_phase (r.each_cell k below)

    free_keeps : Kept F born record { words = set s.words (k + 1) 0; homes = s.homes; views = set s.views id (with_hand (read v (k + 1) (31 + 256 * code_of up)) (drop_record k v.hand)) }
    free_keeps = let ok = r.each_seat id v at in let wide : length s.words ≡ r.count + 1 = r.wide in let homes = full_cell.3.0 refl in
        moved F born s r id k 0 v (with_hand (read v (k + 1) (31 + 256 * code_of up)) (drop_record k v.hand)) free s.homes r.holder r.ending at below refl (λ _ _ _ _ _. refl) refl refl (λ c. inl (refl, refl)) (λ c _ _. (refl, refl))
        (λ j apart. ap (hand_of j) met_phase ∙ pick_else id j (Some (Emptied up)) (λ z. apart (sym z))) tt (λ c z. subst (KeepsEnd c) met_phase (r.keeps_end c k z).1)
        (get_or-set_same s.words (k + 1) 0 0 (omega arith), full_cell.2, (homes.0, full_cell.3.1, homes.1, homes.2))
        record {
          ends = ok.ends;
          hand = hand_drop r.cells id k v.hand ok.hand free refl;
          told = λ saw. get_or-set_other s.words (k + 1) 0 0 0 (λ z. omega arith) ∙ ok.told (saw_more v.reads (k + 1) (31 + 256 * code_of up) (λ z. absurd (omega arith)) saw);
          rooted = ok.rooted;
          idle = λ z. absurd (alive z);
        }

  pub reads_full : (n id : ℕ) (me : M) (k : ℕ) → me.0.parts ≢ 0 → 4 * k < n → Allows (Kept F born) n id me (k + 1) (λ y. y) (full_read (step n (k + 1) 0 0 none) me)
  reads_full n id me k alive near s r wide at _ = let slots = r.slots in (
    read me.0 (k + 1) (get_or s.words (k + 1) 0),
    keeps,
    tt,
    loads_keep F born s r id (k + 1) me.0 at alive,
    (
      (refl, refl),
      λ i up same mine. let is : k ≡ i = omega arith in let below : i < r.count = omega arith in
          ap (λ (y : ℕ). get_or s.words (y + 1) 0) is ∙ (full_cell s r id i up me.0 at alive below mine).0,
    ),
  )

  pub frees : (n id : ℕ) (me : M) (k : ℕ) (up : End) (f : ℕ) → me.0.parts ≢ 0 → 4 * k < n → in_hand me.0.hand k ≡ Some (Emptied up) → f ≡ 31 + 256 * code_of up → Allows (Kept F born) n id me (k + 1) (λ y. either (eqb y f) 0 y) (record_freed (step n (k + 1) f 0 none) me)
  frees n id me k up f alive near mine full s r wide at _ =
      let below : k < r.count = (let sl = r.slots in omega arith) in let v : V = me.0 in let x : ℕ = get_or s.words (k + 1) 0 in let hit : x ≡ f = (full_cell s r id k up v at alive below mine).0 ∙ sym full in exchanged x f 0
      (λ y. (w : V) × (act : Act S) × Valid s.homes me.1 act × Kept F born (stepped s (k + 1) y id me.1 w act) × record_freed (step n (k + 1) f 0 none) me x (w, carried_after me.1 act))
      (λ _. (
        with_hand (read v (k + 1) (31 + 256 * code_of up)) (drop_record k v.hand),
        keeps,
        tt,
        free_keeps s r id k up v at alive below mine,
        (λ i same. let is : k ≡ i = omega arith in ((λ t. with_hand (read v (is t + 1) (sym full t)) (drop_record (is t) v.hand)), refl)),
      ))
      (λ miss. absurd (miss hit))

  -- the seat with the root makes the finish
  module _ (s : St) (r : Kept F born s) (id : ℕ) (v : V) (e : E) (at : get_elem? s.views id ≡ some v) (alive : v.parts ≢ 0) (none_met : NoneMet v) (ends : v.ends ≡ holds_end Root e Steady) where
    root_held : (r.holder 0 ≡ seat id Steady) × (r.ending 0 ≡ e)
    root_held = end_held F born s r id v at Root Steady e ends

    abbrev last : ℕ → Holder
    last = put r.holder 0 nobody

    abbrev maker : V
    maker = one_made (with_ends v [])

    -- the root is held, so it is not finished
    not_over : (era : Era) → EraOk s.words s.views r.holder era → (era ≡ running) × (total (λ u. u.made) s.views ≡ 0)
    not_over unborn ok = let t = ap kind root_held.0 in let z = ok.2 in absurd (omega arith)
    not_over running ok = (refl, ok.1)
    not_over finished ok = let t = ap kind root_held.0 in let z = ok.2 in absurd (omega arith)

    root_told : v.root ≡ Some e
    root_told = root_known F born s r id v at alive (λ z. let t = ap kind root_held.0 in omega arith) ∙ ap Some root_held.1

    -- no view made the finish, and so this one did not
    made_none : v.made ≡ 0
    made_none = let none = (not_over r.era r.era_ok).1 in let few = at_most (λ (u : V). u.made) s.views id v at in omega arith

    finish_keeps : Kept F born record { words = set s.words 0 1; homes = s.homes; views = set s.views id maker }
    finish_keeps = let era = not_over r.era r.era_ok in let seats : length (set s.views id maker) ≡ length s.views = length-set s.views id maker in let wide : length s.words ≡ r.count + 1 = r.wide in
        let word0 : get_or (set s.words 0 1) 0 0 ≡ 1 = get_or-set_same s.words 0 1 0 (omega arith) in record {
          count = r.count;
          root = r.root;
          era = finished;
          cells = r.cells;
          holder = last;
          ending = r.ending;
          owed = r.owed;
          wide = length-set s.words 0 1 ∙ r.wide;
          slots = r.slots;
          whole = total_same (λ u. u.parts) s.views id v maker at refl ∙ r.whole;
          era_ok = (word0, (let a = total_set (λ u. u.made) s.views id v maker at in let b = era.1 in omega arith), ap kind (put_here r.holder 0 nobody));
          root_is = r.root_is;
          each_cell = λ k near. cell_stays F born s r id (k + 1) k near (set s.words 0 1) s.homes last r.ending (λ z. omega arith) (get_or-set_other s.words 0 (k + 1) 1 0 (λ z. omega arith)) (λ _ _ _. refl)
              (λ c. at_put r.holder 0 nobody (λ y a. ((a ≡ r.holder y) × (r.ending y ≡ r.ending y)) ⊎ (Loose F born r.cells r.count id (k + 1) (r.holder y) × Loose F born r.cells r.count id (k + 1) a)) c
              (inr (subst (Loose F born r.cells r.count id (k + 1)) (sym root_held.0) (refl, no_met F born s r id v at none_met), tt)) (λ _. inl (refl, refl)))
              (ap kind (put_else r.holder 0 nobody (left_of k) (λ z. omega arith)), refl) (ap kind (put_else r.holder 0 nobody (right_of k) (λ z. omega arith)), refl) (r.cells k) refl (r.each_cell k near);
          each_seat = λ j u z. ⊎_elim
              (λ (y : (j ≡ id) × (maker ≡ u)). subst (λ (q : ℕ × V). SeatOk born (set s.words 0 1) finished r.root r.cells last r.ending q.0 q.1) (λ i. (sym y.0 i, y.1 i)) (mine era.0 word0))
              (λ (y : (j ≢ id) × (get_elem? s.views j ≡ some u)). others era.0 word0 j u y.0 (r.each_seat j u y.1))
              (at_set s.views id j maker u z);
          keeps_end = λ c k z. at_put r.holder 0 nobody (λ y a. a ≡ kept k → (k < r.count) × KeepsEnd y (r.cells k)) c (λ q. absurd (nobody_kept q)) (λ _ q. r.keeps_end c k q) z;
          seated = λ c j m z. subst (λ (n : ℕ). j < n) (sym seats) (at_put r.holder 0 nobody (λ y a. a ≡ seat j m → j < length s.views) c (λ q. absurd (nobody_seat q)) (λ _ q. r.seated c j m q) z);
          handed = λ k. subst (λ (n : ℕ). NamesBelow n (r.cells k)) (sym seats) (r.handed k);
          within = λ c. at_put r.holder 0 nobody (λ y a. kind a ≢ 0 → y ≤ 2 * r.count) c (λ live. absurd (live refl)) (λ _. r.within c);
        }
      where
        nobody_kept : {k : ℕ} → nobody ≡ kept k → ⊥
        nobody_kept z = cc

        nobody_seat : {j : ℕ} {m : CallState} → nobody ≡ seat j m → ⊥
        nobody_seat z = cc

        rooted_on : r.era ≡ running → (b : Option C) (o : Option E) → Rooted born r.root r.era b o → Rooted born r.root finished b o
        rooted_on z b o ok = subst (λ (q : Era). Rooted born r.root q b o) z ok

        mine : r.era ≡ running → get_or (set s.words 0 1) 0 0 ≡ 1 → SeatOk born (set s.words 0 1) finished r.root r.cells last r.ending id maker
        mine z word0 = let ok = r.each_seat id v at in record {
          ends = λ c. dite (ℕ_discrete c 0)
              (λ q. sym (dead_none id (last c) (r.ending c) (ap (λ (y : ℕ). kind (last y)) q ∙ ap kind (put_here r.holder 0 nobody))))
              (λ n. sym (not_held F born s r id v at Root Steady e ends c n) ∙ ap (λ (h : Holder). held_of id h (r.ending c)) (sym (put_else r.holder 0 nobody c n)));
          hand = ok.hand;
          told = λ _. word0;
          rooted = λ some_part. rooted_on z v.born v.root (ok.rooted some_part);
          idle = λ q. absurd (alive q);
        }

        others : r.era ≡ running → get_or (set s.words 0 1) 0 0 ≡ 1 → (j : ℕ) (u : V) → j ≢ id → SeatOk born s.words r.era r.root r.cells r.holder r.ending j u → SeatOk born (set s.words 0 1) finished r.root r.cells last r.ending j u
        others z word0 j u apart ok = record {
          ends = λ c. ok.ends c ∙ at_put r.holder 0 nobody (λ y a. y ≡ c → held_of j (r.holder c) (r.ending c) ≡ held_of j a (r.ending c)) c
              (λ q. ap (λ (y : ℕ). held_of j (r.holder y) (r.ending c)) (sym q) ∙ (ap (λ (h : Holder). held_of j h (r.ending c)) root_held.0 ∙ pick_else id j (Some (r.ending c, Steady)) (λ w. apart (sym w)))) (λ _ _. refl) refl;
          hand = ok.hand;
          told = λ _. word0;
          rooted = λ some_part. rooted_on z u.born u.root (ok.rooted some_part);
          idle = ok.idle;
        }

  pub finishes : (n id : ℕ) (me : M) (e : E) → me.0.parts ≢ 0 → NoneMet me.0 → me.0.ends ≡ holds_end Root e Steady → Allows (Kept F born) n id me 0 (λ _. 1) (λ _ m. finish_made me m)
  finishes n id me e alive none_met ends s r wide at _ = (maker s r id me.0 e at alive none_met ends, keeps, tt, finish_keeps s r id me.0 e at alive none_met ends, (refl, refl, made_none s r id me.0 e at alive none_met ends, λ e' ends'. root_told s r id me.0 e' at alive none_met ends'))
