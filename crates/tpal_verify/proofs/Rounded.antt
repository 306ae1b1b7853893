-- A round in which only due blocks are walked is a round, and what holds between rounds is kept.
use Rattle.std.proofs.Common.{◌≡◌, ◌≢◌, ◌⊎◌, inl, inr, ℕ, zero, suc, ◌+◌, ◌≤◌, List, [], ◌∷◌, ◌++◌, Option, Some, None, refl, sym, ap, subst, ◌∙◌, length, map, slice_index_or, slice_set, slice_get, replicate, Bool, true, false, ◌||◌, ◌==◌, arith}
use Rattle.std.proofs.lemmas.Bool.{false≢true}
use Rattle.std.proofs.Math.ListN.{length-set, length-replicate, get_or-map}
use Rattle.std.proofs.lemmas.List.{get_or-set_other}
use Rattle.tpal_syntax.specs.declared.blocks.Block.{Block}
use Rattle.tpal_verify.specs.declared.kinds.Kind.{Kind}
use Rattle.tpal_verify.specs.declared.trace.Trace.{Trace}
use Rattle.tpal_verify.specs.Shapes.{first_shape}
use Rattle.tpal_verify.specs.Flat.{Ground}
use Rattle.tpal_verify.specs.Walk.{Flow, Walked}
use Rattle.tpal_verify.specs.Rounds.{Shapes, walk_of, walks_from, walks, all_flows, trace_of, forks_of, join_in, with_join, all_joins, all_forks, traces, comb_flows, flows_of, with_flows, shape_at, holds_all, or_later, settled, round, least, start, height}
use Rattle.tpal_verify.specs.Board.{is_in, AreSameBut}
use Rattle.tpal_verify.specs.Walking.{walk_in, walk_at, flows_in}
use Rattle.tpal_verify.specs.Agreement.{StandsFor}
use Rattle.tpal_verify.specs.Rounding.{Traces, trace_at, flows_due, retraced, forks_due, forks_seen, IsRound, Round, Stands}
use Rattle.tpal_verify.proofs.Lower.{all_left, all_right, all_both}
use Rattle.tpal_verify.proofs.Assigned.{AllBelow, all_length, all_held_above, flows_grow, flows_held, start_length}
use Rattle.tpal_verify.proofs.Kept.{flows_kept}
use Rattle.tpal_verify.proofs.Least.{same_flows}
use Rattle.tpal_verify.proofs.Stepping.{with_append}
use Rattle.tpal_verify.proofs.Combining.{combs_append, combs_none}
use Rattle.tpal_verify.proofs.Agreeing.{combs_same, same_joins}

-- ---- lists

same_items : {X : Type 0} (d : X) (xs ys : List X) → length xs ≡ length ys → ((l : ℕ) → slice_index_or xs l d ≡ slice_index_or ys l d) → xs ≡ ys
same_items d [] [] q h = refl
same_items d [] (y ∷ ys) q h = absurd (omega (arith, q))
same_items d (x ∷ xs) [] q h = absurd (omega (arith, q))
same_items d (x ∷ xs) (y ∷ ys) q h =
    ap (λ z. z ∷ xs) (h 0) ∙ ap (λ zs. y ∷ zs) (same_items d xs ys (omega (arith, q)) (λ l. h (suc l)))

by_due : {P : Type 0} (due : List ℕ) (l : ℕ) → (is_in due l ≡ true → P) → (is_in due l ≡ false → P) → P
by_due {P} due l f g = by (is_in due l) refl
  where
    by : (b : Bool) → is_in due l ≡ b → P
    by true q = f q
    by false q = g q

-- what is staged of combining blocks: of the due blocks, where the joins find the same as before,
-- else of all
pub data Staged (join new : Option (List Kind)) (ts : Traces) (due : List ℕ) : List Flow → Type 0 where
  of_due : new ≡ join → Staged join new ts due (forks_due ts due)
  of_all : Staged join new ts due (all_forks ts)

staged_by : (join new : Option (List Kind)) (ts : Traces) (due : List ℕ) (same : Bool) → (same ≡ true → new ≡ join) → Staged join new ts due (forks_seen same ts due)
staged_by join new ts due true q = of_due (q refl)
staged_by join new ts due false q = of_all

-- ---- walks by their labels

module _ (whole : Ground) where
  in_none : (l : ℕ) (block : Option Block) → None ≡ walk_in whole l block None
  in_none l None = refl
  in_none l (Some b) = refl

  walks_at_from : (k : ℕ) (blocks : List Block) (xs : Shapes) (l : ℕ) → slice_index_or (walks_from whole k blocks xs) l None ≡ walk_in whole (k + l) (slice_get blocks l) (shape_at xs l)
  walks_at_from k [] xs l = refl
  walks_at_from k (b ∷ bs) [] l = in_none (k + l) (slice_get (b ∷ bs) l)
  walks_at_from k (b ∷ bs) (x ∷ xs) zero = ap (λ m. walk_of whole m b x) (omega arith)
  walks_at_from k (b ∷ bs) (x ∷ xs) (suc l) =
      walks_at_from (k + 1) bs xs l ∙ ap (λ m. walk_in whole m (slice_get bs l) (shape_at xs l)) (omega arith)

  walks_at : (xs : Shapes) (l : ℕ) → slice_index_or (walks whole xs) l None ≡ walk_at whole xs l
  walks_at xs l = walks_at_from 0 whole.blocks xs l ∙ ap (λ m. walk_in whole m (slice_get whole.blocks l) (shape_at xs l)) (omega arith)

  walks_length : (k : ℕ) (blocks : List Block) (xs : Shapes) → length xs ≡ length blocks → length (walks_from whole k blocks xs) ≡ length blocks
  walks_length k [] xs q = refl
  walks_length k (b ∷ bs) [] q = absurd (omega (arith, q))
  walks_length k (b ∷ bs) (x ∷ xs) q = let h = walks_length (k + 1) bs xs (omega (arith, q)) in omega (arith, h)

  traces_length : (ws : List (Option Walked)) → length (map trace_of ws) ≡ length ws
  traces_length [] = refl
  traces_length (w ∷ ws) = let h = traces_length ws in omega (arith, h)

  traces_at : (xs : Shapes) (l : ℕ) → trace_at (traces whole xs) l ≡ trace_of (walk_at whole xs l)
  traces_at xs l = get_or-map trace_of (walks whole xs) l None ∙ ap trace_of (walks_at xs l)

  -- ---- what flows, block by block

  module _ (ys : Shapes) where
    all_held : (ws : List (Option Walked)) → ((l : ℕ) → holds_all ys (flows_in (slice_index_or ws l None)) ≡ true) → holds_all ys (all_flows ws) ≡ true
    all_held [] h = refl
    all_held (None ∷ ws) h = all_held ws (λ l. h (suc l))
    all_held (Some w ∷ ws) h = all_both ys w.flows (all_flows ws) (h 0) (all_held ws (λ l. h (suc l)))

    held_at : (ws : List (Option Walked)) → holds_all ys (all_flows ws) ≡ true → (l : ℕ) → holds_all ys (flows_in (slice_index_or ws l None)) ≡ true
    held_at [] q l = refl
    held_at (None ∷ ws) q zero = refl
    held_at (None ∷ ws) q (suc l) = held_at ws q l
    held_at (Some w ∷ ws) q zero = all_left ys w.flows (all_flows ws) q
    held_at (Some w ∷ ws) q (suc l) = held_at ws (all_right ys w.flows (all_flows ws) q) l

    due_held : (xs : Shapes) → ((l : ℕ) → holds_all ys (flows_in (walk_at whole xs l)) ≡ true) → (due : List ℕ) → holds_all ys (flows_due whole xs due) ≡ true
    due_held xs h [] = refl
    due_held xs h (l ∷ due) = all_both ys (flows_in (walk_at whole xs l)) (flows_due whole xs due) (h l) (due_held xs h due)

    in_due : (xs : Shapes) (due : List ℕ) (l : ℕ) → is_in due l ≡ true → holds_all ys (flows_due whole xs due) ≡ true → holds_all ys (flows_in (walk_at whole xs l)) ≡ true
    in_due xs [] l i q = absurd (false≢true i)
    in_due xs (x ∷ due) l i q =
        by (x == l) refl
        (λ p. in_due xs due l (sym (ap (λ b. b || is_in due l) p) ∙ i) (all_right ys (flows_in (walk_at whole xs x)) (flows_due whole xs due) q))
      where
        by : (b : Bool) → (x == l) ≡ b → ((x == l) ≡ false → holds_all ys (flows_in (walk_at whole xs l)) ≡ true) → holds_all ys (flows_in (walk_at whole xs l)) ≡ true
        by true p later =
            let e : x ≡ l = grind (arith, p) in
            subst (λ k. holds_all ys (flows_in (walk_at whole xs k)) ≡ true) e (all_left ys (flows_in (walk_at whole xs x)) (flows_due whole xs due) q)
        by false p later = later p

  -- ---- forks, block by block

  module _ (js : List (List Kind)) (ys : Shapes) where
    abbrev Held : List Flow → Type 0
    Held forks = holds_all ys (comb_flows whole js forks) ≡ true

    none_held : Held []
    none_held = ap (λ fs. holds_all ys fs) (combs_none whole js)

    held_left : (fs gs : List Flow) → Held (fs ++ gs) → Held fs
    held_left fs gs q = all_left ys (comb_flows whole js fs) (comb_flows whole js gs) (ap (λ hs. holds_all ys hs) (sym (combs_append whole js fs gs)) ∙ q)

    held_right : (fs gs : List Flow) → Held (fs ++ gs) → Held gs
    held_right fs gs q = all_right ys (comb_flows whole js fs) (comb_flows whole js gs) (ap (λ hs. holds_all ys hs) (sym (combs_append whole js fs gs)) ∙ q)

    held_both : (fs gs : List Flow) → Held fs → Held gs → Held (fs ++ gs)
    held_both fs gs p q = ap (λ hs. holds_all ys hs) (combs_append whole js fs gs) ∙ all_both ys (comb_flows whole js fs) (comb_flows whole js gs) p q

    all_combs : (ts : Traces) → ((l : ℕ) → Held (forks_of (trace_at ts l))) → Held (all_forks ts)
    all_combs [] h = none_held
    all_combs (t ∷ ts) h = held_both (forks_of t) (all_forks ts) (h 0) (all_combs ts (λ l. h (suc l)))

    combs_at : (ts : Traces) → Held (all_forks ts) → (l : ℕ) → Held (forks_of (trace_at ts l))
    combs_at [] q l = none_held
    combs_at (t ∷ ts) q zero = held_left (forks_of t) (all_forks ts) q
    combs_at (t ∷ ts) q (suc l) = combs_at ts (held_right (forks_of t) (all_forks ts) q) l

    due_combs : (ts : Traces) → ((l : ℕ) → Held (forks_of (trace_at ts l))) → (due : List ℕ) → Held (forks_due ts due)
    due_combs ts h [] = none_held
    due_combs ts h (l ∷ due) = held_both (forks_of (trace_at ts l)) (forks_due ts due) (h l) (due_combs ts h due)

    combs_in_due : (ts : Traces) (due : List ℕ) (l : ℕ) → is_in due l ≡ true → Held (forks_due ts due) → Held (forks_of (trace_at ts l))
    combs_in_due ts [] l i q = absurd (false≢true i)
    combs_in_due ts (x ∷ due) l i q =
        by (x == l) refl
        (λ p. combs_in_due ts due l (sym (ap (λ b. b || is_in due l) p) ∙ i) (held_right (forks_of (trace_at ts x)) (forks_due ts due) q))
      where
        by : (b : Bool) → (x == l) ≡ b → ((x == l) ≡ false → Held (forks_of (trace_at ts l))) → Held (forks_of (trace_at ts l))
        by true p later =
            let e : x ≡ l = grind (arith, p) in
            subst (λ k. Held (forks_of (trace_at ts k))) e (held_left (forks_of (trace_at ts x)) (forks_due ts due) q)
        by false p later = later p

  -- ---- the traces of due blocks anew

  module _ (xs : Shapes) where
    retraced_length : (due : List ℕ) (ts : Traces) → length (retraced whole xs due ts) ≡ length ts
    retraced_length [] ts = refl
    retraced_length (l ∷ due) ts = retraced_length due (slice_set ts l (trace_of (walk_at whole xs l))) ∙ length-set ts l (trace_of (walk_at whole xs l))

    is_other : (x l : ℕ) → (x == l) ≡ false → l ≢ x
    is_other x l q = grind (arith, q)

    retraced_other : (due : List ℕ) (ts : Traces) (l : ℕ) → is_in due l ≡ false → trace_at (retraced whole xs due ts) l ≡ trace_at ts l
    retraced_other [] ts l q = refl
    retraced_other (x ∷ due) ts l q =
        by (x == l) refl
        (λ p. retraced_other due (slice_set ts x (trace_of (walk_at whole xs x))) l (sym (ap (λ b. b || is_in due l) p) ∙ q))
      where
        by : (b : Bool) → (x == l) ≡ b
            → ((x == l) ≡ false → trace_at (retraced whole xs (x ∷ due) ts) l ≡ trace_at (slice_set ts x (trace_of (walk_at whole xs x))) l)
            → trace_at (retraced whole xs (x ∷ due) ts) l ≡ trace_at ts l
        by true p later = absurd (false≢true (sym q ∙ ap (λ b. b || is_in due l) p))
        by false p later = later p ∙ get_or-set_other ts x l (trace_of (walk_at whole xs x)) None (is_other x l p)

    -- each trace is that of its block's walk, or its block is still to be walked
    abbrev Right : List ℕ → Traces → Type 0
    Right due ts = (l : ℕ) → is_in due l ≡ false → trace_at ts l ≡ trace_of (walk_at whole xs l)

    set_at : (ts : Traces) (l : ℕ) (t : Option Trace) → (length ts ≤ l → None ≡ t) → trace_at (slice_set ts l t) l ≡ t
    set_at [] l t h = h (omega arith)
    set_at (x ∷ ts) zero t h = refl
    set_at (x ∷ ts) (suc l) t h = set_at ts l t (λ b. h (omega (arith, b)))

    past : (blocks : List Block) (l : ℕ) → length blocks ≤ l → slice_get blocks l ≡ None
    past [] l b = refl
    past (x ∷ bs) zero b = absurd (omega (arith, b))
    past (x ∷ bs) (suc l) b = past bs l (omega (arith, b))

    past_walk : (l : ℕ) → length whole.blocks ≤ l → None ≡ trace_of (walk_at whole xs l)
    past_walk l b = sym (ap (λ o. trace_of (walk_in whole l o (shape_at xs l))) (past whole.blocks l b))

    right_again : (due : List ℕ) (ts : Traces) → length ts ≡ length whole.blocks → Right due ts → Right [] (retraced whole xs due ts)
    right_again [] ts n h = h
    right_again (x ∷ due) ts n h =
        right_again due (slice_set ts x (trace_of (walk_at whole xs x))) (length-set ts x (trace_of (walk_at whole xs x)) ∙ n) go
      where
        go : Right due (slice_set ts x (trace_of (walk_at whole xs x)))
        go l q = by (x == l) refl
          where
            by : (b : Bool) → (x == l) ≡ b → trace_at (slice_set ts x (trace_of (walk_at whole xs x))) l ≡ trace_of (walk_at whole xs l)
            by true p =
                let e : x ≡ l = grind (arith, p) in
                subst (λ k. trace_at (slice_set ts x (trace_of (walk_at whole xs x))) k ≡ trace_of (walk_at whole xs k)) e
                (set_at ts x (trace_of (walk_at whole xs x)) (λ b. past_walk x (omega (arith, b, n))))
            by false p =
                get_or-set_other ts x l (trace_of (walk_at whole xs x)) None (is_other x l p)
                ∙ h l (ap (λ b. b || is_in due l) p ∙ q)

    -- with the due blocks walked, the traces are those of the shapes
    pub retraced_all : (due : List ℕ) (ts : Traces) → length xs ≡ length whole.blocks → length ts ≡ length whole.blocks → Right due ts → retraced whole xs due ts ≡ traces whole xs
    retraced_all due ts m n h =
        same_items None (retraced whole xs due ts) (traces whole xs)
        (retraced_length due ts ∙ (n ∙ sym (traces_length (walks whole xs) ∙ walks_length 0 whole.blocks xs m)))
        (λ l. right_again due ts n h l refl ∙ sym (traces_at xs l))

  -- ---- rounds to come

  settled_kept : (n : ℕ) (xs : Shapes) → holds_all xs (flows_of whole xs) ≡ true → settled n whole xs ≡ xs
  unfolding settled
  settled_kept zero xs q = refl
  settled_kept (suc n) xs q = ap (λ b. or_later b xs (λ _. settled n whole (round whole xs))) q

  one_less : (n : ℕ) (xs : Shapes) → settled n whole (round whole xs) ≡ settled (suc n) whole xs
  unfolding settled
  one_less n xs = by (holds_all xs (flows_of whole xs)) refl
    where
      by : (b : Bool) → holds_all xs (flows_of whole xs) ≡ b → settled n whole (round whole xs) ≡ or_later (holds_all xs (flows_of whole xs)) xs (λ _. settled n whole (round whole xs))
      by true q =
          ap (λ ys. settled n whole ys) (flows_kept xs (flows_of whole xs) q)
          ∙ (settled_kept n xs q ∙ sym (ap (λ b. or_later b xs (λ _. settled n whole (round whole xs))) q))
      by false q = sym (ap (λ b. or_later b xs (λ _. settled n whole (round whole xs))) q)

  -- ---- one round

  module _ (n : ℕ) (xs : Shapes) (due : List ℕ) (ts : Traces) (join new : Option (List Kind)) (forks : List Flow)
      (w : IsRound whole (suc n) xs due ts join) (v : StandsFor (with_join new []) (all_joins (retraced whole xs due ts)))
      (s : Staged join new (retraced whole xs due ts) due forks) where
    abbrev now : Traces
    now = retraced whole xs due ts

    abbrev js : List (List Kind)
    js = with_join new []

    abbrev staged : List Flow
    staged = flows_due whole xs due ++ comb_flows whole js forks

    abbrev next : Shapes
    next = with_flows xs staged

    abbrev all : List Flow
    all = flows_of whole xs

    now_is : now ≡ traces whole xs
    now_is = retraced_all xs due ts w.each_shape w.each_trace w.traced

    -- what flows into combining blocks in this round
    combs_are : comb_flows whole js (all_forks now) ≡ comb_flows whole (all_joins (traces whole xs)) (all_forks (traces whole xs))
    combs_are = combs_same js (all_joins now) whole (all_forks now) v ∙ ap (λ t. comb_flows whole (all_joins t) (all_forks t)) now_is

    module _ (ys : Shapes) where
      -- all flows are held
      walks_held : holds_all ys all ≡ true → (l : ℕ) → holds_all ys (flows_in (walk_at whole xs l)) ≡ true
      walks_held q l =
          subst (λ o. holds_all ys (flows_in o) ≡ true) (walks_at xs l)
          (held_at ys (walks whole xs) (all_left ys (all_flows (walks whole xs)) (comb_flows whole (all_joins (traces whole xs)) (all_forks (traces whole xs))) q) l)

      combs_held : holds_all ys all ≡ true → holds_all ys (comb_flows whole js (all_forks now)) ≡ true
      combs_held q =
          ap (λ fs. holds_all ys fs) combs_are
          ∙ all_right ys (all_flows (walks whole xs)) (comb_flows whole (all_joins (traces whole xs)) (all_forks (traces whole xs))) q

      all_are : ((l : ℕ) → holds_all ys (flows_in (walk_at whole xs l)) ≡ true) → holds_all ys (comb_flows whole js (all_forks now)) ≡ true → holds_all ys all ≡ true
      all_are h q =
          all_both ys (all_flows (walks whole xs)) (comb_flows whole (all_joins (traces whole xs)) (all_forks (traces whole xs)))
          (all_held ys (walks whole xs) (λ l. ap (λ o. holds_all ys (flows_in o)) (walks_at xs l) ∙ h l))
          (ap (λ fs. holds_all ys fs) (sym combs_are) ∙ q)

      from_all : (fs : List Flow) → Staged join new now due fs → holds_all ys (comb_flows whole js (all_forks now)) ≡ true → holds_all ys (comb_flows whole js fs) ≡ true
      from_all _ (of_due e) q = due_combs js ys now (combs_at js ys now q) due
      from_all _ of_all q = q

      staged_held : holds_all ys all ≡ true → holds_all ys staged ≡ true
      staged_held q =
          all_both ys (flows_due whole xs due) (comb_flows whole js forks) (due_held ys xs (walks_held q) due) (from_all forks s (combs_held q))

      to_all : AllBelow xs ys → (fs : List Flow) → Staged join new now due fs → holds_all ys (comb_flows whole js fs) ≡ true → holds_all ys (comb_flows whole js (all_forks now)) ≡ true
      to_all g _ of_all q = q
      to_all g _ (of_due e) q =
          all_combs js ys now
          (λ l. by_due due l (λ i. combs_in_due js ys now due l i q)
          (λ i. subst (λ t. holds_all ys (comb_flows whole js (forks_of t)) ≡ true) (sym (retraced_other xs due ts l i))
          (subst (λ j. holds_all ys (comb_flows whole (with_join j []) (forks_of (trace_at ts l))) ≡ true) (sym e)
          (all_held_above xs ys (comb_flows whole (with_join join []) (forks_of (trace_at ts l))) g (combs_at (with_join join []) xs ts w.combs l)))))

      all_by_staged : AllBelow xs ys → holds_all ys staged ≡ true → holds_all ys all ≡ true
      all_by_staged g q =
          all_are (λ l. by_due due l (λ i. in_due ys xs due l i (all_left ys (flows_due whole xs due) (comb_flows whole js forks) q))
          (λ i. all_held_above xs ys (flows_in (walk_at whole xs l)) g (w.held l i)))
          (to_all g forks s (all_right ys (flows_due whole xs due) (comb_flows whole js forks) q))

    is_round : next ≡ round whole xs
    is_round =
        same_flows xs staged all (staged_held (round whole xs) (flows_held xs all))
        (all_by_staged next (flows_grow xs staged) (flows_held xs staged))

    next_holds : holds_all next all ≡ true
    next_holds = all_by_staged next (flows_grow xs staged) (flows_held xs staged)

    walk_kept : (due2 : List ℕ) → AreSameBut due2 next xs → (l : ℕ) → is_in due2 l ≡ false → walk_at whole xs l ≡ walk_at whole next l
    walk_kept due2 h l i = ap (λ x. walk_in whole l (slice_get whole.blocks l) x) (sym (h l i))

    pub next_round : (due2 : List ℕ) → AreSameBut due2 next xs → IsRound whole n next due2 now new
    next_round due2 h = record {
      each_shape = sym (all_length xs next (flows_grow xs staged)) ∙ w.each_shape;
      each_trace = retraced_length xs due ts ∙ w.each_trace;
      traced = λ l i. ap (λ ts. trace_at ts l) now_is ∙ (traces_at xs l ∙ ap trace_of (walk_kept due2 h l i));
      held = λ l i. subst (λ o. holds_all next (flows_in o) ≡ true) (walk_kept due2 h l i) (walks_held next next_holds l);
      joins = v;
      combs = combs_held next next_holds;
      leads = ap (λ ys. settled n whole ys) is_round ∙ (one_less n xs ∙ w.leads);
    }

  -- ---- the end

  all_settled : (left : ℕ) (xs : Shapes) (ts : Traces) (join : Option (List Kind)) → IsRound whole left xs [] ts join → xs ≡ least whole
  all_settled left xs ts join w =
      let t : ts ≡ traces whole xs = retraced_all xs [] ts w.each_shape w.each_trace w.traced in
      let c = combs_same (with_join join []) (all_joins ts) whole (all_forks ts) w.joins ∙ ap (λ t. comb_flows whole (all_joins t) (all_forks t)) t in
      sym (settled_kept left xs
      (all_both xs (all_flows (walks whole xs)) (comb_flows whole (all_joins (traces whole xs)) (all_forks (traces whole xs)))
      (all_held xs (walks whole xs) (λ l. ap (λ o. holds_all xs (flows_in o)) (walks_at xs l) ∙ w.held l refl))
      (ap (λ fs. holds_all xs fs) (sym c) ∙ w.combs))) ∙ w.leads

  none_left : (xs : Shapes) (due : List ℕ) (ts : Traces) (join : Option (List Kind)) → IsRound whole 0 xs due ts join → xs ≡ least whole
  unfolding settled
  none_left xs due ts join w = w.leads

  -- where no round is left or no block is due, the shapes are the least assignment
  pub is_least : (left : ℕ) (xs : Shapes) (due : List ℕ) (ts : Traces) (join : Option (List Kind)) → IsRound whole left xs due ts join → (left ≡ 0) ⊎ (due ≡ [])
      → retraced whole xs due ts ≡ traces whole (least whole)
  is_least left xs due ts join w e = retraced_all xs due ts w.each_shape w.each_trace w.traced ∙ ap (λ ys. traces whole ys) (by e)
    where
      by : (left ≡ 0) ⊎ (due ≡ []) → xs ≡ least whole
      by (inl q) = none_left xs due ts join (subst (λ k. IsRound whole k xs due ts join) q w)
      by (inr q) = all_settled left xs ts join (subst (λ ls. IsRound whole left xs ls ts join) q w)

  -- ---- what the rounds keep

  abbrev joined : List (Option (List Kind)) → List (List Kind)
  joined [] = []
  joined (j ∷ js) = with_join j (joined js)

  joins_by : (ts : Traces) → all_joins ts ≡ joined (map join_in ts)
  joins_by [] = refl
  joins_by (t ∷ ts) = ap (λ js. with_join (join_in t) js) (joins_by ts)

  same_joins_of : (ts us : Traces) → map join_in ts ≡ map join_in us → all_joins ts ≡ all_joins us
  same_joins_of ts us q = joins_by ts ∙ (ap joined q ∙ sym (joins_by us))

  -- what a round is told of its walks, of what the joins find, and of what is staged
  pub record Steps (old : Round) (walked came : Shapes) (ts : Traces) (join : Option (List Kind)) (kept same : Bool) : Type 0 where
    pub walks : walked ≡ with_flows old.staged (flows_due whole old.shapes old.due)
    pub traces : ts ≡ retraced whole old.shapes old.due old.traces
    pub same_joins : kept ≡ true → map join_in ts ≡ map join_in old.traces
    pub keeps : kept ≡ true → join ≡ old.join
    pub finds : kept ≡ false → StandsFor (with_join join []) (all_joins ts)
    pub same_join : same ≡ true → join ≡ old.join
    pub combs : came ≡ with_flows walked (comb_flows whole (with_join join []) (forks_seen same ts old.due))

  module _ (left : ℕ) (old : Round) (walked came : Shapes) (ts : Traces) (join : Option (List Kind)) (kept same : Bool)
      (st : Stands whole (suc left) old) (s : Steps old walked came ts join kept same) where
    abbrev now2 : Traces
    now2 = retraced whole old.shapes old.due old.traces

    abbrev forks2 : Traces → List Flow
    forks2 us = forks_seen same us old.due

    abbrev next2 : Shapes
    next2 = with_flows old.shapes (flows_due whole old.shapes old.due ++ comb_flows whole (with_join join []) (forks2 now2))

    found2 : (b : Bool) → kept ≡ b → StandsFor (with_join join []) (all_joins now2)
    found2 true q =
        subst (λ j. StandsFor (with_join j []) (all_joins now2)) (sym (s.keeps q))
        (subst (λ js. StandsFor (with_join old.join []) js) (sym (ap all_joins (sym s.traces) ∙ same_joins_of ts old.traces (s.same_joins q))) st.round.joins)
    found2 false q = subst (λ us. StandsFor (with_join join []) (all_joins us)) s.traces (s.finds q)

    came_is : came ≡ next2
    came_is =
        s.combs
        ∙ (ap (λ us. with_flows walked (comb_flows whole (with_join join []) (forks2 us))) s.traces
        ∙ (ap (λ xs. with_flows xs (comb_flows whole (with_join join []) (forks2 now2))) (s.walks ∙ ap (λ xs. with_flows xs (flows_due whole old.shapes old.due)) st.staged)
        ∙ sym (with_append old.shapes (flows_due whole old.shapes old.due) (comb_flows whole (with_join join []) (forks2 now2)))))

    pub round_next : (shapes stage : Shapes) (due : List ℕ) → shapes ≡ came → stage ≡ came → AreSameBut due shapes old.shapes
        → Stands whole left (record { shapes = shapes; staged = stage; due = due; traces = ts; join = join })
    round_next shapes stage due q r h = record {
      staged = r ∙ sym q;
      round =
          subst (λ us. IsRound whole left shapes due us join) (sym s.traces)
          (subst (λ xs. IsRound whole left xs due now2 join) (sym (q ∙ came_is))
          (next_round left old.shapes old.due old.traces old.join join (forks2 now2) st.round (found2 kept refl) (staged_by old.join join now2 old.due same s.same_join) due
          (subst (λ xs. AreSameBut due xs old.shapes) (q ∙ came_is) h)));
    }

  -- ---- one walk more

  pub next_more : (xs before next new end : Shapes) (rest behind : List ℕ) (l : ℕ) → rest ≡ l ∷ behind → before ≡ xs → new ≡ with_flows next (flows_in (walk_at whole before l))
      → with_flows next (flows_due whole xs rest) ≡ end → with_flows new (flows_due whole xs behind) ≡ end
  next_more xs before next new end rest behind l split n e w =
      ap (λ ys. with_flows ys (flows_due whole xs behind)) (e ∙ ap (λ ys. with_flows next (flows_in (walk_at whole ys l))) n)
      ∙ (sym (with_append next (flows_in (walk_at whole xs l)) (flows_due whole xs behind))
      ∙ (ap (λ r. with_flows next (flows_due whole xs r)) (sym split) ∙ w))

  pub traces_more : (xs before : Shapes) (ts new end : Traces) (trace : Option Trace) (rest behind : List ℕ) (l : ℕ) → rest ≡ l ∷ behind → before ≡ xs → trace ≡ trace_of (walk_at whole before l)
      → new ≡ slice_set ts l trace → retraced whole xs rest ts ≡ end → retraced whole xs behind new ≡ end
  traces_more xs before ts new end trace rest behind l split n t e w =
      ap (λ us. retraced whole xs behind us) (e ∙ ap (λ u. slice_set ts l u) (t ∙ ap (λ ys. trace_of (walk_at whole ys l)) n))
      ∙ (ap (λ r. retraced whole xs r ts) (sym split) ∙ w)

  -- ---- before the first round

  same_at : {X : Type 0} (d : X) (n l : ℕ) → slice_index_or (replicate n d) l d ≡ d
  same_at d zero l = refl
  same_at d (suc n) zero = refl
  same_at d (suc n) (suc l) = same_at d n l

  no_shape : (l : ℕ) → is_in (0 ∷ []) l ≡ false → shape_at (start whole) l ≡ None
  no_shape zero q = absurd (false≢true (sym q))
  no_shape (suc l) q = get_or-set_other (replicate (length whole.blocks) None) 0 (suc l) (Some (first_shape whole.cells)) None (grind arith) ∙ same_at None (length whole.blocks) (suc l)

  no_walk : (l : ℕ) → is_in (0 ∷ []) l ≡ false → walk_at whole (start whole) l ≡ None
  no_walk l q = ap (λ x. walk_in whole l (slice_get whole.blocks l) x) (no_shape l q) ∙ sym (in_none l (slice_get whole.blocks l))

  no_joins : (n : ℕ) → [] ≡ all_joins (replicate n None)
  no_joins zero = refl
  no_joins (suc n) = no_joins n

  pub round_first : Stands whole (height whole) (record { shapes = start whole; staged = start whole; due = 0 ∷ []; traces = replicate (length whole.blocks) None; join = None })
  round_first = record {
    staged = refl;
    round = record {
      each_shape = start_length whole;
      each_trace = length-replicate (length whole.blocks) None;
      traced = λ l q. same_at None (length whole.blocks) l ∙ ap trace_of (sym (no_walk l q));
      held = λ l q. ap (λ w. holds_all (start whole) (flows_in w)) (no_walk l q);
      joins = subst (λ js. StandsFor [] js) (no_joins (length whole.blocks)) (same_joins []);
      combs = refl;
      leads = refl;
    };
  }
