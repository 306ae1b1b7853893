-- An outermost expression is read as without the limit, or it is too long.
use Rattle.std.proofs.Common.{◌≡◌, ℕ, zero, suc, ◌-◌, ◌≤◌, List, [], ◌∷◌, ◌++◌, length, take, drop}
use Rattle.std.proofs.Common.{Option, Some, None, Ok, Err, Bool, true, false, ◌&&◌, nat_le}
use Rattle.std.proofs.Common.{if◌then◌else◌, refl, sym, ap, subst, ◌∙◌, length-append, length-take}
use Rattle.std.proofs.Common.{append_assoc, arith}
use Rattle.std.proofs.lemmas.List.{take_all}
use Rattle.std.proofs.lemmas.Bool.Decides.{nat_tests}
use Rattle.loop_syntax.specs.Tree.{Tree}
use Rattle.loop_parse.specs.Terms.{Kind, Token}
use Rattle.loop_parse.specs.Expressions.{IsExpr, BeginsExpr}
use Rattle.loop_parse.specs.Reading.{Reply, Form, Deep, expr, outer, limited, is_empty}
use Rattle.loop_parse.proofs.Machine.{Symbol, Move, Take, Skip, Refuse, an_expr, step, offer, moved}
use Rattle.loop_parse.proofs.Machine.{run}
use Rattle.loop_parse.proofs.Exact.{Told, Ends, Never, Past, expr_law}
use Rattle.loop_parse.proofs.Continue.{completion, completed, reach, reach_good, reach_run, fronts}
use Rattle.loop_parse.proofs.Local.{Kept, expr_keeps}

drop_front : (p y : List Token) → drop (length p) (p ++ y) ≡ y
drop_front [] y = refl
drop_front (t ∷ p) y = drop_front p y

pub take_rest : (n : ℕ) (ts : List Token) → take n ts ++ drop n ts ≡ ts
take_rest zero ts = refl
take_rest (suc n) [] = refl
take_rest (suc n) (t ∷ ts) = ap (λ us. t ∷ us) (take_rest n ts)

app_assoc : (a b c : List Token) → (a ++ b) ++ c ≡ a ++ (b ++ c)
app_assoc [] b c = refl
app_assoc (t ∷ a) b c = ap (λ us. t ∷ us) (app_assoc a b c)

pub no_more : (a : List Token) → a ++ [] ≡ a
no_more [] = refl
no_more (t ∷ a) = ap (λ us. t ∷ us) (no_more a)

-- the tokens left of a front, and all after it
pub left_of : (p left x w ts : List Token) → w ≡ p ++ left → ts ≡ w ++ x → drop (length w - length left) ts ≡ left ++ x
left_of p left x w ts e f =
    let n : length w - length left ≡ length p = omega (arith, ap length e, length-append p left) in
    let g : ts ≡ p ++ (left ++ x) = f ∙ ap (λ us. us ++ x) e ∙ app_assoc p left x in
    ap (λ k. drop k ts) n ∙ ap (drop (length p)) g ∙ drop_front p (left ++ x)

-- what is left is at the end of the tokens
LeftOf : List Token → List Token → Type 0
LeftOf ts left = (p : List Token) × (ts ≡ p ++ left)

left_fault : (ts us : List Token) → run (an_expr []) ts ≡ Some us → LeftOf ts us
unfolding LeftOf
left_fault ts us h = let f = fronts ts us (an_expr []) h in (f.front, f.split)

left_ok : (ts rest : List Token) → run (an_expr []) ts ≡ run [] rest → LeftOf ts rest
unfolding LeftOf
left_ok ts [] h = (ts, sym (no_more ts))
left_ok ts (t ∷ rest) h = left_fault ts (t ∷ rest) h

-- the tokens of the window begin an expression, where its reading takes them all
window_begins : (w : List Token) → run (an_expr []) w ≡ Some [] → BeginsExpr w
window_begins w h =
    let f = fronts w [] (an_expr []) h in
    let g = reach_good f.front (an_expr []) f.state refl f.reached in
    let c = completion f.state in
    let e : f.front ≡ w = sym (f.split ∙ no_more f.front) in
    let q : run (an_expr []) (w ++ c) ≡ None = ap (λ us. run (an_expr []) (us ++ c)) (sym e) ∙ reach_run f.front c (an_expr []) f.state f.reached ∙ completed f.state g in
    go c (expr (length (w ++ c)) (w ++ c)) (expr_law (length (w ++ c)) (w ++ c) (omega arith)).told q
  where
    at : (c : List Token) (e : Tree) (rest : List Token) → IsExpr (w ++ c) e rest → run [] rest ≡ None → BeginsExpr w
    at c e [] z k = (c, e, z)
    at c e (t ∷ rest) z k = cc

    go : (c : List Token) (r : Reply Tree) → Told (IsExpr (w ++ c)) (λ st. run (an_expr st) (w ++ c)) Never (length (w ++ c)) r → run (an_expr []) (w ++ c) ≡ None → BeginsExpr w
    go c (Ok x) h q = at c x.0 x.1 h.0 (sym (h.2 []) ∙ q)
    go c (Err (Form us)) h q = let k = h [] in cc
    go c (Err (Deep us)) h q = absurd h.0

-- a stack with more below
offer_more : (s k next : List Symbol) (kind : Kind) → offer s kind ≡ Some next → offer (s ++ k) kind ≡ Some (next ++ k)
offer_more [] k next kind h = cc
offer_more (x ∷ s) k next kind h = go (λ q. offer_more s k next kind q) (step x kind) h
  where
    go : (offer s kind ≡ Some next → offer (s ++ k) kind ≡ Some (next ++ k)) → (m : Move) → moved m (offer s kind) s ≡ Some next → moved m (offer (s ++ k) kind) (s ++ k) ≡ Some (next ++ k)
    go again (Take new) h = let e : new ++ s ≡ next = cc in ap Some (sym (append_assoc new s k) ∙ ap (λ z. z ++ k) e)
    go again Skip h = again h
    go again Refuse h = cc

reach_more : (ts : List Token) (s k next : List Symbol) → reach s ts ≡ Some next → reach (s ++ k) ts ≡ Some (next ++ k)
reach_more [] s k next h = let e : s ≡ next = cc in ap (λ z. Some (z ++ k)) e
reach_more (t ∷ ts) s k next h = go (λ mid q. reach_more ts mid k next q) (offer s t.kind) refl h
  where
    go : ((mid : List Symbol) → reach mid ts ≡ Some next → reach (mid ++ k) ts ≡ Some (next ++ k)) → (o : Option (List Symbol)) → offer s t.kind ≡ o → elim o [ None ↦ None | Some n ↦ reach n ts ] ≡ Some next → reach (s ++ k) (t ∷ ts) ≡ Some (next ++ k)
    go again None e h = cc
    go again (Some mid) e h = ap (λ o. elim o [ None ↦ None | Some n ↦ reach n ts ]) (offer_more s k mid t.kind e) ∙ again mid h

-- a machine that leaves no token takes them all
run_reach : (ts : List Token) (s : List Symbol) → ((t : Token) (us : List Token) → run s ts ≡ Some (t ∷ us) → ⊥) → (next : List Symbol) × (reach s ts ≡ Some next)
run_reach [] s h = (s, refl)
run_reach (t ∷ ts) s h = go (λ mid q. run_reach ts mid q) (offer s t.kind) refl
  where
    go : ((mid : List Symbol) → ((u : Token) (us : List Token) → run mid ts ≡ Some (u ∷ us) → ⊥) → (next : List Symbol) × (reach mid ts ≡ Some next)) → (o : Option (List Symbol)) → offer s t.kind ≡ o → (next : List Symbol) × (reach s (t ∷ ts) ≡ Some next)
    go again None e = absurd (h t ts (ap (λ o. elim o [ None ↦ Some (t ∷ ts) | Some n ↦ run n ts ]) e))
    go again (Some mid) e =
        let r = again mid (λ u us q. h u us (ap (λ o. elim o [ None ↦ Some (t ∷ ts) | Some n ↦ run n ts ]) e ∙ q)) in
        (r.0, ap (λ o. elim o [ None ↦ None | Some n ↦ reach n ts ]) e ∙ r.1)

drop_next : (k : ℕ) (ts : List Token) → suc k ≤ length ts → (t : Token) × (drop k ts ≡ t ∷ drop (suc k) ts)
drop_next k [] l = absurd (omega arith)
drop_next zero (t ∷ ts) l = (t, refl)
drop_next (suc k) (t ∷ ts) l = drop_next k ts (omega arith)

-- the machine takes the whole window
past_window : (ts : List Token) → 257 ≤ length ts → ((t : Token) (us : List Token) → run (an_expr []) (take 257 ts) ≡ Some (t ∷ us) → ⊥) → (st : List Symbol) → Past (run (an_expr st) ts) (drop 256 ts)
past_window ts l h st =
    let r = run_reach (take 257 ts) (an_expr []) h in
    let d = drop_next 256 ts l in
    (d.0, drop 257 ts, r.0 ++ st, d.1, ap (run (an_expr st)) (sym (take_rest 257 ts)) ∙ reach_run (take 257 ts) (drop 257 ts) (an_expr st) (r.0 ++ st) (reach_more (take 257 ts) (an_expr []) st r.0 r.1))

-- what is said where an outermost expression at the front of ts is too long
abbrev pub TooLong : List Token → List Token → Type 0
TooLong ts us = (257 ≤ length ts) × BeginsExpr (take 257 ts) × (us ≡ drop 256 ts)

le_true : (a b : ℕ) → nat_le a b ≡ true → a ≤ b
le_true a b h = grind (arith, nat_tests)

module _ (n : ℕ) (ts : List Token) (l : length ts ≤ n) where
  w : List Token
  w = take 257 ts

  law : Told (IsExpr ts) (λ st. run (an_expr st) ts) Never (length ts) (expr n ts)
  law = (expr_law n ts l).told

  -- the reading of the window, and of all
  kept : Kept (drop 257 ts) (expr n (take 257 ts)) (expr n ts)
  kept = subst (λ us. Kept (drop 257 ts) (expr n (take 257 ts)) (expr n us)) (take_rest 257 ts) ((expr_keeps n).kept (drop 257 ts) (take 257 ts))

  window_law : Told (IsExpr (take 257 ts)) (λ st. run (an_expr st) (take 257 ts)) Never (length (take 257 ts)) (expr n (take 257 ts))
  window_law = (expr_law n (take 257 ts) (omega (arith, length-take 257 ts))).told

  whole_window : nat_le 257 (length ts) ≡ false → take 257 ts ≡ ts
  whole_window h = take_all 257 ts (grind (arith, nat_tests))

  -- the limited reading is the reading of all
  same_ok : (e : Tree) (left : List Token) → expr n (take 257 ts) ≡ Ok (e, left) → LeftOf (take 257 ts) left → (b : Bool) → nat_le 257 (length ts) ≡ b → (b && is_empty left) ≡ false →
      Kept (drop 257 ts) (Ok (e, left)) (expr n ts) → expr n ts ≡ Ok (e, drop (length (take 257 ts) - length left) ts)
  unfolding LeftOf
  same_ok e (t ∷ left) q p b h k kept = kept ∙ ap (λ us. Ok (e, us)) (sym (left_of p.0 (t ∷ left) (drop 257 ts) (take 257 ts) ts p.1 (sym (take_rest 257 ts))))
  same_ok e [] q p true h k kept = cc
  same_ok e [] q p false h k kept =
      let a = whole_window h in
      ap (expr n) (sym a) ∙ q ∙ ap (λ us. Ok (e, us)) (sym (left_of p.0 [] [] (take 257 ts) ts p.1 (sym a ∙ sym (no_more (take 257 ts)))))

  same_fault : (left : List Token) → expr n (take 257 ts) ≡ Err (Form left) → LeftOf (take 257 ts) left → (b : Bool) → nat_le 257 (length ts) ≡ b → (b && is_empty left) ≡ false →
      Kept (drop 257 ts) (Err (Form left)) (expr n ts) → expr n ts ≡ Err (Form (drop (length (take 257 ts) - length left) ts))
  unfolding LeftOf
  same_fault (t ∷ left) q p b h k kept = kept ∙ ap (λ us. Err (Form us)) (sym (left_of p.0 (t ∷ left) (drop 257 ts) (take 257 ts) ts p.1 (sym (take_rest 257 ts))))
  same_fault [] q p true h k kept = cc
  same_fault [] q p false h k kept =
      let a = whole_window h in
      ap (expr n) (sym a) ∙ q ∙ ap (λ us. Err (Form us)) (sym (left_of p.0 [] [] (take 257 ts) ts p.1 (sym a ∙ sym (no_more (take 257 ts)))))

  long_ok : (e : Tree) (left : List Token) → Told (IsExpr (take 257 ts)) (λ st. run (an_expr st) (take 257 ts)) Never (length (take 257 ts)) (Ok (e, left)) → (b : Bool) → nat_le 257 (length ts) ≡ b → (b && is_empty left) ≡ true → TooLong ts (drop 256 ts)
  long_ok e [] h true q k = (le_true 257 (length ts) q, ([], e, subst (λ us. IsExpr us e []) (sym (no_more (take 257 ts))) h.0), refl)
  long_ok e [] h false q k = cc
  long_ok e (t ∷ left) h true q k = cc
  long_ok e (t ∷ left) h false q k = cc

  long_fault : (left : List Token) → Told (IsExpr (take 257 ts)) (λ st. run (an_expr st) (take 257 ts)) Never (length (take 257 ts)) (Err (Form left)) → (b : Bool) → nat_le 257 (length ts) ≡ b → (b && is_empty left) ≡ true → TooLong ts (drop 256 ts)
  long_fault [] h true q k = (le_true 257 (length ts) q, window_begins (take 257 ts) (h []), refl)
  long_fault [] h false q k = cc
  long_fault (t ∷ left) h true q k = cc
  long_fault (t ∷ left) h false q k = cc

  past_ok : (left : List Token) → (b : Bool) → nat_le 257 (length ts) ≡ b → (b && is_empty left) ≡ true → run (an_expr []) (take 257 ts) ≡ run [] left → (st : List Symbol) → Past (run (an_expr st) ts) (drop 256 ts)
  past_ok [] true q k e = past_window ts (le_true 257 (length ts) q) (λ t us h. cc)
  past_ok [] false q k e = cc
  past_ok (t ∷ left) true q k e = cc
  past_ok (t ∷ left) false q k e = cc

  past_fault : (left : List Token) → (b : Bool) → nat_le 257 (length ts) ≡ b → (b && is_empty left) ≡ true → run (an_expr []) (take 257 ts) ≡ Some left → (st : List Symbol) → Past (run (an_expr st) ts) (drop 256 ts)
  past_fault [] true q k e = past_window ts (le_true 257 (length ts) q) (λ t us h. cc)
  past_fault [] false q k e = cc
  past_fault (t ∷ left) true q k e = cc
  past_fault (t ∷ left) false q k e = cc

  deep_told : (r : Reply Tree) → r ≡ expr n ts → Told (IsExpr ts) (λ st. run (an_expr st) ts) (TooLong ts) (length ts) r
  deep_told r e = go (expr n ts) law r e
    where
      go : (q : Reply Tree) → Told (IsExpr ts) (λ st. run (an_expr st) ts) Never (length ts) q → (r : Reply Tree) → r ≡ q → Told (IsExpr ts) (λ st. run (an_expr st) ts) (TooLong ts) (length ts) r
      go q h r e = subst (λ (z : Reply Tree). Told (IsExpr ts) (λ st. run (an_expr st) ts) (TooLong ts) (length ts) z) (sym e) (wide q h)
        where
          wide : (q : Reply Tree) → Told (IsExpr ts) (λ st. run (an_expr st) ts) Never (length ts) q → Told (IsExpr ts) (λ st. run (an_expr st) ts) (TooLong ts) (length ts) q
          wide (Ok x) h = h
          wide (Err (Form us)) h = h
          wide (Err (Deep us)) h = absurd h.0

  outer_told : (r : Reply Tree) → expr n (take 257 ts) ≡ r → Told (IsExpr (take 257 ts)) (λ st. run (an_expr st) (take 257 ts)) Never (length (take 257 ts)) r → Kept (drop 257 ts) r (expr n ts) →
      Told (IsExpr ts) (λ st. run (an_expr st) ts) (TooLong ts) (length ts) (limited ts r)
  outer_told (Ok x) e h kept = go (nat_le 257 (length ts) && is_empty x.1) refl
    where
      go : (b : Bool) → (nat_le 257 (length ts) && is_empty x.1) ≡ b →
          Told (IsExpr ts) (λ st. run (an_expr st) ts) (TooLong ts) (length ts) (if b then Err (Deep (drop 256 ts)) else Ok (x.0, drop (length (take 257 ts) - length x.1) ts))
      go true k = (long_ok x.0 x.1 h (nat_le 257 (length ts)) refl k, past_ok x.1 (nat_le 257 (length ts)) refl k (h.2 []))
      go false k = deep_told (Ok (x.0, drop (length (take 257 ts) - length x.1) ts)) (sym (same_ok x.0 x.1 e (left_ok (take 257 ts) x.1 (h.2 [])) (nat_le 257 (length ts)) refl k kept))
  outer_told (Err (Form us)) e h kept = go (nat_le 257 (length ts) && is_empty us) refl
    where
      go : (b : Bool) → (nat_le 257 (length ts) && is_empty us) ≡ b →
          Told (IsExpr ts) (λ st. run (an_expr st) ts) (TooLong ts) (length ts) (if b then Err (Deep (drop 256 ts)) else Err (Form (drop (length (take 257 ts) - length us) ts)))
      go true k = (long_fault us h (nat_le 257 (length ts)) refl k, past_fault us (nat_le 257 (length ts)) refl k (h []))
      go false k = deep_told (Err (Form (drop (length (take 257 ts) - length us) ts))) (sym (same_fault us e (left_fault (take 257 ts) us (h [])) (nat_le 257 (length ts)) refl k kept))
  outer_told (Err (Deep us)) e h kept = absurd h.0

pub outer_law : (n : ℕ) (ts : List Token) → length ts ≤ n → Ends (IsExpr ts) (λ st. run (an_expr st) ts) (TooLong ts) (length ts) (outer n ts)
unfolding outer
outer_law n ts l = record { told = outer_told n ts l (expr n (take 257 ts)) refl (window_law n ts l) (kept n ts l) }
