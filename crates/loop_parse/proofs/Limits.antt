-- An outermost expression that is in the grammar is read, or is too long; and one that is too long is refused.
use Rattle.std.proofs.Common.{◌≡◌, ℕ, zero, suc, ◌+◌, ◌-◌, ◌<◌, ◌≤◌, List, [], ◌∷◌, ◌++◌, length}
use Rattle.std.proofs.Common.{take, drop, Some, None, Ok, Err, Bool, true, false, ◌&&◌, ◌⊎◌, inl}
use Rattle.std.proofs.Common.{inr, nat_le, refl, sym, ap, subst, ◌∙◌, append_assoc, length-append}
use Rattle.std.proofs.Common.{length-take, length-drop, arith}
use Rattle.std.proofs.lemmas.Bool.Decides.{nat_tests}
use Rattle.loop_syntax.specs.Tree.{Tree}
use Rattle.loop_parse.specs.Terms.{Token}
use Rattle.loop_parse.specs.Expressions.{IsExpr, BeginsExpr}
use Rattle.loop_parse.specs.Reading.{Reply, Form, Deep, expr, outer, limited}
use Rattle.loop_parse.proofs.Machine.{an_expr, run}
use Rattle.loop_parse.proofs.Exact.{Told, Never, expr_law}
use Rattle.loop_parse.proofs.Continue.{reach_run, fronts, stuck_run}
use Rattle.loop_parse.proofs.Complete.{Stop, stop_end, expr_read}
use Rattle.loop_parse.proofs.Shift.{Shift, shift_expr}
use Rattle.loop_parse.proofs.Outer.{left_of, take_rest, no_more}
use Rattle.std.proofs.lemmas.List.{take_all}

-- the machine takes all tokens that begin an expression
takes_all : (w : List Token) → BeginsExpr w → (t : Token) (left : List Token) → run (an_expr []) w ≡ Some (t ∷ left) → ⊥
takes_all w b t left h =
    let f = fronts w (t ∷ left) (an_expr []) h in
    let c = b.0 in
    let e : w ++ c ≡ f.front ++ (t ∷ (left ++ c)) = ap (λ us. us ++ c) f.split ∙ append_assoc f.front (t ∷ left) c in
    let p : run (an_expr []) (w ++ c) ≡ Some (t ∷ (left ++ c)) = ap (run (an_expr [])) e ∙ reach_run f.front (t ∷ (left ++ c)) (an_expr []) f.state f.reached ∙ stuck_run f.state t (left ++ c) f.stuck in
    let q : run (an_expr []) (w ++ c) ≡ None = whole (w ++ c) b.1 (expr (length (w ++ c)) (w ++ c)) (expr_law (length (w ++ c)) (w ++ c) (omega arith)).told (expr_read b.2 (length (w ++ c)) (omega arith) stop_end) in
    cc
  where
    whole : (v : List Token) (e : Tree) (r : Reply Tree) → Told (IsExpr v) (λ st. run (an_expr st) v) Never (length v) r → r ≡ Ok (e, []) → run (an_expr []) v ≡ None
    whole v e r h k = (subst (λ (q : Reply Tree). Told (IsExpr v) (λ st. run (an_expr st) v) Never (length v) q) k h).2 []

-- what begins with 257 tokens of an expression is too long
pub outer_long : (n : ℕ) (ts : List Token) → length ts ≤ n → 257 ≤ length ts → BeginsExpr (take 257 ts) → outer n ts ≡ Err (Deep (drop 256 ts))
unfolding outer
outer_long n ts l h b = go (expr n (take 257 ts)) (expr_law n (take 257 ts) (omega (arith, length-take 257 ts))).told
  where
    big : nat_le 257 (length ts) ≡ true
    big = grind (arith, nat_tests)

    taken : (e : Tree) (left : List Token) → run (an_expr []) (take 257 ts) ≡ run [] left → limited ts (Ok (e, left)) ≡ Err (Deep (drop 256 ts))
    taken e [] k = rw big refl
    taken e (t ∷ left) k = absurd (takes_all (take 257 ts) b t left k)

    wanted : (left : List Token) → run (an_expr []) (take 257 ts) ≡ Some left → limited ts (Err (Form left)) ≡ Err (Deep (drop 256 ts))
    wanted [] k = rw big refl
    wanted (t ∷ left) k = absurd (takes_all (take 257 ts) b t left k)

    go : (r : Reply Tree) → Told (IsExpr (take 257 ts)) (λ st. run (an_expr st) (take 257 ts)) Never (length (take 257 ts)) r → limited ts r ≡ Err (Deep (drop 256 ts))
    go (Ok x) k = taken x.0 x.1 (k.2 [])
    go (Err (Form us)) k = wanted us (k [])
    go (Err (Deep us)) k = absurd k.0

and_false : (b : Bool) → (b && false) ≡ false
and_false true = refl
and_false false = refl

-- a front of at most k tokens, and what is left of k tokens
take_over : (k : ℕ) (front rest : List Token) → length front ≤ k → take k (front ++ rest) ≡ front ++ take (k - length front) rest
take_over k [] rest l = let e : k - 0 ≡ k = omega arith in ap (λ j. take j rest) (sym e)
take_over zero (t ∷ front) rest l = absurd (omega arith)
take_over (suc k) (t ∷ front) rest l =
    let e : suc k - suc (length front) ≡ k - length front = omega arith in
    ap (λ us. t ∷ us) (take_over k front rest (omega arith) ∙ ap (λ j. front ++ take j rest) (sym e))

front_of : (k : ℕ) (front rest : List Token) → k ≤ length front → take k (front ++ rest) ≡ take k front
front_of zero front rest l = refl
front_of (suc k) [] rest l = absurd (omega arith)
front_of (suc k) (t ∷ front) rest l = ap (λ us. t ∷ us) (front_of k front rest (omega arith))

first_of : (k : ℕ) (rest : List Token) → 0 < k → 0 < length rest → (t : Token) × (us vs : List Token) × (rest ≡ t ∷ us) × (take k rest ≡ t ∷ vs)
first_of zero rest l h = absurd (omega arith)
first_of (suc k) [] l h = absurd (omega arith)
first_of (suc k) (t ∷ us) l h = (t, us, take k us, refl, refl)

stop_like : (t : Token) (us vs : List Token) → Stop (t ∷ us) → Stop (t ∷ vs)
stop_like t us vs s = record { index = s.index; product = s.product; sum = s.sum; compare = s.compare }

-- an expression with all its tokens within the window is read
pub outer_short : {ts rest : List Token} {e : Tree} → IsExpr ts e rest → (n : ℕ) → length ts ≤ n → Stop rest → length ts ≤ length rest + 256 → outer n ts ≡ Ok (e, rest)
unfolding outer
outer_short {ts} {rest} {e} z n l s h = go (nat_le 257 (length ts)) refl
  where
    sh : Shift IsExpr ts e rest
    sh = shift_expr z

    lf : length sh.front + length rest ≡ length ts
    lf = omega (arith, ap length sh.split, length-append sh.front rest)

    -- where the window is all
    small : nat_le 257 (length ts) ≡ false → outer n ts ≡ Ok (e, rest)
    small b =
        let a : take 257 ts ≡ ts = take_all 257 ts (grind (arith, nat_tests)) in
        let q : expr n (take 257 ts) ≡ Ok (e, rest) = ap (expr n) a ∙ expr_read z n l s in
        ap (limited ts) q ∙ rw b (ap (λ us. Ok (e, us)) (left_of sh.front rest [] (take 257 ts) ts (a ∙ sh.split) (sym (no_more (take 257 ts) ∙ a)) ∙ no_more rest))

    -- where it ends behind the expression
    large : nat_le 257 (length ts) ≡ true → outer n ts ≡ Ok (e, rest)
    large b =
        let big : 257 ≤ length ts = grind (arith, nat_tests) in
        let left : List Token = take (257 - length sh.front) rest in
        let w : take 257 ts ≡ sh.front ++ left = ap (take 257) sh.split ∙ take_over 257 sh.front rest (omega (arith, lf)) in
        let f = first_of (257 - length sh.front) rest (omega (arith, lf)) (omega (arith, lf)) in
        let sl : Stop left = subst (λ (us : List Token). Stop us) (sym f.4) (stop_like f.0 f.1 f.2 (subst (λ (us : List Token). Stop us) f.3 s)) in
        let q : expr n (take 257 ts) ≡ Ok (e, left) = ap (expr n) w ∙ expr_read (sh.moved left) n (omega (arith, ap length w, length-take 257 ts)) sl in
        let x : left ++ drop (257 - length sh.front) rest ≡ rest = take_rest (257 - length sh.front) rest in
        let g : ts ≡ take 257 ts ++ drop (257 - length sh.front) rest = sh.split ∙ ap (λ us. sh.front ++ us) (sym x) ∙ sym (append_assoc sh.front left (drop (257 - length sh.front) rest)) ∙ ap (λ us. us ++ drop (257 - length sh.front) rest) (sym w) in
        let y = left_of sh.front left (drop (257 - length sh.front) rest) (take 257 ts) ts w g ∙ x in
        ap (limited ts) q ∙ filled left f.0 f.2 f.4 y
      where
        filled : (left : List Token) (t : Token) (vs : List Token) → left ≡ t ∷ vs → drop (length (take 257 ts) - length left) ts ≡ rest → limited ts (Ok (e, left)) ≡ Ok (e, rest)
        filled [] t vs k y = cc
        filled (u ∷ left) t vs k y = rw (and_false (nat_le 257 (length ts))) (ap (λ us. Ok (e, us)) y)

    go : (b : Bool) → nat_le 257 (length ts) ≡ b → outer n ts ≡ Ok (e, rest)
    go true b = large b
    go false b = small b

-- read, or refused as too deep before the rest
abbrev pub Reads : {A : Type 0} → Reply A → A → List Token → Type 0
Reads r e rest = (r ≡ Ok (e, rest)) ⊎ ((us : List Token) × (r ≡ Err (Deep us)) × (length rest < length us))

pub outer_reads : {ts rest : List Token} {e : Tree} → IsExpr ts e rest → (n : ℕ) → length ts ≤ n → Stop rest → Reads (outer n ts) e rest
outer_reads {ts} {rest} {e} z n l s = go (nat_le (length ts) (length rest + 256)) refl
  where
    sh : Shift IsExpr ts e rest
    sh = shift_expr z

    go : (b : Bool) → nat_le (length ts) (length rest + 256) ≡ b → Reads (outer n ts) e rest
    go true b = inl (outer_short z n l s (grind (arith, nat_tests)))
    go false b =
        let far : length rest + 257 ≤ length ts = grind (arith, nat_tests) in
        let lf : length sh.front + length rest ≡ length ts = omega (arith, ap length sh.split, length-append sh.front rest) in
        let w : take 257 ts ≡ take 257 sh.front = ap (take 257) sh.split ∙ front_of 257 sh.front rest (omega arith) in
        let m : take 257 ts ++ drop 257 sh.front ≡ sh.front ++ [] = ap (λ us. us ++ drop 257 sh.front) w ∙ take_rest 257 sh.front ∙ sym (no_more sh.front) in
        let b : BeginsExpr (take 257 ts) = (drop 257 sh.front, e, subst (λ us. IsExpr us e []) (sym m) (sh.moved [])) in
        inr (drop 256 ts, outer_long n ts l (omega arith) b, omega (arith, length-drop 256 ts))
