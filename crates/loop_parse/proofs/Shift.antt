-- An expression is one whatever follows it.
use Rattle.std.proofs.Common.{◌≡◌, List, [], ◌∷◌, ◌++◌, refl, sym, ap, subst, ◌∙◌, append_assoc}
use Rattle.loop_syntax.specs.Tree.{Tree}
use Rattle.loop_parse.specs.Terms.{Token}
use Rattle.loop_parse.specs.Expressions.{IsExpr, plain, compare, IsSum, one, more, IsProduct}
use Rattle.loop_parse.specs.Expressions.{factor, times, IsUnary, primary, negated, IsPrimary}
use Rattle.loop_parse.specs.Expressions.{literal, variable, cell, rows, cols, bracketed}

pub record Shift (X : List Token → Tree → List Token → Type 0) (ts : List Token) (e : Tree) (rest : List Token) : Type 0 where
  pub front : List Token
  pub split : ts ≡ front ++ rest
  pub moved : (r : List Token) → X (front ++ r) e r

-- two parts with a token between them
joined : (fa fb : List Token) (t : Token) (ts mid rest : List Token) → ts ≡ fa ++ (t ∷ mid) → mid ≡ fb ++ rest → ts ≡ (fa ++ (t ∷ fb)) ++ rest
joined fa fb t ts mid rest e f = e ∙ ap (λ us. fa ++ (t ∷ us)) f ∙ sym (append_assoc fa (t ∷ fb) rest)

mutual
  pub shift_expr : {ts rest : List Token} {e : Tree} → IsExpr ts e rest → Shift IsExpr ts e rest
  shift_expr (plain z) = let s = shift_sum z in record { front = s.front; split = s.split; moved = λ r. plain (s.moved r) }
  shift_expr (compare {ts} {mid} {rest} {t} {s} {op} {a} {b} za i p zb) =
      let x = shift_sum za in
      let y = shift_sum zb in
      record {
        front = x.front ++ (t ∷ y.front);
        split = joined x.front y.front t ts mid rest x.split y.split;
        moved = λ r. compare (subst (λ us. IsSum us a (t ∷ (y.front ++ r))) (sym (append_assoc x.front (t ∷ y.front) r)) (x.moved (t ∷ (y.front ++ r)))) i p (y.moved r);
      }

  shift_sum : {ts rest : List Token} {e : Tree} → IsSum ts e rest → Shift IsSum ts e rest
  shift_sum (one z) = let s = shift_product z in record { front = s.front; split = s.split; moved = λ r. one (s.moved r) }
  shift_sum (more {ts} {mid} {rest} {t} {s} {op} {a} {b} za i p zb) =
      let x = shift_sum za in
      let y = shift_product zb in
      record {
        front = x.front ++ (t ∷ y.front);
        split = joined x.front y.front t ts mid rest x.split y.split;
        moved = λ r. more (subst (λ us. IsSum us a (t ∷ (y.front ++ r))) (sym (append_assoc x.front (t ∷ y.front) r)) (x.moved (t ∷ (y.front ++ r)))) i p (y.moved r);
      }

  shift_product : {ts rest : List Token} {e : Tree} → IsProduct ts e rest → Shift IsProduct ts e rest
  shift_product (factor z) = let s = shift_unary z in record { front = s.front; split = s.split; moved = λ r. factor (s.moved r) }
  shift_product (times {ts} {mid} {rest} {t} {s} {op} {a} {b} za i p zb) =
      let x = shift_product za in
      let y = shift_unary zb in
      record {
        front = x.front ++ (t ∷ y.front);
        split = joined x.front y.front t ts mid rest x.split y.split;
        moved = λ r. times (subst (λ us. IsProduct us a (t ∷ (y.front ++ r))) (sym (append_assoc x.front (t ∷ y.front) r)) (x.moved (t ∷ (y.front ++ r)))) i p (y.moved r);
      }

  shift_unary : {ts rest : List Token} {e : Tree} → IsUnary ts e rest → Shift IsUnary ts e rest
  shift_unary (primary z) = let s = shift_primary z in record { front = s.front; split = s.split; moved = λ r. primary (s.moved r) }
  shift_unary (negated {t} {ts} {rest} i z) = let s = shift_unary z in record { front = t ∷ s.front; split = ap (λ us. t ∷ us) s.split; moved = λ r. negated i (s.moved r) }

  shift_primary : {ts rest : List Token} {e : Tree} → IsPrimary ts e rest → Shift IsPrimary ts e rest
  shift_primary (literal {t} {rest} k) = record { front = t ∷ []; split = refl; moved = λ r. literal k }
  shift_primary (variable {t} {rest} k) = record { front = t ∷ []; split = refl; moved = λ r. variable k }
  shift_primary (cell {t} {o} {c} {o2} {c2} {ts} {us} {rest} {x} {a} {b} k i za ic io zb ic2) =
      let p = shift_expr za in
      let q = shift_expr zb in
      let g : (r : List Token) → (p.front ++ (c ∷ o2 ∷ (q.front ++ (c2 ∷ [])))) ++ r ≡ p.front ++ (c ∷ o2 ∷ (q.front ++ (c2 ∷ r))) =
      λ r. append_assoc p.front (c ∷ o2 ∷ (q.front ++ (c2 ∷ []))) r ∙ ap (λ us. p.front ++ (c ∷ o2 ∷ us)) (append_assoc q.front (c2 ∷ []) r) in
      record {
        front = t ∷ o ∷ (p.front ++ (c ∷ o2 ∷ (q.front ++ (c2 ∷ []))));
        split = ap (λ us. t ∷ o ∷ us) (p.split ∙ ap (λ us. p.front ++ (c ∷ o2 ∷ us)) q.split ∙ sym (g rest));
        moved = λ r. cell k i (subst (λ us. IsExpr us a (c ∷ o2 ∷ (q.front ++ (c2 ∷ r)))) (sym (g r)) (p.moved (c ∷ o2 ∷ (q.front ++ (c2 ∷ r))))) ic io (q.moved (c2 ∷ r)) ic2;
      }
  shift_primary (rows {w} {o} {t} {c} {rest} a b k d) = record { front = w ∷ o ∷ t ∷ c ∷ []; split = refl; moved = λ r. rows a b k d }
  shift_primary (cols {w} {o} {t} {c} {rest} a b k d) = record { front = w ∷ o ∷ t ∷ c ∷ []; split = refl; moved = λ r. cols a b k d }
  shift_primary (bracketed {o} {c} {ts} {rest} {e} i z j) =
      let p = shift_expr z in
      let g : (r : List Token) → (p.front ++ (c ∷ [])) ++ r ≡ p.front ++ (c ∷ r) = λ r. append_assoc p.front (c ∷ []) r in
      record {
        front = o ∷ (p.front ++ (c ∷ []));
        split = ap (λ us. o ∷ us) (p.split ∙ sym (g rest));
        moved = λ r. bracketed i (subst (λ us. IsExpr us e (c ∷ r)) (sym (g r)) (p.moved (c ∷ r))) j;
      }
