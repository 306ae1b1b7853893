-- What is in the grammar is read, and with that tree alone.
use Rattle.std.proofs.Common.{◌≡◌, ℕ, ℤ, zero, suc, ◌<◌, ◌≤◌, List, [], ◌∷◌, length, Option, Some}
use Rattle.std.proofs.Common.{None, Ok, true, false, nat_eq, refl, sym, ap, ◌∙◌, eq-eqb, arith}
use Rattle.loop_syntax.specs.declared.expression.BinOp.{BinOp}
use Rattle.loop_syntax.specs.Tree.{Spelled, Tree, TInt, TVar, TCell, TRows, TCols, TNeg, TBin}
use Rattle.loop_parse.specs.declared.terminal.Fixed.{Fixed}
use Rattle.loop_parse.specs.declared.terminal.Fixed.TheVariants.{Rows, Cols, OpenRound, CloseRound}
use Rattle.loop_parse.specs.declared.terminal.Fixed.TheVariants.{OpenSquare, CloseSquare, Plus}
use Rattle.loop_parse.specs.declared.terminal.Fixed.TheVariants.{Minus, Star, Slash, Percent}
use Rattle.loop_parse.specs.Terms.{Kind, Token, Is, IsName, IsLiteral}
use Rattle.loop_parse.specs.Expressions.{IsExpr, plain, compare, IsSum, one, more, IsProduct}
use Rattle.loop_parse.specs.Expressions.{factor, times, IsUnary, primary, negated, IsPrimary}
use Rattle.loop_parse.specs.Expressions.{literal, variable, cell, rows, cols, bracketed}
use Rattle.loop_parse.specs.Expressions.{compare_fixed, sum_fixed, product_fixed}
use Rattle.loop_parse.specs.Reading.{Reply, Fault, Form, ◌>>=◌, tag, is_fixed, by_fixed, expect}
use Rattle.loop_parse.specs.Reading.{compare_op_of, sum_op_of, product_op_of, chain_rest, chain}
use Rattle.loop_parse.specs.Reading.{name_rest, primary_at, primary_of, unary_of, expr_of, nested}
use Rattle.loop_parse.specs.Reading
use Rattle.loop_parse.proofs.Chains.{Continues, Continues-start, Continues-step, Continues-end}
use Rattle.loop_parse.proofs.Chains.{Continues-stop, chain_end, chain_stop}

mutual
  pub shorter_expr : {ts rest : List Token} {e : Tree} → IsExpr ts e rest → length rest < length ts
  shorter_expr (plain z) = shorter_sum z
  shorter_expr (compare a i p b) = let x = shorter_sum a in let y = shorter_sum b in omega arith

  pub shorter_sum : {ts rest : List Token} {e : Tree} → IsSum ts e rest → length rest < length ts
  shorter_sum (one z) = shorter_product z
  shorter_sum (more a i p b) = let x = shorter_sum a in let y = shorter_product b in omega arith

  pub shorter_product : {ts rest : List Token} {e : Tree} → IsProduct ts e rest → length rest < length ts
  shorter_product (factor z) = shorter_unary z
  shorter_product (times a i p b) = let x = shorter_product a in let y = shorter_unary b in omega arith

  pub shorter_unary : {ts rest : List Token} {e : Tree} → IsUnary ts e rest → length rest < length ts
  shorter_unary (primary z) = shorter_primary z
  shorter_unary (negated i z) = let x = shorter_unary z in omega arith

  pub shorter_primary : {ts rest : List Token} {e : Tree} → IsPrimary ts e rest → length rest < length ts
  shorter_primary (literal k) = omega arith
  shorter_primary (variable k) = omega arith
  shorter_primary (cell k o a c o2 b c2) = let x = shorter_expr a in let y = shorter_expr b in omega arith
  shorter_primary (rows a b k c) = omega arith
  shorter_primary (cols a b k c) = omega arith
  shorter_primary (bracketed o z c) = let x = shorter_expr z in omega arith

-- what follows takes nothing into what was read
abbrev pub NoIndex : List Token → Type 0
NoIndex [] = Unit {0}
NoIndex (t ∷ ts) = is_fixed OpenSquare t.kind ≡ false

abbrev pub NoOp : (Kind → Option BinOp) → List Token → Type 0
NoOp op [] = Unit {0}
NoOp op (t ∷ ts) = op t.kind ≡ None

pub record Stop (ts : List Token) : Type 0 where
  pub index : NoIndex ts
  pub product : NoOp product_op_of ts
  pub sum : NoOp sum_op_of ts
  pub compare : NoOp compare_op_of ts

pub stop_sign : (s : Fixed) (t : Token) (ts : List Token) → Is s t → nat_eq (tag s) (tag OpenSquare) ≡ false → product_fixed s ≡ None → sum_fixed s ≡ None → compare_fixed s ≡ None → Stop (t ∷ ts)
stop_sign s t ts k i p q c = record { index = rw (k, i) refl; product = rw (k, p) refl; sum = rw (k, q) refl; compare = rw (k, c) refl }

pub stop_end : Stop []
stop_end = record { index = tt; product = tt; sum = tt; compare = tt }

no_index_product : (s : Fixed) (o : BinOp) → product_fixed s ≡ Some o → nat_eq (tag s) (tag OpenSquare) ≡ false
no_index_product OpenSquare o h = cc
no_index_product _ o h = refl

no_index_sum : (s : Fixed) (o : BinOp) → sum_fixed s ≡ Some o → nat_eq (tag s) (tag OpenSquare) ≡ false
no_index_sum OpenSquare o h = cc
no_index_sum _ o h = refl

no_index_compare : (s : Fixed) (o : BinOp) → compare_fixed s ≡ Some o → nat_eq (tag s) (tag OpenSquare) ≡ false
no_index_compare OpenSquare o h = cc
no_index_compare _ o h = refl

no_product_sum : (s : Fixed) (o : BinOp) → sum_fixed s ≡ Some o → product_fixed s ≡ None
no_product_sum Star o h = cc
no_product_sum Slash o h = cc
no_product_sum Percent o h = cc
no_product_sum _ o h = refl

no_product_compare : (s : Fixed) (o : BinOp) → compare_fixed s ≡ Some o → product_fixed s ≡ None
no_product_compare Star o h = cc
no_product_compare Slash o h = cc
no_product_compare Percent o h = cc
no_product_compare _ o h = refl

no_sum_compare : (s : Fixed) (o : BinOp) → compare_fixed s ≡ Some o → sum_fixed s ≡ None
no_sum_compare Plus o h = cc
no_sum_compare Minus o h = cc
no_sum_compare _ o h = refl

pub same_tag : (s : Fixed) → nat_eq (tag s) (tag s) ≡ true
same_tag s = eq-eqb (tag s) (tag s) refl

pub expect_at : (s : Fixed) (t : Token) (ts : List Token) → Is s t → expect s (t ∷ ts) ≡ Ok (t.place, ts)
unfolding expect
expect_at s t ts k = let h : is_fixed s t.kind ≡ true = rw k (same_tag s) in rw h refl

pub bind_at : {A B : Type 0} {r : Reply A} {x : A × List Token} {q : Reply B} (f : A × List Token → Reply B) → r ≡ Ok x → f x ≡ q → (r >>= f) ≡ q
bind_at f h k = ap (λ r. r >>= f) h ∙ k

abbrev U : ℕ → List Token → Reply Tree
U n = unary_of (nested n)

abbrev P : ℕ → List Token → Reply Tree
P n = chain (U n) product_op_of n

abbrev S : ℕ → List Token → Reply Tree
S n = chain (P n) sum_op_of n

abbrev E : ℕ → List Token → Reply Tree
E n = chain (S n) compare_op_of 1

pub nested_at : (n : ℕ) (ts : List Token) (q : Reply Tree) → length ts < n → ((m : ℕ) → length ts ≤ m → E m ts ≡ q) → nested n ts ≡ q
unfolding nested
nested_at zero ts q l f = absurd (omega arith)
nested_at (suc n) ts q l f = f n (omega arith)

op_found : (f : Fixed → Option BinOp) (s : Fixed) (t : Token) (o : BinOp) → Is s t → f s ≡ Some o → by_fixed f t.kind ≡ Some o
op_found f s t o k h = rw k h

same_name : (t : Token) (x : Spelled) → IsName t x → record { text = x.text; place = t.place } ≡ x
same_name t x k = ap (λ p. record { text = x.text; place = p }) (sym k.placed)

pub name_read : (t : Token) (x : Spelled) (ts : List Token) → IsName t x → Reading.name (t ∷ ts) ≡ Ok (x, ts)
unfolding Reading.name
name_read t x ts k = ap (λ q. Reading.name_at q t ts) k.named ∙ ap (λ y. Ok (y, ts)) (same_name t x k)

name_first : (inner : List Token → Reply Tree) (t : Token) (x : Spelled) (ts : List Token) → IsName t x → primary_of inner (t ∷ ts) ≡ name_rest inner x ts
name_first inner t x ts k = ap (λ q. primary_at inner q t ts) k.named ∙ ap (λ y. name_rest inner y ts) (same_name t x k)

names_plain : (inner : List Token → Reply Tree) (t : Token) (x : Spelled) (rest : List Token) → IsName t x → NoIndex rest →
    primary_of inner (t ∷ rest) ≡ Ok (TVar x, rest)
names_plain inner t x [] k h = name_first inner t x [] k
names_plain inner t x (o ∷ us) k h = name_first inner t x (o ∷ us) k ∙ rw (h, name_rest) refl

names_cell : (inner : List Token → Reply Tree) (t : Token) (x : Spelled) (o : Token) (us : List Token) → IsName t x → Is OpenSquare o →
    primary_of inner (t ∷ o ∷ us) ≡ (do
      a ← inner us
      c ← expect CloseSquare a.1
      o2 ← expect OpenSquare c.1
      b ← inner o2.1
      c2 ← expect CloseSquare b.1
      Ok (TCell x a.0 b.0, c2.1))
names_cell inner t x o us k i = name_first inner t x (o ∷ us) k ∙ rw (i, name_rest) refl

sized_read : (o t c : Token) (x : Spelled) (rest : List Token) → Is OpenRound o → IsName t x → Is CloseRound c → Reading.sized (o ∷ t ∷ c ∷ rest) ≡ Ok (x, rest)
unfolding Reading.sized
sized_read o t c x rest i k j =
    bind_at _ (expect_at OpenRound o (t ∷ c ∷ rest) i) (bind_at _ (name_read t x (c ∷ rest) k) (bind_at _ (expect_at CloseRound c rest j) refl))

rows_at : (inner : List Token → Reply Tree) (w : Token) (ts : List Token) → Is Rows w → primary_of inner (w ∷ ts) ≡ (Reading.sized ts >>= λ x. Ok (TRows x.0, x.1))
rows_at inner w ts i = ap (λ q. primary_at inner q w ts) i

cols_at : (inner : List Token → Reply Tree) (w : Token) (ts : List Token) → Is Cols w → primary_of inner (w ∷ ts) ≡ (Reading.sized ts >>= λ x. Ok (TCols x.0, x.1))
cols_at inner w ts i = ap (λ q. primary_at inner q w ts) i

round_at : (inner : List Token → Reply Tree) (o : Token) (ts : List Token) → Is OpenRound o → primary_of inner (o ∷ ts) ≡ Reading.bracketed inner ts
round_at inner o ts i = rw (i, primary_of) refl

int_at : (inner : List Token → Reply Tree) (t : Token) (n : ℤ) (ts : List Token) → IsLiteral t n → primary_of inner (t ∷ ts) ≡ Ok (TInt n t.place, ts)
int_at inner t n ts k = rw (k, primary_of) refl

not_minus : (inner : List Token → Reply Tree) (t : Token) (ts : List Token) → is_fixed Minus t.kind ≡ false → unary_of inner (t ∷ ts) ≡ primary_of inner (t ∷ ts)
not_minus inner t ts h = rw (h, unary_of) refl

minus_at : (inner : List Token → Reply Tree) (t : Token) (ts : List Token) → Is Minus t → unary_of inner (t ∷ ts) ≡ (unary_of inner ts >>= λ e. Ok (TNeg e.0 t.place, e.1))
minus_at inner t ts i = rw (i, unary_of) refl

-- a primary expression doesn't begin with a minus
primary_unary : {ts rest : List Token} {e : Tree} (inner : List Token → Reply Tree) → IsPrimary ts e rest → unary_of inner ts ≡ primary_of inner ts
primary_unary inner (literal {t} {rest} k) = not_minus inner t rest (rw k refl)
primary_unary inner (variable {t} {rest} k) = not_minus inner t rest (rw k.named refl)
primary_unary inner (cell {t} {o} {c} {o2} {c2} {ts} k i a j p b q) = not_minus inner t (o ∷ ts) (rw k.named refl)
primary_unary inner (rows {w} {o} {t} {c} {rest} a b k d) = not_minus inner w (o ∷ t ∷ c ∷ rest) (rw a refl)
primary_unary inner (cols {w} {o} {t} {c} {rest} a b k d) = not_minus inner w (o ∷ t ∷ c ∷ rest) (rw a refl)
primary_unary inner (bracketed {o} {c} {ts} i z j) = not_minus inner o ts (rw i refl)

chain_one : (item : List Token → Reply Tree) (t : Token) (us rest : List Token) (o : BinOp) (a b : Tree) → compare_op_of t.kind ≡ Some o → item us ≡ Ok (b, rest) →
    chain_rest item compare_op_of 1 a (t ∷ us) ≡ Ok (TBin o t.place a b, rest)
chain_one item t us rest o a b h k = rw (h, chain_rest) (bind_at _ k refl)

-- a chain at whose end no operator stands is whole
ended : {read : Reply Tree} {item : List Token → Reply Tree} {op : Kind → Option BinOp} {left : Tree} (rest : List Token) → Continues read item op left rest → NoOp op rest → read ≡ Ok (left, rest)
ended [] c h = Continues-end c refl
ended (t ∷ ts) c h = Continues-stop t ts c refl h

whole : (item : List Token → Reply Tree) (op : Kind → Option BinOp) (m : ℕ) (left : Tree) (rest : List Token) → NoOp op rest → chain_rest item op m left rest ≡ Ok (left, rest)
whole item op m left [] h = chain_end item op m left
whole item op m left (t ∷ ts) h = chain_stop item op m left t ts h

mutual
  pub complete_primary : {ts rest : List Token} {e : Tree} → IsPrimary ts e rest → (n : ℕ) → length ts ≤ n → NoIndex rest → primary_of (nested n) ts ≡ Ok (e, rest)
  complete_primary (literal {t} {rest} {n = i} k) n l h = int_at (nested n) t i rest k
  complete_primary (variable {t} {rest} {x} k) n l h = names_plain (nested n) t x rest k h
  complete_primary (cell {t} {o} {c} {o2} {c2} {ts} {us} {rest} {x} {a} {b} k i za ic io zb ic2) n l h =
      let la = shorter_expr za in
      let lb = shorter_expr zb in
      names_cell (nested n) t x o ts k i
      ∙ bind_at _ (nested_at n ts _ (omega arith) (λ m l. complete_expr za m l (stop_sign CloseSquare c (o2 ∷ us) ic refl refl refl refl)))
      (bind_at _ (expect_at CloseSquare c (o2 ∷ us) ic)
      (bind_at _ (expect_at OpenSquare o2 us io)
      (bind_at _ (nested_at n us _ (omega arith) (λ m l. complete_expr zb m l (stop_sign CloseSquare c2 rest ic2 refl refl refl refl)))
      (bind_at _ (expect_at CloseSquare c2 rest ic2) refl))))
  complete_primary (rows {w} {o} {t} {c} {rest} {x} a b k d) n l h = rows_at (nested n) w (o ∷ t ∷ c ∷ rest) a ∙ bind_at _ (sized_read o t c x rest b k d) refl
  complete_primary (cols {w} {o} {t} {c} {rest} {x} a b k d) n l h = cols_at (nested n) w (o ∷ t ∷ c ∷ rest) a ∙ bind_at _ (sized_read o t c x rest b k d) refl
  complete_primary (bracketed {o} {c} {ts} {rest} {e} i z j) n l h =
      round_at (nested n) o ts i
      ∙ bind_at _ (nested_at n ts _ (omega arith) (λ m l. complete_expr z m l (stop_sign CloseRound c rest j refl refl refl refl)))
      (bind_at _ (expect_at CloseRound c rest j) refl)

  pub complete_unary : {ts rest : List Token} {e : Tree} → IsUnary ts e rest → (n : ℕ) → length ts ≤ n → NoIndex rest → U n ts ≡ Ok (e, rest)
  complete_unary (primary z) n l h = primary_unary (nested n) z ∙ complete_primary z n l h
  complete_unary (negated {t} {ts} i z) n l h = minus_at (nested n) t ts i ∙ bind_at _ (complete_unary z n (omega arith) h) refl

  pub complete_product : {ts rest : List Token} {e : Tree} → IsProduct ts e rest → (n : ℕ) → length ts ≤ n → NoIndex rest → Continues (P n ts) (U n) product_op_of e rest
  complete_product (factor {ts} {rest} {e} z) n l h =
      let q = shorter_unary z in
      Continues-start (U n) product_op_of n ts rest e (complete_unary z n l h) (omega arith)
  complete_product (times {ts} {mid} {rest} {t} {s} {op = o} {a} {b} za i p zb) n l h =
      let qa = shorter_product za in
      let ih = complete_product za n l (rw i (no_index_product s o p)) in
      Continues-step t mid rest o b ih refl (op_found product_fixed s t o i p) (complete_unary zb n (omega arith) h) (shorter_unary zb)

  pub complete_sum : {ts rest : List Token} {e : Tree} → IsSum ts e rest → (n : ℕ) → length ts ≤ n → NoIndex rest → NoOp product_op_of rest → Continues (S n ts) (P n) sum_op_of e rest
  complete_sum (one {ts} {rest} {e} z) n l h k =
      let q = shorter_product z in
      Continues-start (P n) sum_op_of n ts rest e (ended rest (complete_product z n l h) k) (omega arith)
  complete_sum (more {ts} {mid} {rest} {t} {s} {op = o} {a} {b} za i p zb) n l h k =
      let qa = shorter_sum za in
      let ih = complete_sum za n l (rw i (no_index_sum s o p)) (rw i (no_product_sum s o p)) in
      Continues-step t mid rest o b ih refl (op_found sum_fixed s t o i p) (ended rest (complete_product zb n (omega arith) h) k) (shorter_product zb)

  pub complete_expr : {ts rest : List Token} {e : Tree} → IsExpr ts e rest → (n : ℕ) → length ts ≤ n → Stop rest → E n ts ≡ Ok (e, rest)
  complete_expr (plain {ts} {rest} {e} z) n l h =
      bind_at _ (ended rest (complete_sum z n l h.index h.product) h.sum) (whole (S n) compare_op_of 1 e rest h.compare)
  complete_expr (compare {ts} {mid} {rest} {t} {s} {op = o} {a} {b} za i p zb) n l h =
      let qa = shorter_sum za in
      bind_at _ (ended (t ∷ mid) (complete_sum za n l (rw i (no_index_compare s o p)) (rw i (no_product_compare s o p))) (rw i (no_sum_compare s o p)))
      (chain_one (S n) t mid rest o a b (op_found compare_fixed s t o i p) (ended rest (complete_sum zb n (omega arith) h.index h.product) h.sum))

pub expr_read : {ts rest : List Token} {e : Tree} → IsExpr ts e rest → (n : ℕ) → length ts ≤ n → Stop rest → Reading.expr n ts ≡ Ok (e, rest)
unfolding Reading.expr Reading.sum Reading.product Reading.unary
expr_read z n l h = complete_expr z n l h
