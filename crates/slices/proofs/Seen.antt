-- What a store is seen as, and tests of positions against rows and columns.
use Rattle.std.proofs.Common.{◌≡◌, ℕ, zero, suc, ◌+◌, ◌*◌, ◌/◌, ◌%◌, ◌<◌, ◌≤◌, inl, inr, Bool, true}
use Rattle.std.proofs.Common.{false, cond, not, List, is_some, Option, None, Some, refl, sym, ◌∙◌}
use Rattle.std.proofs.Common.{ap, subst, arith, add-zero}
use Rattle.std.proofs.lemmas.Bool.{cases_lt, cases_eq, eq-eqb, ne_eqb, lt-ltb, le-ltb, le-leb}
use Rattle.std.proofs.lemmas.Bool.{lt-leb, and_right, false≢true}
use Rattle.std.proofs.lemmas.Bool.Decides.{nat_tests}
use Rattle.std.proofs.Math.Nat.{mul-le-mul_left}
use Rattle.std.specs.Prelude.{ℤ, pos, ◌&&◌, nat_lt, nat_le, nat_eq, IsSome, IsTrue, Result, Ok, Err}
use Rattle.std.specs.Prelude.{OnErr}
use Rattle.std.specs.Bool.{OnTrue, OnFalse}
use Rattle.std.specs.Ordering.{int_eq, is_eq}
use Rattle.std.specs.declared.cmp.Ordering.TheVariants.{Less, Equal, Greater}
use Rattle.std.specs.Cmp.{int_eq_equiv}
use Rattle.std.specs.FinMap.{get, empty, insert}
use Rattle.slices.specs.Cells.{first_cells, at_place, StandsAt, with_number, place_of}
use Rattle.slices.specs.Holding.{Holding, held_where, with_cell, together, IsWhole, CommonCell}
use Rattle.slices.specs.Holding.{SameSize}
use Rattle.slices.specs.Spans.{or_else, between, spans_at, holders, AreApart}
use Rattle.slices.specs.Stored.{stored, store_at, is_owned}
use Rattle.slices.specs.declared.store.Store.{Store}
use Rattle.slices.specs.declared.spans.Span.{Span}
use Rattle.slices.proofs.Maps.{first_cells_at, cells_where, cells_union, cells_insert, inside_size}
use Rattle.slices.proofs.Maps.{place_inside, at_each_place}
use Rattle.slices.proofs.Cuts.{holders_none}
use Rattle.slices.proofs.SpanLists.{count_some, count_spans}

abbrev pub seen : ℕ → ℕ → (ℕ → Option ℤ) → Bool → Holding
seen rows cols f owned = record { rows = rows; cols = cols; cells = first_cells cols f (rows * cols); owned = owned }

pub seen_where : (rows cols : ℕ) (f g : ℕ → Option ℤ) (o p : Bool) (test : ℤ × ℤ → Bool) → ((r c : ℕ) → r < rows → c < cols → g (r * cols + c) ≡ cond (test (pos r, pos c)) (f (r * cols + c)) None) → p ≡ true → seen rows cols g p ≡ held_where test (seen rows cols f o)
seen_where rows cols f g o p test h e = λ i. record { rows = rows; cols = cols; cells = cells_where rows cols f g test h i; owned = e i }

pub seen_together : (rows cols : ℕ) (f g h : ℕ → Option ℤ) (o p q : Bool) → ((i : ℕ) → h i ≡ or_else (f i) (g i)) → q ≡ true → seen rows cols h q ≡ together (seen rows cols f o) (seen rows cols g p)
seen_together rows cols f g h o p q e t = λ i. record { rows = rows; cols = cols; cells = cells_union rows cols f g h (λ r c _ _. e (r * cols + c)) i; owned = t i }

pub seen_with : (rows cols : ℕ) (f g : ℕ → Option ℤ) (o p : Bool) (row col : ℤ) (at : ℕ) (value : ℤ) → StandsAt rows cols row col at → ((i : ℕ) → g i ≡ cond (nat_eq i at) (Some value) (f i)) → p ≡ true → seen rows cols g p ≡ with_cell (seen rows cols f o) row col value
seen_with rows cols f g o p row col at value (r, c, er, ec, h, k, ei) e t =
    let cells : first_cells cols g (rows * cols) ≡ insert (first_cells cols f (rows * cols)) (pos r, pos c) value = cells_insert rows cols f g r c value h k (λ i. e i ∙ ap (λ n. cond (nat_eq i n) (Some value) (f i)) ei) in
    λ i. record { rows = rows; cols = cols; cells = (cells ∙ (λ j. insert (first_cells cols f (rows * cols)) (sym er j, sym ec j) value)) i; owned = t i }

pub seen_same : (rows cols : ℕ) (f g : ℕ → Option ℤ) (o p : Bool) → ((i : ℕ) → g i ≡ f i) → p ≡ o → seen rows cols g p ≡ seen rows cols f o
seen_same rows cols f g o p e t = λ i. record { rows = rows; cols = cols; cells = first_cells cols (λ n. e n i) (rows * cols); owned = t i }

-- pieces in place of flat cells
pub opened_view : (rows cols : ℕ) (s o : Store) (h : Holding) → stored o ≡ stored s → is_owned o ≡ is_owned s → seen rows cols (store_at s) (is_owned s) ≡ h → seen rows cols (store_at o) (is_owned o) ≡ h
opened_view rows cols s o h e t v = seen_same rows cols (store_at s) (store_at o) (is_owned s) (is_owned o) (λ i. ap (λ xs. spans_at xs i) e) t ∙ v

-- the cell at a position
pub at_stands : (rows cols : ℕ) (f : ℕ → Option ℤ) (row col : ℤ) (i : ℕ) → StandsAt rows cols row col i → get (first_cells cols f (rows * cols)) (row, col) ≡ f i
at_stands rows cols f row col i (r, c, er, ec, h, k, ei) =
    first_cells_at rows cols f row col ∙ (λ j. at_place rows cols f (er j) (ec j)) ∙ place_inside rows cols f r c h k ∙ ap f (sym ei)

pub stands_below : (rows cols : ℕ) (row col : ℤ) (i : ℕ) → StandsAt rows cols row col i → i + 1 ≤ rows * cols
stands_below rows cols row col i (r, c, er, ec, h, k, ei) = omega (arith, inside_size rows cols r c h k, ei)

pub first_cells_none : (cols : ℕ) (f : ℕ → Option ℤ) (n : ℕ) → ((i : ℕ) → f i ≡ None) → first_cells cols f n ≡ empty
unfolding first_cells
first_cells_none cols f zero e = refl
first_cells_none cols f (suc n) e = ap (λ v. with_number v (place_of cols n) (first_cells cols f n)) (e n) ∙ first_cells_none cols f n e

pub whole_listed : (rows cols : ℕ) (f g : ℕ → Option ℤ) (row col : ℤ) → ((i : ℕ) → f i ≡ g i) → get (first_cells cols f (rows * cols)) (row, col) ≡ at_place rows cols g row col
whole_listed rows cols f g row col e = first_cells_at rows cols f row col ∙ (λ j. at_place rows cols (λ i. e i j) row col)

-- a position of a table as a row and a column
pub row_and_col : (rows cols i : ℕ) → i < rows * cols → (i / cols < rows) × (i % cols < cols) × (i / cols * cols + i % cols ≡ i)
row_and_col rows zero i h = absurd (omega (arith, h))
row_and_col rows (suc c) i h =
    let m : suc c * (i / suc c) + i % suc c ≡ i = omega arith in
    let l : i % suc c < suc c = omega arith in (
      elim (cases_lt (i / suc c) rows) [
        | inl k ↦ k
        | inr k ↦ absurd (omega (arith, m, h, mul-le-mul_left (suc c) k))
      ],
      l,
      omega (arith, m),
    )

pub held_at : (rows cols : ℕ) (f : ℕ → Option ℤ) (i : ℕ) → i < rows * cols → get (first_cells cols f (rows * cols)) (pos (i / cols), pos (i % cols)) ≡ f i
held_at rows cols f i h =
    let p = row_and_col rows cols i h in
    at_stands rows cols f (pos (i / cols)) (pos (i % cols)) i (i / cols, i % cols, refl, refl, p.0, p.1, sym p.2)

pub whole_iff : (rows cols : ℕ) (f : ℕ → Option ℤ) (o b : Bool) → OnTrue b ((i : ℕ) → i < rows * cols → IsSome (f i)) → OnFalse b ((i : ℕ) × (i < rows * cols) × (f i ≡ None)) → (IsTrue b → IsWhole (seen rows cols f o)) × (IsWhole (seen rows cols f o) → IsTrue b)
whole_iff rows cols f o true y n =
    (λ _ row col h k. subst IsSome (sym (at_stands rows cols f (pos row) (pos col) (row * cols + col) (row, col, refl, refl, h, k, refl))) (y (row * cols + col) (inside_size rows cols row col h k)), λ _. refl)
whole_iff rows cols f o false y (i, h, e) =
    let p = row_and_col rows cols i h in
    (λ t. absurd (false≢true t), λ w. absurd (false≢true (subst IsSome (held_at rows cols f i h ∙ e) (w (i / cols) (i % cols) p.0 p.1))))

-- the test of a position against the start of a row
pub row_test : (cols r c k : ℕ) → c < cols → nat_lt (r * cols + c) (k * cols) ≡ nat_lt r k
row_test cols r c k h =
    elim (cases_lt r k) [
      | inl l ↦ lt-ltb _ _ (omega (arith, mul-le-mul_left cols l)) ∙ sym (lt-ltb r k l)
      | inr l ↦ le-ltb _ _ (omega (arith, mul-le-mul_left cols l)) ∙ sym (le-ltb r k l)
    ]

pub row_test_from : (cols r c k end : ℕ) (v : Option ℤ) → c < cols → r * cols + c < end → between (k * cols) end (r * cols + c) v ≡ cond (not (nat_lt r k)) v None
row_test_from cols r c k end v h l =
    elim (cases_lt r k) [
      | inl m ↦ ap (λ b. cond (b && nat_lt (r * cols + c) end) v None) (lt-leb _ _ (omega (arith, mul-le-mul_left cols m))) ∙ sym (ap (λ b. cond (not b) v None) (lt-ltb r k m))
      | inr m ↦ ap (λ b. cond (b && nat_lt (r * cols + c) end) v None) (le-leb _ _ (omega (arith, mul-le-mul_left cols m))) ∙ ap (λ b. cond b v None) (lt-ltb _ _ l) ∙ sym (ap (λ b. cond (not b) v None) (le-ltb r k m))
    ]

pub cond-not : (b : Bool) (v w : Option ℤ) → cond b v w ≡ cond (not b) w v
cond-not true v w = refl
cond-not false v w = refl

-- two tests of a position against a stretch of the k-th row
pub in_stretch : (cols r c k from to : ℕ) → c < cols → to ≤ cols → nat_le (k * cols + from) (r * cols + c) && nat_lt (r * cols + c) (k * cols + to) ≡ nat_eq r k && (nat_le from c && nat_lt c to)
in_stretch cols r c k from to h l =
    elim (cases_lt r k) [
      | inl m ↦ ap (λ b. b && nat_lt (r * cols + c) (k * cols + to)) (lt-leb (k * cols + from) (r * cols + c) (omega (arith, mul-le-mul_left cols m))) ∙ sym (ap (λ b. b && (nat_le from c && nat_lt c to)) (ne_eqb r k (λ e. omega (arith, m, e))))
      | inr m ↦ elim (cases_eq r k) [
        | inl e ↦ (λ j. nat_le (sym e j * cols + from) (r * cols + c) && nat_lt (r * cols + c) (sym e j * cols + to)) ∙ here ∙ sym (ap (λ b. b && (nat_le from c && nat_lt c to)) (eq-eqb r k e))
        | inr n ↦ and_right (nat_le (k * cols + from) (r * cols + c)) (nat_lt (r * cols + c) (k * cols + to)) (le-ltb (r * cols + c) (k * cols + to) (omega (arith, l, mul-le-mul_left cols (above m n)))) ∙ sym (ap (λ b. b && (nat_le from c && nat_lt c to)) (ne_eqb r k n))
      ]
    ]
  where
    above : k ≤ r → (r ≡ k → ⊥) → suc k ≤ r
    above m n = elim (cases_lt k r) [ inl q ↦ q | inr q ↦ absurd (n (omega (arith, m, q))) ]

    here : nat_le (r * cols + from) (r * cols + c) && nat_lt (r * cols + c) (r * cols + to) ≡ nat_le from c && nat_lt c to
    here = grind (arith, nat_tests)

-- where neither reaches past the other
pub none_common : (n i : ℕ) (xs ys : List Span) → AreApart n xs → AreApart n ys → (IsSome (spans_at ys i) → spans_at xs i ≡ None) → holders xs i + holders ys i ≤ 1
none_common n i xs ys a b f =
    one (spans_at ys i) refl
  where
    one : (v : Option ℤ) → spans_at ys i ≡ v → holders xs i + holders ys i ≤ 1
    one None e = omega (arith, holders_none ys i e, (a i).0)
    one (Some x) e = omega (arith, holders_none xs i (f (ap (λ v. is_some v) e)), (b i).0)

-- a position that a span reaches lies in the table
pub reached_inside : (n i : ℕ) (xs : List Span) → AreApart n xs → IsSome (spans_at xs i) → i < n
reached_inside n i xs a s =
    elim (cases_lt i n) [
      | inl h ↦ h
      | inr h ↦ absurd (omega (arith, (a i).1 h, count_some (spans_at xs i) s, count_spans xs i))
    ]

and-true : (b : Bool) → (b && true) ≡ b
and-true true = refl
and-true false = refl

from_start : (k cols i : ℕ) (b : Bool) → (nat_le (k * cols) i && b) ≡ (nat_le (k * cols + 0) i && b)
from_start k cols i b = λ j. nat_le (sym (add-zero (k * cols)) j) i && b

pub row_stretch : (cols r c k : ℕ) → c < cols → nat_le (k * cols) (r * cols + c) && nat_lt (r * cols + c) (k * cols + cols) ≡ nat_eq r k
row_stretch cols r c k h = from_start k cols (r * cols + c) (nat_lt (r * cols + c) (k * cols + cols)) ∙ in_stretch cols r c k 0 cols h (omega arith) ∙ ap (λ b. nat_eq r k && (nat_le 0 c && b)) (lt-ltb c cols h) ∙ ap (λ b. nat_eq r k && (b && true)) (le-leb 0 c (omega arith)) ∙ and-true (nat_eq r k)

pub lower_stretch : (cols r c k m : ℕ) → c < cols → m ≤ cols → nat_le (k * cols) (r * cols + c) && nat_lt (r * cols + c) (k * cols + m) ≡ nat_eq r k && nat_lt c m
lower_stretch cols r c k m h l = from_start k cols (r * cols + c) (nat_lt (r * cols + c) (k * cols + m)) ∙ in_stretch cols r c k 0 m h l ∙ ap (λ b. nat_eq r k && (b && nat_lt c m)) (le-leb 0 c (omega arith))

pub upper_stretch : (cols r c k m : ℕ) → c < cols → nat_le (k * cols + m) (r * cols + c) && nat_lt (r * cols + c) (k * cols + cols) ≡ nat_eq r k && not (nat_lt c m)
upper_stretch cols r c k m h = in_stretch cols r c k m cols h (omega arith) ∙ ap (λ b. nat_eq r k && (nat_le m c && b)) (lt-ltb c cols h) ∙ ap (λ b. nat_eq r k && b) (and-true (nat_le m c) ∙ not_below)
  where
    not_below : nat_le m c ≡ not (nat_lt c m)
    not_below = elim (cases_lt c m) [ inl q ↦ lt-leb m c q ∙ sym (ap not (lt-ltb c m q)) | inr q ↦ le-leb m c q ∙ sym (ap not (le-ltb c m q)) ]

-- the answer on one counting, for another that is the same
pub full_same : (m n : ℕ) (f g : ℕ → Option ℤ) (b : Bool) → m ≡ n → ((i : ℕ) → f i ≡ g i) → OnTrue b ((i : ℕ) → i < m → IsSome (f i)) → OnFalse b ((i : ℕ) × (i < m) × (f i ≡ None)) → (OnTrue b ((i : ℕ) → i < n → IsSome (g i))) × (OnFalse b ((i : ℕ) × (i < n) × (g i ≡ None)))
full_same m n f g true e s y z = (λ i h. subst IsSome (s i) (y i (omega (arith, h, e))), tt)
full_same m n f g false e s y (i, h, o) = (tt, (i, omega (arith, h, e), sym (s i) ∙ o))

pub int_eq-pos : (a b : ℕ) → int_eq (pos a) (pos b) ≡ nat_eq a b
int_eq-pos a b =
    elim (cases_eq a b) [
      | inl e ↦ ap (λ z. int_eq (pos a) (pos z)) (sym e) ∙ int_eq_same a ∙ sym (eq-eqb a b e)
      | inr n ↦ apart n ∙ sym (ne_eqb a b n)
    ]
  where
    int_eq_same : (x : ℕ) → int_eq (pos x) (pos x) ≡ true
    int_eq_same x = int_eq_equiv.refl (pos x)

    above : b ≤ a → (a ≡ b → ⊥) → b < a
    above h n = elim (cases_lt b a) [ inl q ↦ q | inr q ↦ absurd (n (omega (arith, h, q))) ]

    apart : (a ≡ b → ⊥) → int_eq (pos a) (pos b) ≡ false
    apart n = elim (cases_lt a b) [
      | inl h ↦ ap (λ t. is_eq (cond t Less (cond (nat_lt b a) Greater Equal))) (lt-ltb a b h)
      | inr h ↦ ap (λ t. is_eq (cond t Less (cond (nat_lt b a) Greater Equal))) (le-ltb a b h) ∙ ap (λ t. is_eq (cond t Greater Equal)) (lt-ltb b a (above h n))
    ]

pub on_err : {T E P : Type 0} (r : Result T E) → P → OnErr r P
on_err (Ok x) p = tt
on_err (Err e) p = p

pub seen_size : (rows rows' cols cols' : ℕ) (f : ℕ → Option ℤ) (o : Bool) → rows ≡ rows' → cols ≡ cols' → seen rows cols f o ≡ seen rows' cols' f o
seen_size rows rows' cols cols' f o e t = λ i. record { rows = e i; cols = t i; cells = first_cells (t i) f (e i * t i); owned = o }

pub common_seen : (rows cols : ℕ) (f g : ℕ → Option ℤ) (o p : Bool) (i : ℕ) → i < rows * cols → IsSome (f i) → IsSome (g i) → CommonCell (seen rows cols f o) (seen rows cols g p)
common_seen rows cols f g o p i h s t = (pos (i / cols), pos (i % cols), subst IsSome (sym (held_at rows cols f i h)) s, subst IsSome (sym (held_at rows cols g i h)) t)

pub not_common_seen : (rows cols : ℕ) (f g : ℕ → Option ℤ) (o p : Bool) → ((i : ℕ) → IsSome (g i) → f i ≡ None) → CommonCell (seen rows cols f o) (seen rows cols g p) → ⊥
not_common_seen rows cols f g o p h (row, col, s, t) =
    at_each_place rows cols (λ v w _. IsSome v → IsSome w → ⊥) f g (λ _ a b. false≢true a) (λ r c _ _ a b. false≢true (subst IsSome (h (r * cols + c) b) a)) row col
    (subst IsSome (first_cells_at rows cols f row col) s) (subst IsSome (first_cells_at rows cols g row col) t)

pub apart_sum : (n : ℕ) (xs ys zs : List Span) → AreApart n xs → AreApart n ys → ((i : ℕ) → holders xs i + holders ys i ≤ 1) → ((i : ℕ) → holders zs i ≤ holders xs i + holders ys i) → AreApart n zs
apart_sum n xs ys zs a b f g i = (omega (arith, f i, g i), λ h. omega (arith, g i, (a i).1 h, (b i).1 h))

pub same_size : (rows cols rows' cols' : ℕ) (f g : ℕ → Option ℤ) (o p : Bool) (h u : Holding) → rows ≡ rows' → cols ≡ cols' → seen rows cols f o ≡ h → seen rows' cols' g p ≡ u → SameSize h u
same_size rows cols rows' cols' f g o p h u e t v w =
    (ap (λ x. x.rows) (sym v) ∙ e ∙ ap (λ x. x.rows) w, ap (λ x. x.cols) (sym v) ∙ t ∙ ap (λ x. x.cols) w)

pub no_common : (rows cols rows' cols' : ℕ) (f g : ℕ → Option ℤ) (o p : Bool) (h u : Holding) → rows ≡ rows' → cols ≡ cols' → seen rows cols f o ≡ h → seen rows' cols' g p ≡ u → ((i : ℕ) → IsSome (g i) → f i ≡ None) → CommonCell h u → ⊥
no_common rows cols rows' cols' f g o p h u e t v w no_ k =
    let sized : seen rows cols g p ≡ u = seen_size rows rows' cols cols' g p e t ∙ w in
    not_common_seen rows cols f g o p no_ (subst (λ x. CommonCell (seen rows cols f o) x) (sym sized) (subst (λ x. CommonCell x u) (sym v) k))

pub joined_holdings : (rows cols rows' cols' : ℕ) (f g k : ℕ → Option ℤ) (o p q : Bool) (h u : Holding) → rows ≡ rows' → cols ≡ cols' → seen rows cols f o ≡ h → seen rows' cols' g p ≡ u → ((i : ℕ) → k i ≡ or_else (f i) (g i)) → q ≡ true → seen rows cols k q ≡ together h u
joined_holdings rows cols rows' cols' f g k o p q h u e t v w j y =
    let sized : seen rows cols g p ≡ u = seen_size rows rows' cols cols' g p e t ∙ w in
    seen_together rows cols f g k o p q j y ∙ (λ i. together (v i) (sized i))
