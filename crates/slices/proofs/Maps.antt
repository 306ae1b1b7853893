-- Finite maps of cells: what they give at a place, and when two are equal.
use Rattle.std.proofs.Common.{◌≡◌, ℕ, zero, suc, ◌+◌, ◌*◌, ◌/◌, ◌%◌, ◌<◌, ◌≤◌, ◌⊎◌, inl, inr, Bool}
use Rattle.std.proofs.Common.{true, false, cond, List, [], ◌∷◌, Option, None, Some, refl, sym, ◌∙◌}
use Rattle.std.proofs.Common.{ap, subst, arith, mul-zero}
use Rattle.std.proofs.lemmas.Bool.{cases_lt, cases_eq, eq-eqb, ne_eqb, lt-ltb, le-ltb, and_right}
use Rattle.std.proofs.lemmas.Bool.{false≢true}
use Rattle.std.specs.Prelude.{ℤ, pos, negsuc, ◌&&◌, nat_lt, nat_eq}
use Rattle.std.specs.declared.cmp.Ordering.{Ordering}
use Rattle.std.specs.declared.cmp.Ordering.TheVariants.{Less, Equal, Greater}
use Rattle.std.specs.Ordering.{int_cmp, ordering_then, eq_by_cmp, is_eq}
use Rattle.std.specs.Cmp.{IsTotalOrder, eq_by_cmp_equiv, on_total, then_total, int_cmp_total}
use Rattle.std.specs.FinMap.{IsAntisymmetric, int_cmp-IsAntisymmetric, get, insert, retain_keys}
use Rattle.std.specs.FinMap.{entries, find, get-empty, get-insert, get-retain_keys, get-entries}
use Rattle.std.specs.FinMap.{same_map}
use Rattle.slices.specs.Cells.{Cells, place_cmp, place_of, at_place, with_number, first_cells, over}
use Rattle.slices.specs.Cells.{union}
use Rattle.slices.specs.Spans.{or_else}
use Rattle.slices.proofs.SpanLists.{or_else-none}
use Rattle.std.proofs.lemmas.Nat.{div-mul-add, mod-mul-add}
use Rattle.std.proofs.Math.Nat.{mul-le-mul_left}

pub place_total : IsTotalOrder place_cmp
place_total = then_total (on_total (λ (p : ℤ × ℤ). p.0) int_cmp_total) (on_total (λ (p : ℤ × ℤ). p.1) int_cmp_total)

-- places that tie are the same
pub place_only : IsAntisymmetric place_cmp
place_only p q e = by_rows (int_cmp p.0 q.0) refl e
  where
    by_rows : (o : Ordering) → int_cmp p.0 q.0 ≡ o → ordering_then o (int_cmp p.1 q.1) ≡ Equal → p ≡ q
    by_rows Less r s = absurd (false≢true (ap is_eq s))
    by_rows Equal r s = λ i. (int_cmp-IsAntisymmetric p.0 q.0 r i, int_cmp-IsAntisymmetric p.1 q.1 s i)
    by_rows Greater r s = absurd (false≢true (ap is_eq s))

-- two maps with the same number at each place are equal
pub same_cells : (m n : Cells) → ((row col : ℤ) → get m (row, col) ≡ get n (row, col)) → m ≡ n
same_cells m n f = same_map place_total place_only m n (λ q. f q.0 q.1)

tie_of_eq : (p q : ℤ × ℤ) → p ≡ q → eq_by_cmp place_cmp p q ≡ true
tie_of_eq p q e = subst (λ r. eq_by_cmp place_cmp p r ≡ true) e ((eq_by_cmp_equiv place_total).refl p)

no_tie : (p q : ℤ × ℤ) → (p ≡ q → ⊥) → eq_by_cmp place_cmp p q ≡ false
no_tie p q f = by_order (place_cmp p q) refl
  where
    by_order : (o : Ordering) → place_cmp p q ≡ o → is_eq o ≡ false
    by_order Less r = refl
    by_order Equal r = absurd (f (place_only p q r))
    by_order Greater r = refl

-- an entry put where it doesn't stand yet
put_elsewhere : (v : Option ℤ) (p q : ℤ × ℤ) (m : Cells) → (q ≡ p → ⊥) → get (with_number v p m) q ≡ get m q
put_elsewhere None p q m f = refl
put_elsewhere (Some x) p q m f = get-insert place_total m p x q ∙ ap (λ b. cond b (Some x) (get m q)) (no_tie q p f)

put_here : (v : Option ℤ) (p q : ℤ × ℤ) (m : Cells) → q ≡ p → get (with_number v p m) q ≡ or_else v (get m q)
put_here None p q m e = refl
put_here (Some x) p q m e = get-insert place_total m p x q ∙ ap (λ b. cond b (Some x) (get m q)) (tie_of_eq q p e)

-- what the first n cells, counted row by row, give at a place
abbrev at_first : ℕ → (ℕ → Option ℤ) → ℕ → ℤ → ℤ → Option ℤ
at_first cols f n (pos row) (pos col) = cond (nat_lt col cols && nat_lt (row * cols + col) n) (f (row * cols + col)) None
at_first cols f n (pos row) (negsuc col) = None
at_first cols f n (negsuc row) (pos col) = None
at_first cols f n (negsuc row) (negsuc col) = None

both_tests : (a b c d : ℕ) (x : Option ℤ) → a < b → c < d → cond (nat_lt a b && nat_lt c d) x None ≡ x
both_tests a b c d x h k = ap (λ t. cond (t && nat_lt c d) x None) (lt-ltb a b h) ∙ ap (λ t. cond t x None) (lt-ltb c d k)

first_test : (a b c d : ℕ) (x : Option ℤ) → b ≤ a → cond (nat_lt a b && nat_lt c d) x None ≡ None
first_test a b c d x h = ap (λ t. cond (t && nat_lt c d) x None) (le-ltb a b h)

second_test : (a b c d : ℕ) (x : Option ℤ) → d ≤ c → cond (nat_lt a b && nat_lt c d) x None ≡ None
second_test a b c d x h = ap (λ t. cond t x None) (and_right (nat_lt a b) (nat_lt c d) (le-ltb c d h))

at_first_same : (cols : ℕ) (f : ℕ → Option ℤ) (n row col : ℕ) → (col < cols → row * cols + col ≡ n → ⊥) → at_first cols f (suc n) (pos row) (pos col) ≡ at_first cols f n (pos row) (pos col)
at_first_same cols f n row col g =
    elim (cases_lt col cols) [
      | inr h ↦ first_test col cols _ (suc n) _ h ∙ sym (first_test col cols _ n _ h)
      | inl h ↦ elim (cases_lt (row * cols + col) n) [
        | inl k ↦ both_tests col cols _ (suc n) _ h (omega (arith, k)) ∙ sym (both_tests col cols _ n _ h k)
        | inr k ↦ second_test col cols _ (suc n) _ (past k (g h)) ∙ sym (second_test col cols _ n _ k)
      ]
    ]
  where
    past : n ≤ row * cols + col → (row * cols + col ≡ n → ⊥) → suc n ≤ row * cols + col
    past k e = elim (cases_lt n (row * cols + col)) [ inl l ↦ l | inr l ↦ absurd (e (omega (arith, k, l))) ]

-- a place and its position
place_here : (cols n row col : ℕ) → col < cols → row * cols + col ≡ n → (pos row, pos col) ≡ place_of cols n
place_here cols n row col h e = subst (λ m. (pos row, pos col) ≡ place_of cols m) e (λ i. (pos (sym (div-mul-add row cols col h) i), pos (sym (mod-mul-add row cols col h) i)))

here_place : (cols n row col : ℕ) → 0 < cols → (pos row, pos col) ≡ place_of cols n → (col < cols) × (row * cols + col ≡ n)
here_place cols n row col z e =
    let r : row ≡ n / cols = cc (ap (λ (p : ℤ × ℤ). p.0) e) in
    let c : col ≡ n % cols = cc (ap (λ (p : ℤ × ℤ). p.1) e) in
    let l : n % cols < cols = omega (arith, z) in
    let m : cols * (n / cols) + n % cols ≡ n = omega (arith, z) in
    let q : cols * row ≡ cols * (n / cols) = ap (λ x. cols * x) r in
    (omega (arith, c, l), omega (arith, m, q, c))

first_at : (cols : ℕ) (f : ℕ → Option ℤ) → 0 < cols → (n : ℕ) (row col : ℤ) → get (first_cells cols f n) (row, col) ≡ at_first cols f n row col
unfolding first_cells
first_at cols f z zero (pos row) (pos col) = get-empty place_cmp (pos row, pos col) ∙ sym (second_test col cols (row * cols + col) 0 _ (omega arith))
first_at cols f z zero (pos row) (negsuc col) = get-empty place_cmp (pos row, negsuc col)
first_at cols f z zero (negsuc row) (pos col) = get-empty place_cmp (negsuc row, pos col)
first_at cols f z zero (negsuc row) (negsuc col) = get-empty place_cmp (negsuc row, negsuc col)
first_at cols f z (suc n) (pos row) (pos col) =
    let before = first_at cols f z n (pos row) (pos col) in
    let elsewhere : (col < cols → row * cols + col ≡ n → ⊥) → get (with_number (f n) (place_of cols n) (first_cells cols f n)) (pos row, pos col) ≡ at_first cols f (suc n) (pos row) (pos col) =
    λ g. put_elsewhere (f n) (place_of cols n) (pos row, pos col) (first_cells cols f n) (λ e. let h = here_place cols n row col z e in g h.0 h.1) ∙ before ∙ sym (at_first_same cols f n row col g) in
    elim (cases_lt col cols) [
      | inr h ↦ elsewhere (λ l _. omega (arith, l, h))
      | inl h ↦ elim (cases_eq (row * cols + col) n) [
        | inr k ↦ elsewhere (λ _ e. k e)
        | inl k ↦
            put_here (f n) (place_of cols n) (pos row, pos col) (first_cells cols f n) (place_here cols n row col h k)
            ∙ ap (or_else (f n)) (before ∙ second_test col cols (row * cols + col) n _ (omega (arith, k)))
            ∙ or_else-none (f n)
            ∙ ap f (sym k)
            ∙ sym (both_tests col cols (row * cols + col) (suc n) _ h (omega (arith, k)))
      ]
    ]
first_at cols f z (suc n) (pos row) (negsuc col) = put_elsewhere (f n) (place_of cols n) (pos row, negsuc col) (first_cells cols f n) (λ e. cc (ap (λ (p : ℤ × ℤ). p.1) e)) ∙ first_at cols f z n (pos row) (negsuc col)
first_at cols f z (suc n) (negsuc row) (pos col) = put_elsewhere (f n) (place_of cols n) (negsuc row, pos col) (first_cells cols f n) (λ e. cc (ap (λ (p : ℤ × ℤ). p.0) e)) ∙ first_at cols f z n (negsuc row) (pos col)
first_at cols f z (suc n) (negsuc row) (negsuc col) = put_elsewhere (f n) (place_of cols n) (negsuc row, negsuc col) (first_cells cols f n) (λ e. cc (ap (λ (p : ℤ × ℤ). p.0) e)) ∙ first_at cols f z n (negsuc row) (negsuc col)

-- a row and a column inside a size
pub inside_size : (rows cols row col : ℕ) → row < rows → col < cols → row * cols + col < rows * cols
inside_size rows cols row col h k = omega (arith, mul-le-mul_left cols h)

past_size : (rows cols row col : ℕ) → rows ≤ row → rows * cols ≤ row * cols + col
past_size rows cols row col h = omega (arith, mul-le-mul_left cols h)

no_first : (cols : ℕ) (f : ℕ → Option ℤ) (q : ℤ × ℤ) → get (first_cells cols f 0) q ≡ None
unfolding first_cells
no_first cols f q = get-empty place_cmp q

no_place : (rows : ℕ) (f : ℕ → Option ℤ) (row col : ℤ) → at_place rows 0 f row col ≡ None
no_place rows f (pos r) (pos c) = second_test r rows c 0 _ (omega arith)
no_place rows f (pos r) (negsuc c) = refl
no_place rows f (negsuc r) (pos c) = refl
no_place rows f (negsuc r) (negsuc c) = refl

-- what a map of all cells of a size gives
pub first_cells_at : (rows cols : ℕ) (f : ℕ → Option ℤ) (row col : ℤ) → get (first_cells cols f (rows * cols)) (row, col) ≡ at_place rows cols f row col
first_cells_at rows cols f row col = by_cols cols refl
  where
    no_cols : (c : ℕ) → c ≡ 0 → get (first_cells c f (rows * c)) (row, col) ≡ at_place rows c f row col
    no_cols c e = subst (λ n. get (first_cells n f (rows * n)) (row, col) ≡ at_place rows n f row col) (sym e) (ap (λ n. get (first_cells 0 f n) (row, col)) (mul-zero rows) ∙ no_first 0 f (row, col) ∙ sym (no_place rows f row col))

    sized : 0 < cols → (row' col' : ℤ) → at_first cols f (rows * cols) row' col' ≡ at_place rows cols f row' col'
    sized z (pos r) (pos c) =
        elim (cases_lt c cols) [
          | inr h ↦ first_test c cols (r * cols + c) (rows * cols) _ h ∙ sym (second_test r rows c cols _ h)
          | inl h ↦ elim (cases_lt r rows) [
            | inr k ↦ second_test c cols (r * cols + c) (rows * cols) _ (past_size rows cols r c k) ∙ sym (first_test r rows c cols _ k)
            | inl k ↦ both_tests c cols (r * cols + c) (rows * cols) _ h (inside_size rows cols r c k h) ∙ sym (both_tests r rows c cols _ k h)
          ]
        ]
    sized z (pos r) (negsuc c) = refl
    sized z (negsuc r) (pos c) = refl
    sized z (negsuc r) (negsuc c) = refl

    by_cols : (c : ℕ) → cols ≡ c → get (first_cells cols f (rows * cols)) (row, col) ≡ at_place rows cols f row col
    by_cols zero e = no_cols cols e
    by_cols (suc c) e = first_at cols f (omega (arith, e)) (rows * cols) row col ∙ sized (omega (arith, e)) row col

pub place_inside : (rows cols : ℕ) (f : ℕ → Option ℤ) (row col : ℕ) → row < rows → col < cols → at_place rows cols f (pos row) (pos col) ≡ f (row * cols + col)
place_inside rows cols f row col h k = both_tests row rows col cols _ h k

-- two countings that are related at each cell of a size are so at each place
pub at_each_place : (rows cols : ℕ) (R : Option ℤ → Option ℤ → ℤ × ℤ → Type 0) (f g : ℕ → Option ℤ) → ((p : ℤ × ℤ) → R None None p) → ((r c : ℕ) → r < rows → c < cols → R (f (r * cols + c)) (g (r * cols + c)) (pos r, pos c)) → (row col : ℤ) → R (at_place rows cols f row col) (at_place rows cols g row col) (row, col)
at_each_place rows cols R f g none some (pos r) (pos c) =
    elim (cases_lt r rows) [
      | inr h ↦ subst (λ v. R v (at_place rows cols g (pos r) (pos c)) (pos r, pos c)) (sym (first_test r rows c cols _ h)) (subst (λ v. R None v (pos r, pos c)) (sym (first_test r rows c cols _ h)) (none (pos r, pos c)))
      | inl h ↦ elim (cases_lt c cols) [
        | inr k ↦ subst (λ v. R v (at_place rows cols g (pos r) (pos c)) (pos r, pos c)) (sym (second_test r rows c cols _ k)) (subst (λ v. R None v (pos r, pos c)) (sym (second_test r rows c cols _ k)) (none (pos r, pos c)))
        | inl k ↦ subst (λ v. R v (at_place rows cols g (pos r) (pos c)) (pos r, pos c)) (sym (both_tests r rows c cols _ h k)) (subst (λ v. R (f (r * cols + c)) v (pos r, pos c)) (sym (both_tests r rows c cols _ h k)) (some r c h k))
      ]
    ]
at_each_place rows cols R f g none some (pos r) (negsuc c) = none (pos r, negsuc c)
at_each_place rows cols R f g none some (negsuc r) (pos c) = none (negsuc r, pos c)
at_each_place rows cols R f g none some (negsuc r) (negsuc c) = none (negsuc r, negsuc c)

cond_none : (b : Bool) → ◌≡◌ {A = Option ℤ} (cond b None None) None
cond_none true = refl
cond_none false = refl

-- the cells of a map whose places pass a test
pub cells_where : (rows cols : ℕ) (f g : ℕ → Option ℤ) (test : ℤ × ℤ → Bool) → ((r c : ℕ) → r < rows → c < cols → g (r * cols + c) ≡ cond (test (pos r, pos c)) (f (r * cols + c)) None) → first_cells cols g (rows * cols) ≡ retain_keys (first_cells cols f (rows * cols)) test
cells_where rows cols f g test h = same_cells _ _ (λ row col.
    first_cells_at rows cols g row col
    ∙ sym (at_each_place rows cols (λ v w p. cond (test p) v None ≡ w) f g (λ p. cond_none (test p)) (λ r c i j. sym (h r c i j)) row col)
    ∙ ap (λ v. cond (test (row, col)) v None) (sym (first_cells_at rows cols f row col))
    ∙ sym (get-retain_keys (first_cells cols f (rows * cols)) test (row, col) (λ x e. ap test (sym (place_only (row, col) x e)))))

get-over : (es : List ((ℤ × ℤ) × ℤ)) (m : Cells) (q : ℤ × ℤ) → get (over es m) q ≡ or_else (find place_cmp q es) (get m q)
unfolding over
get-over [] m q = refl
get-over (e ∷ es) m q = get-insert place_total (over es m) e.0 e.1 q ∙ ap (cond (eq_by_cmp place_cmp q e.0) (Some e.1)) (get-over es m q) ∙ chosen (eq_by_cmp place_cmp q e.0)
  where
    chosen : (b : Bool) → cond b (Some e.1) (or_else (find place_cmp q es) (get m q)) ≡ or_else (cond b (Some e.1) (find place_cmp q es)) (get m q)
    chosen true = refl
    chosen false = refl

pub get-union : (m n : Cells) (q : ℤ × ℤ) → get (union m n) q ≡ or_else (get m q) (get n q)
get-union m n q = get-over (entries m) n q ∙ ap (λ v. or_else v (get n q)) (sym (get-entries m q))

-- the union of two maps
pub cells_union : (rows cols : ℕ) (f g h : ℕ → Option ℤ) → ((r c : ℕ) → r < rows → c < cols → h (r * cols + c) ≡ or_else (f (r * cols + c)) (g (r * cols + c))) → first_cells cols h (rows * cols) ≡ union (first_cells cols f (rows * cols)) (first_cells cols g (rows * cols))
cells_union rows cols f g h e = same_cells _ _ (λ row col.
    first_cells_at rows cols h row col
    ∙ both row col
    ∙ ap (λ v. or_else v (at_place rows cols g row col)) (sym (first_cells_at rows cols f row col))
    ∙ ap (or_else (get (first_cells cols f (rows * cols)) (row, col))) (sym (first_cells_at rows cols g row col))
    ∙ sym (get-union (first_cells cols f (rows * cols)) (first_cells cols g (rows * cols)) (row, col)))
  where
    both : (row col : ℤ) → at_place rows cols h row col ≡ or_else (at_place rows cols f row col) (at_place rows cols g row col)
    both (pos r) (pos c) = elim (cases_lt r rows) [
      | inr l ↦ first_test r rows c cols _ l ∙ sym (ap (λ v. or_else v (at_place rows cols g (pos r) (pos c))) (first_test r rows c cols _ l) ∙ first_test r rows c cols _ l)
      | inl l ↦ elim (cases_lt c cols) [
        | inr k ↦ second_test r rows c cols _ k ∙ sym (ap (λ v. or_else v (at_place rows cols g (pos r) (pos c))) (second_test r rows c cols _ k) ∙ second_test r rows c cols _ k)
        | inl k ↦ both_tests r rows c cols _ l k ∙ e r c l k ∙ sym (ap (λ v. or_else v (at_place rows cols g (pos r) (pos c))) (both_tests r rows c cols _ l k) ∙ ap (or_else (f (r * cols + c))) (both_tests r rows c cols _ l k))
      ]
    ]
    both (pos r) (negsuc c) = refl
    both (negsuc r) (pos c) = refl
    both (negsuc r) (negsuc c) = refl

-- one cell set
pub cells_insert : (rows cols : ℕ) (f g : ℕ → Option ℤ) (row col : ℕ) (value : ℤ) → row < rows → col < cols → ((i : ℕ) → g i ≡ cond (nat_eq i (row * cols + col)) (Some value) (f i)) → first_cells cols g (rows * cols) ≡ insert (first_cells cols f (rows * cols)) (pos row, pos col) value
cells_insert rows cols f g row col value h k e = same_cells _ _ (λ x y.
    first_cells_at rows cols g x y
    ∙ at x y
    ∙ ap (cond (eq_by_cmp place_cmp (x, y) (pos row, pos col)) (Some value)) (sym (first_cells_at rows cols f x y))
    ∙ sym (get-insert place_total (first_cells cols f (rows * cols)) (pos row, pos col) value (x, y)))
  where
    place : ℕ → ℕ → ℤ × ℤ
    place r c = (pos r, pos c)

    here : (r c : ℕ) → r < rows → c < cols → (place r c ≡ place row col) ⊎ (place r c ≡ place row col → ⊥) → g (r * cols + c) ≡ cond (eq_by_cmp place_cmp (place r c) (place row col)) (Some value) (f (r * cols + c))
    here r c i j (inl p) =
        let er : r ≡ row = cc (ap (λ (z : ℤ × ℤ). z.0) p) in
        let ec : c ≡ col = cc (ap (λ (z : ℤ × ℤ). z.1) p) in
        let same : r * cols + c ≡ row * cols + col = ap (λ z. z * cols + c) er ∙ ap (λ z. row * cols + z) ec in
        e (r * cols + c) ∙ ap (λ b. cond b (Some value) (f (r * cols + c))) (eq-eqb _ _ same) ∙ sym (ap (λ b. cond b (Some value) (f (r * cols + c))) (tie_of_eq (place r c) (place row col) p))
    here r c i j (inr p) =
        let apart : r * cols + c ≡ row * cols + col → ⊥ = λ q. p (place_here cols (row * cols + col) r c j q ∙ sym (place_here cols (row * cols + col) row col k refl)) in
        e (r * cols + c) ∙ ap (λ b. cond b (Some value) (f (r * cols + c))) (ne_eqb _ _ apart) ∙ sym (ap (λ b. cond b (Some value) (f (r * cols + c))) (no_tie (place r c) (place row col) p))

    cases_place : (r c : ℕ) → (place r c ≡ place row col) ⊎ (place r c ≡ place row col → ⊥)
    cases_place r c = elim (cases_eq r row) [
      | inr p ↦ inr (λ q. p (cc (ap (λ (z : ℤ × ℤ). z.0) q)))
      | inl p ↦ elim (cases_eq c col) [
        | inr t ↦ inr (λ q. t (cc (ap (λ (z : ℤ × ℤ). z.1) q)))
        | inl t ↦ inl (λ n. (pos (p n), pos (t n)))
      ]
    ]

    off : (p : ℤ × ℤ) → (at_place rows cols f p.0 p.1 ≡ None) → (at_place rows cols g p.0 p.1 ≡ None) → (p ≡ place row col → ⊥) → at_place rows cols g p.0 p.1 ≡ cond (eq_by_cmp place_cmp p (place row col)) (Some value) (at_place rows cols f p.0 p.1)
    off p a b n = b ∙ sym (ap (λ t. cond t (Some value) (at_place rows cols f p.0 p.1)) (no_tie p (place row col) n) ∙ a)

    at : (x y : ℤ) → at_place rows cols g x y ≡ cond (eq_by_cmp place_cmp (x, y) (place row col)) (Some value) (at_place rows cols f x y)
    at (pos r) (pos c) = elim (cases_lt r rows) [
      | inr l ↦ off (place r c) (first_test r rows c cols _ l) (first_test r rows c cols _ l) (λ q. let er : r ≡ row = cc (ap (λ (z : ℤ × ℤ). z.0) q) in omega (arith, l, h, er))
      | inl l ↦ elim (cases_lt c cols) [
        | inr t ↦ off (place r c) (second_test r rows c cols _ t) (second_test r rows c cols _ t) (λ q. let ec : c ≡ col = cc (ap (λ (z : ℤ × ℤ). z.1) q) in omega (arith, t, k, ec))
        | inl t ↦ both_tests r rows c cols _ l t ∙ here r c l t (cases_place r c) ∙ ap (cond (eq_by_cmp place_cmp (place r c) (place row col)) (Some value)) (sym (both_tests r rows c cols _ l t))
      ]
    ]
    at (pos r) (negsuc c) = off (pos r, negsuc c) refl refl (λ q. cc (ap (λ (z : ℤ × ℤ). z.1) q))
    at (negsuc r) (pos c) = off (negsuc r, pos c) refl refl (λ q. cc (ap (λ (z : ℤ × ℤ). z.0) q))
    at (negsuc r) (negsuc c) = off (negsuc r, negsuc c) refl refl (λ q. cc (ap (λ (z : ℤ × ℤ). z.0) q))
