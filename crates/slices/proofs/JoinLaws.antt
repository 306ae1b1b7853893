-- What is cut out and appended again is what was there.
use Rattle.std.proofs.Common.{◌≡◌, Bool, true, false, cond, not, Option, None, Some, refl, sym, ◌∙◌}
use Rattle.std.proofs.Common.{ap, subst}
use Rattle.std.proofs.lemmas.Bool.{false≢true}
use Rattle.std.specs.Prelude.{ℤ, ◌&&◌, int_lt, IsSome}
use Rattle.std.specs.Ordering.{int_eq}
use Rattle.std.specs.FinMap.{get-retain_keys}
use Rattle.slices.specs.Holding.{Holding, cell_at, held_where, together, own, CommonCell}
use Rattle.slices.specs.Holding.{rows_below, rows_from, without_row, row_below, row_from}
use Rattle.slices.specs.Spans.{or_else}
use Rattle.slices.proofs.Maps.{same_cells, get-union, place_only}

-- what is held for a place that passes a test, and for one that doesn't
pub cell_at-held_where : (test : ℤ × ℤ → Bool) (h : Holding) (row col : ℤ) → cell_at (held_where test h) row col ≡ cond (test (row, col)) (cell_at h row col) None
cell_at-held_where test h row col = get-retain_keys h.cells test (row, col) (λ x e. ap test (sym (place_only (row, col) x e)))

pub cell_at-together : (h upper : Holding) (row col : ℤ) → cell_at (together h upper) row col ≡ or_else (cell_at h row col) (cell_at upper row col)
cell_at-together h upper row col = get-union h.cells upper.cells (row, col)

-- two values with the same number for each place are equal
pub same_holding : (h k : Holding) → h.rows ≡ k.rows → h.cols ≡ k.cols → ((row col : ℤ) → cell_at h row col ≡ cell_at k row col) → h.owned ≡ k.owned → h ≡ k
same_holding h k r c e o = λ i. record { rows = r i; cols = c i; cells = same_cells h.cells k.cells e i; owned = o i }

-- no cell is in both, since no place passes both tests
no_place_in_both : (a b : Bool) (v : Option ℤ) → (a && b) ≡ false → IsSome (cond a v None) → IsSome (cond b v None) → ⊥
no_place_in_both true true v e s t = false≢true (sym e)
no_place_in_both true false v e s t = false≢true t
no_place_in_both false b v e s t = false≢true s

pub where_apart : (p q : ℤ × ℤ → Bool) (h : Holding) → ((place : ℤ × ℤ) → (p place && q place) ≡ false) → CommonCell (held_where p h) (held_where q h) → ⊥
where_apart p q h e (row, col, s, t) =
    no_place_in_both (p (row, col)) (q (row, col)) (cell_at h row col) (e (row, col)) (subst IsSome (cell_at-held_where p h row col) s) (subst IsSome (cell_at-held_where q h row col) t)

and-not : (a : Bool) → (a && not a) ≡ false
and-not true = refl
and-not false = refl

split_in_two : (a : Bool) (v : Option ℤ) → or_else (cond a v None) (cond (not a) v None) ≡ v
split_in_two true None = refl
split_in_two true (Some x) = refl
split_in_two false v = refl

pub rows_apart : (h : Holding) (at : ℤ) → CommonCell (rows_below h at) (rows_from h at) → ⊥
rows_apart h at = where_apart (λ p. int_lt p.0 at) (λ p. not (int_lt p.0 at)) h (λ p. and-not (int_lt p.0 at))

pub rows_again : (h : Holding) (at : ℤ) → together (rows_below h at) (rows_from h at) ≡ own h
rows_again h at = same_holding _ _ refl refl (λ row col.
    cell_at-together (rows_below h at) (rows_from h at) row col
    ∙ (λ i. or_else (cell_at-held_where (λ p. int_lt p.0 at) h row col i) (cell_at-held_where (λ p. not (int_lt p.0 at)) h row col i))
    ∙ split_in_two (int_lt row at) (cell_at h row col)) refl

first_two : (a b : Bool) → (not a && (a && b)) ≡ false
first_two true b = refl
first_two false b = refl

split_in_three : (a b : Bool) (v : Option ℤ) → or_else (or_else (cond (not a) v None) (cond (a && b) v None)) (cond (a && not b) v None) ≡ v
split_in_three true true None = refl
split_in_three true true (Some x) = refl
split_in_three true false v = refl
split_in_three false b None = refl
split_in_three false b (Some x) = refl

pub lower_apart : (h : Holding) (row at : ℤ) → CommonCell (without_row h row) (row_below h row at) → ⊥
lower_apart h row at = where_apart (λ p. not (int_eq p.0 row)) (λ p. int_eq p.0 row && int_lt p.1 at) h (λ p. first_two (int_eq p.0 row) (int_lt p.1 at))

cells_at : (h : Holding) (row at x y : ℤ) → cell_at (together (without_row h row) (row_below h row at)) x y ≡ or_else (cond (not (int_eq x row)) (cell_at h x y) None) (cond (int_eq x row && int_lt y at) (cell_at h x y) None)
cells_at h row at x y =
    cell_at-together (without_row h row) (row_below h row at) x y
    ∙ (λ i. or_else (cell_at-held_where (λ p. not (int_eq p.0 row)) h x y i) (cell_at-held_where (λ p. int_eq p.0 row && int_lt p.1 at) h x y i))

third : (a b : Bool) (v : Option ℤ) → IsSome (or_else (cond (not a) v None) (cond (a && b) v None)) → IsSome (cond (a && not b) v None) → ⊥
third true true v s t = false≢true t
third true false v s t = false≢true s
third false b v s t = false≢true t

pub upper_apart : (h : Holding) (row at : ℤ) → CommonCell (together (without_row h row) (row_below h row at)) (row_from h row at) → ⊥
upper_apart h row at (x, y, s, t) =
    third (int_eq x row) (int_lt y at) (cell_at h x y) (subst IsSome (cells_at h row at x y) s) (subst IsSome (cell_at-held_where (λ p. int_eq p.0 row && not (int_lt p.1 at)) h x y) t)

pub cells_again : (h : Holding) (row at : ℤ) → together (together (without_row h row) (row_below h row at)) (row_from h row at) ≡ own h
cells_again h row at = same_holding _ _ refl refl (λ x y.
    cell_at-together (together (without_row h row) (row_below h row at)) (row_from h row at) x y
    ∙ (λ i. or_else (cells_at h row at x y i) (cell_at-held_where (λ p. int_eq p.0 row && not (int_lt p.1 at)) h x y i))
    ∙ split_in_three (int_eq x row) (int_lt y at) (cell_at h x y)) refl
