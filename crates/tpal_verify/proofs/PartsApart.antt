-- The parts into which a fork cuts a table have no cell in common, whatever their tasks do with them.
use Rattle.std.proofs.Common.{ℤ, Option, Some, None, refl, sym, subst, ◌∙◌}
use Rattle.std.proofs.lemmas.Bool.{false≢true}
use Rattle.std.specs.Prelude.{Bool, true, false, if◌then◌else◌, IsSome}
use Rattle.std.specs.FinMap.{get-empty}
use Rattle.slices.specs.Holding.{Holding, cell_at, SameSize, CommonCell, rows_below, rows_from, without_row, row_below, row_from}
use Rattle.slices.specs.Cells.{place_cmp}
use Rattle.slices.specs.Spans.{or_else}
use Rattle.slices.proofs.JoinLaws.{cell_at-together, rows_apart, lower_apart, upper_apart}
use Rattle.tpal_machine.specs.declared.cut.TableCut.{TableCut}
use Rattle.tpal_machine.specs.declared.cut.TableCut.TheVariants.{ByRows, ByCells, Whole}
use Rattle.tpal_machine.specs.Cut.{nothing_of, rest_of, left_of, child_of}
use Rattle.tpal_machine.specs.Merge.{AreParts}
use Rattle.tpal_verify.specs.Fits.{IsPartOf}

abbrev pub IsShared : TableCut → Type 0
IsShared (ByRows at) = ⊥
IsShared (ByCells row at) = ⊥
IsShared Whole = Unit {0}

pub no_cell : (h : Holding) (row col : ℤ) → IsSome (cell_at (nothing_of h) row col) → ⊥
no_cell h row col is = false≢true (subst IsSome (get-empty place_cmp (row, col)) is)

left_some : (a b : Option ℤ) → IsSome a → IsSome (or_else a b)
left_some None b is = absurd (false≢true is)
left_some (Some x) b is = refl

right_some : (a b : Option ℤ) → IsSome b → IsSome (or_else a b)
right_some None b is = is
right_some (Some x) b is = refl

-- what parts of two cut parts have in common is in both cut parts
common : (x y a b : Holding) → IsPartOf x a → IsPartOf y b → CommonCell x y → CommonCell a b
common x y a b p q (row, col, s, t) = (row, col, p.within row col s, q.within row col t)

module _ (cut : TableCut) (h x y : Holding) (not_whole : IsShared cut → ⊥) (p : IsPartOf x (left_of cut h)) (q : IsPartOf y (child_of cut h)) where
  sides_apart : CommonCell x y → ⊥
  sides_apart c = by cut p q not_whole
    where
      by : (k : TableCut) → IsPartOf x (left_of k h) → IsPartOf y (child_of k h) → (IsShared k → ⊥) → ⊥
      by (ByRows at) a b n = rows_apart h at (common x y (rows_below h at) (rows_from h at) a b c)
      by (ByCells row at) a b n =
          let z = common x y (row_below h row at) (row_from h row at) a b c in
          upper_apart h row at (z.0, z.1, subst IsSome (sym (cell_at-together (without_row h row) (row_below h row at) z.0 z.1)) (right_some (cell_at (without_row h row) z.0 z.1) (cell_at (row_below h row at) z.0 z.1) z.2), z.3)
      by Whole a b n = n tt

  left_apart : CommonCell (rest_of cut h) x → ⊥
  left_apart c = by cut p not_whole c
    where
      by : (k : TableCut) → IsPartOf x (left_of k h) → (IsShared k → ⊥) → CommonCell (rest_of k h) x → ⊥
      by (ByRows at) a n (row, col, s, t) = no_cell h row col s
      by (ByCells i at) a n (row, col, s, t) = lower_apart h i at (row, col, s, a.within row col t)
      by Whole a n z = n tt

  child_apart : CommonCell (rest_of cut h) y → ⊥
  child_apart c = by cut q not_whole c
    where
      by : (k : TableCut) → IsPartOf y (child_of k h) → (IsShared k → ⊥) → CommonCell (rest_of k h) y → ⊥
      by (ByRows at) a n (row, col, s, t) = no_cell h row col s
      by (ByCells i at) a n (row, col, s, t) =
          upper_apart h i at (row, col, subst IsSome (sym (cell_at-together (without_row h i) (row_below h i at) row col)) (left_some (cell_at (without_row h i) row col) (cell_at (row_below h i at) row col) s), a.within row col t)
      by Whole a n z = n tt

-- ---- sizes

pub rest_size : (cut : TableCut) (h : Holding) → SameSize (rest_of cut h) h
rest_size (ByRows at) h = (refl, refl)
rest_size (ByCells row at) h = (refl, refl)
rest_size Whole h = by (Rattle.tpal_machine.specs.Cut.is_whole h)
  where
    by : (b : Bool) → SameSize (if b then Rattle.slices.specs.Holding.shared h else h) h
    by true = (refl, refl)
    by false = (refl, refl)

pub left_size : (cut : TableCut) (h : Holding) → SameSize (left_of cut h) h
left_size (ByRows at) h = (refl, refl)
left_size (ByCells row at) h = (refl, refl)
left_size Whole h = by (Rattle.tpal_machine.specs.Cut.is_whole h)
  where
    by : (b : Bool) → SameSize (if b then Rattle.slices.specs.Holding.shared h else nothing_of h) h
    by true = (refl, refl)
    by false = (refl, refl)

pub child_size : (cut : TableCut) (h : Holding) → SameSize (child_of cut h) h
child_size (ByRows at) h = (refl, refl)
child_size (ByCells row at) h = (refl, refl)
child_size Whole h = by (Rattle.tpal_machine.specs.Cut.is_whole h)
  where
    by : (b : Bool) → SameSize (if b then Rattle.slices.specs.Holding.shared h else nothing_of h) h
    by true = (refl, refl)
    by false = (refl, refl)

module _ (cut : TableCut) (h x y : Holding) (not_whole : IsShared cut → ⊥) (p : IsPartOf x (left_of cut h)) (q : IsPartOf y (child_of cut h)) where
  -- the rest's part of a table that is cut, the left's and the child's
  pub rest_and_left : AreParts (rest_of cut h) x
  rest_and_left = record { size = ((rest_size cut h).0 ∙ sym (p.size.0 ∙ (left_size cut h).0), (rest_size cut h).1 ∙ sym (p.size.1 ∙ (left_size cut h).1)); apart = left_apart cut h x y not_whole p q }

  pub rest_and_child : AreParts (rest_of cut h) y
  rest_and_child = record { size = ((rest_size cut h).0 ∙ sym (q.size.0 ∙ (child_size cut h).0), (rest_size cut h).1 ∙ sym (q.size.1 ∙ (child_size cut h).1)); apart = child_apart cut h x y not_whole p q }

  pub left_and_child : AreParts x y
  left_and_child = record { size = (p.size.0 ∙ ((left_size cut h).0 ∙ sym (q.size.0 ∙ (child_size cut h).0)), p.size.1 ∙ ((left_size cut h).1 ∙ sym (q.size.1 ∙ (child_size cut h).1))); apart = sides_apart cut h x y not_whole p q }
