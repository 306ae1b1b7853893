-- Cells of a table, and of what is held of it.
use Rattle.std.proofs.Common.{◌≡◌, ◌≢◌, ℕ, ◌+◌, ◌*◌, ◌/◌, ◌%◌, ◌<◌, Bool, true, false, cond, List}
use Rattle.std.proofs.Common.{[], ◌∷◌, length, Option, None, Some, bytes_eq, Vec, refl, ap, sym}
use Rattle.std.proofs.Common.{subst, ◌∙◌, arith}
use Rattle.std.specs.Prelude.{ℤ, pos, negsuc, ◌&&◌, nat_lt, slice_get, slice_set, All}
use Rattle.std.specs.declared.cmp.Ordering.{Ordering}
use Rattle.std.specs.declared.cmp.Ordering.TheVariants.{Less, Equal, Greater}
use Rattle.std.specs.declared.alloc.Global.{Global}
use Rattle.std.specs.Cmp.{eq_by_cmp_equiv}
use Rattle.std.specs.FinMap.{get-insert}
use Rattle.std.specs.Ordering.{eq_by_cmp, is_eq}
use Rattle.std.proofs.lemmas.Bool.{true≢false}
use Rattle.std.proofs.lemmas.Bool.Decides.{nat_tests}
use Rattle.std.proofs.lemmas.Slice.Eq.{bytes_eq-Decides}
use Rattle.std.proofs.lemmas.List.{get_or-set_same, get_or-set_other, length-set}
use Rattle.std.proofs.lemmas.List.Elements.{All-nil, All-cons, All-head, All-tail, All-set}
use Rattle.std.proofs.lemmas.Nat.{div-mul-add, mod-mul-add}
use Rattle.std.proofs.lemmas.Option.{slice_get-get_or}
use Rattle.slices.specs.Cells.{at_place, first_cells, place_cmp}
use Rattle.slices.specs.Holding as held
use Rattle.slices.specs.Holding.{Holding, cell_at}
use Rattle.slices.proofs.Maps.{first_cells_at, inside_size, place_inside, place_only, place_total}
use Rattle.tp_value.specs.declared.Table.{Table}
use Rattle.loop_meaning.specs.InRange.{InRange, TableInRange}
use Rattle.loop_meaning.specs.State.{table_of, has_cell, cell_of, cell_number, with_cell}
use Rattle.loop_meaning.specs.State.{write_cell}
use Rattle.tpal_machine.specs.Reading.{table_at}
use Rattle.expr_lower.specs.Scopes.{number_in, has_table_in}
use Rattle.scene_laws.specs.Tables.{IsWholeOf}
use Rattle.scene_laws.proofs.Scenes.Regions.{Extent, Wholly, Has, Unknown, Region, HasCell, IsPart}
use Rattle.scene_laws.proofs.Scenes.Regions.{IsShown, AreShown, part_cell}
use Rattle.scene_laws.proofs.Scenes.Tables.{table_names, listed_names}

-- ---- the cells that a table has

-- a row and a column inside a table
pub record Inside (t : Table) (i j : ℤ) : Type 0 where
  pub row : ℕ
  pub col : ℕ
  pub is_row : i ≡ pos row
  pub is_col : j ≡ pos col
  pub low : row < t.rows
  pub left : col < t.cols

front_of : (x y : Bool) → (x && y) ≡ true → x ≡ true
front_of true y both = refl
front_of false y both = both

back_of : (x y : Bool) → (x && y) ≡ true → y ≡ true
back_of true y both = both
back_of false y both = cc

pub inside : (t : Table) (i j : ℤ) → has_cell t i j ≡ true → Inside t i j
inside t (pos r) (pos c) has =
    let in_rows : nat_lt r t.rows ≡ true = front_of (nat_lt r t.rows) (nat_lt c t.cols) has in
    let in_cols : nat_lt c t.cols ≡ true = back_of (nat_lt r t.rows) (nat_lt c t.cols) has in
    record { row = r; col = c; is_row = refl; is_col = refl; low = grind (arith, nat_tests); left = grind (arith, nat_tests) }
inside t (pos r) (negsuc c) has = absurd (true≢false (sym (back_of (nat_lt r t.rows) false has)))
inside t (negsuc r) j has = absurd (true≢false (sym has))

-- its number is one of those of the table's cells
pub number_inside : (t : Table) (i j : ℤ) → length t.cells ≡ t.rows * t.cols → has_cell t i j ≡ true → cell_number t i j < length t.cells
number_inside t i j full has = go (inside t i j has)
  where
    go : Inside t i j → cell_number t i j < length t.cells
    go h = rw (h.is_row, h.is_col) (omega (arith, full, inside_size t.rows t.cols h.row h.col h.low h.left))

-- cells with the same number are the same
same_cell : (t : Table) (i j a b : ℤ) → has_cell t i j ≡ true → has_cell t a b ≡ true → cell_number t a b ≡ cell_number t i j → ◌≡◌ {A = ℤ × ℤ} (a, b) (i, j)
same_cell t i j a b has other same = go (inside t i j has) (inside t a b other)
  where
    go : Inside t i j → Inside t a b → ◌≡◌ {A = ℤ × ℤ} (a, b) (i, j)
    go h k =
        let first : cell_number t a b ≡ k.row * t.cols + k.col = rw (k.is_row, k.is_col) refl in
        let second : cell_number t i j ≡ h.row * t.cols + h.col = rw (h.is_row, h.is_col) refl in
        let numbers : k.row * t.cols + k.col ≡ h.row * t.cols + h.col = sym first ∙ (same ∙ second) in
        let rows : k.row ≡ h.row = sym (div-mul-add k.row t.cols k.col k.left) ∙ (ap (λ n. n / t.cols) numbers ∙ div-mul-add h.row t.cols h.col h.left) in
        let cols : k.col ≡ h.col = sym (mod-mul-add k.row t.cols k.col k.left) ∙ (ap (λ n. n % t.cols) numbers ∙ mod-mul-add h.row t.cols h.col h.left) in
        λ n. ((k.is_row ∙ (ap pos rows ∙ sym h.is_row)) n, (k.is_col ∙ (ap pos cols ∙ sym h.is_col)) n)

-- ---- tables that are wholly held

-- the counting row by row gives nothing outside the table
place_outside : (t : Table) (value_of : ℕ → Option ℤ) (i j : ℤ) → has_cell t i j ≡ false → at_place t.rows t.cols value_of i j ≡ None
place_outside t value_of (pos r) (pos c) is_not = rw is_not refl
place_outside t value_of (pos r) (negsuc c) is_not = refl
place_outside t value_of (negsuc r) (pos c) is_not = refl
place_outside t value_of (negsuc r) (negsuc c) is_not = refl

-- what is held of all cells, counted row by row, where these are the table's
pub counted_whole : (t : Table) (value_of : ℕ → Option ℤ) → length t.cells ≡ t.rows * t.cols → ((r c : ℕ) → r < t.rows → c < t.cols → value_of (r * t.cols + c) ≡ Some (cell_of t (pos r) (pos c)))
    → IsWholeOf (record { rows = t.rows; cols = t.cols; cells = first_cells t.cols value_of (t.rows * t.cols); owned = true }) t
counted_whole t value_of full are = record { rows = refl; cols = refl; full = full; cells = λ i j has. at_cell i j (inside t i j has); outside = none_at }
  where
    at_cell : (i j : ℤ) → Inside t i j → cell_at (record { rows = t.rows; cols = t.cols; cells = first_cells t.cols value_of (t.rows * t.cols); owned = true }) i j ≡ Some (cell_of t i j)
    at_cell i j h =
        first_cells_at t.rows t.cols value_of i j
        ∙ rw (h.is_row, h.is_col) (place_inside t.rows t.cols value_of h.row h.col h.low h.left ∙ are h.row h.col h.low h.left)

    none_at : (i j : ℤ) → has_cell t i j ≡ false → cell_at (record { rows = t.rows; cols = t.cols; cells = first_cells t.cols value_of (t.rows * t.cols); owned = true }) i j ≡ None
    none_at i j is_not = first_cells_at t.rows t.cols value_of i j ∙ place_outside t value_of i j is_not

-- so it is where the cells are listed
pub listed_whole : (t : Table) → length t.cells ≡ t.rows * t.cols → IsWholeOf (record { rows = t.rows; cols = t.cols; cells = first_cells t.cols (slice_get t.cells) (t.rows * t.cols); owned = true }) t
listed_whole t full = counted_whole t (slice_get t.cells) full (λ r c low left. slice_get-get_or t.cells (r * t.cols + c) (pos 0) (omega (arith, full, inside_size t.rows t.cols r c low left)))

-- ---- one cell set

is_tie : (o : Ordering) → is_eq o ≡ true → o ≡ Equal
is_tie Less tie = absurd (true≢false (sym tie))
is_tie Equal tie = refl
is_tie Greater tie = absurd (true≢false (sym tie))

part_with : (test : ℤ → ℤ → Bool) (h : Holding) (t : Table) (i j n : ℤ) → IsPart test h t → has_cell t i j ≡ true → test i j ≡ true → IsPart test (held.with_cell h i j n) (with_cell t i j n)
part_with test h t i j n part has covered = record {
  size = record { rows = part.size.rows; cols = part.size.cols; full = full };
  cells = λ a b. get-insert place_total h.cells (i, j) n (a, b) ∙ by_tie a b (eq_by_cmp place_cmp (a, b) (i, j)) refl;
}
  where
    full : length (with_cell t i j n).cells ≡ t.rows * t.cols
    full = length-set t.cells (cell_number t i j) n ∙ part.size.full

    -- another cell has the number that it had
    others : (a b : ℤ) → eq_by_cmp place_cmp (a, b) (i, j) ≡ false → (in_it : Bool) → has_cell t a b ≡ in_it → part_cell test t a b ≡ part_cell test (with_cell t i j n) a b
    others a b is false out = rw out refl
    others a b is true in_it =
        let apart : cell_number t a b ≢ cell_number t i j = λ (q : cell_number t a b ≡ cell_number t i j).
        true≢false (sym (subst (λ (p : ℤ × ℤ). eq_by_cmp place_cmp (a, b) p ≡ true) (same_cell t i j a b has in_it q) ((eq_by_cmp_equiv place_total).refl (a, b))) ∙ is) in
        ap (λ (m : ℤ). cond (has_cell t a b && test a b) (Some m) None) (sym (get_or-set_other t.cells (cell_number t i j) (cell_number t a b) n (pos 0) apart))

    by_tie : (a b : ℤ) (same : Bool) → eq_by_cmp place_cmp (a, b) (i, j) ≡ same → cond same (Some n) (cell_at h a b) ≡ part_cell test (with_cell t i j n) a b
    by_tie a b true is =
        let place : ◌≡◌ {A = ℤ × ℤ} (a, b) (i, j) = place_only (a, b) (i, j) (is_tie (place_cmp (a, b) (i, j)) is) in
        let here : part_cell test (with_cell t i j n) i j ≡ Some n = rw (has, covered) (ap Some (get_or-set_same t.cells (cell_number t i j) n (pos 0) (number_inside t i j part.size.full has))) in
        sym (ap (λ (p : ℤ × ℤ). part_cell test (with_cell t i j n) p.0 p.1) place ∙ here)
    by_tie a b false is = part.cells a b ∙ others a b is (has_cell t a b) refl

shown_with : (extent : Extent) (h : Holding) (t : Table) (i j n : ℤ) → IsShown extent h t → has_cell t i j ≡ true → HasCell extent i j → IsShown extent (held.with_cell h i j n) (with_cell t i j n)
shown_with Wholly h t i j n shown has covered = part_with (λ a b. true) h t i j n shown has refl
shown_with (Has test) h t i j n shown has covered = part_with test h t i j n shown has covered
shown_with Unknown h t i j n shown has covered = absurd covered

-- a cell of a table set, in the state and in what is held
pub write_shown : (region : Region) (hs : List Holding) (ts : List Table) (us : List (Vec ℕ Global)) (x : List ℕ) (i j n : ℤ) → AreShown region hs ts → listed_names us ≡ table_names ts → has_table_in us x ≡ true → has_cell (table_of ts x) i j ≡ true → HasCell (region x) i j
    → AreShown region (slice_set hs (number_in us x) (held.with_cell (table_at hs (number_in us x)) i j n)) (write_cell ts x i j n)
write_shown region hs ts [] x i j n shown named has cell covered = cc
write_shown region hs [] (u ∷ us) x i j n shown named has cell covered = cc
write_shown region [] (t ∷ ts) (u ∷ us) x i j n shown named has cell covered = absurd shown
write_shown region (h ∷ hs) (t ∷ ts) (u ∷ us) x i j n shown named has cell covered =
    let others : listed_names us ≡ table_names ts = cc in
    go (λ rest there. write_shown region hs ts us x i j n shown.1 others rest there covered) (bytes_eq u.items x) refl
  where
    alike : u.items ≡ t.name
    alike = cc

    go : (has_table_in us x ≡ true → has_cell (table_of ts x) i j ≡ true → AreShown region (slice_set hs (number_in us x) (held.with_cell (table_at hs (number_in us x)) i j n)) (write_cell ts x i j n))
        → (b : Bool) → bytes_eq u.items x ≡ b → AreShown region (slice_set (h ∷ hs) (number_in (u ∷ us) x) (held.with_cell (table_at (h ∷ hs) (number_in (u ∷ us) x)) i j n)) (write_cell (t ∷ ts) x i j n)
    go behind true e =
        let f : bytes_eq t.name x ≡ true = rw alike at e in
        let there : has_cell t i j ≡ true = rw f at cell in
        let same : x ≡ t.name = sym ((bytes_eq-Decides t.name x).0 f) in
        let in_it : HasCell (region t.name) i j = subst (λ (y : List ℕ). HasCell (region y) i j) same covered in
        rw (e, f, write_cell) (shown_with (region t.name) h t i j n shown.0 there in_it, shown.1)
    go behind false e =
        let f : bytes_eq t.name x ≡ false = rw alike at e in
        let rest : has_table_in us x ≡ true = rw e at has in
        let there : has_cell (table_of ts x) i j ≡ true = rw f at cell in
        rw (e, f, write_cell) (shown.0, behind rest there)

pub names_write : (ts : List Table) (x : List ℕ) (i j n : ℤ) → table_names (write_cell ts x i j n) ≡ table_names ts
names_write [] x i j n = refl
names_write (t ∷ ts) x i j n = go (bytes_eq t.name x) (names_write ts x i j n)
  where
    go : (b : Bool) → table_names (write_cell ts x i j n) ≡ table_names ts → table_names (cond b (with_cell t i j n ∷ ts) (t ∷ write_cell ts x i j n)) ≡ t.name ∷ table_names ts
    go true r = refl
    go false r = ap (λ ns. t.name ∷ ns) r

pub write_in_range : (ts : List Table) (x : List ℕ) (i j n : ℤ) → InRange n → All TableInRange ts → All TableInRange (write_cell ts x i j n)
write_in_range [] x i j n f h = All-nil TableInRange
write_in_range (t ∷ ts) x i j n f h = go (bytes_eq t.name x) (write_in_range ts x i j n f (All-tail TableInRange t ts h))
  where
    here : TableInRange t
    here = All-head TableInRange t ts h

    go : (b : Bool) → All TableInRange (write_cell ts x i j n) → All TableInRange (cond b (with_cell t i j n ∷ ts) (t ∷ write_cell ts x i j n))
    go true r = All-cons TableInRange (with_cell t i j n) ts (record { cells = All-set InRange t.cells (cell_number t i j) n f here.cells; rows = here.rows; cols = here.cols }) (All-tail TableInRange t ts h)
    go false r = All-cons TableInRange t (write_cell ts x i j n) here r
