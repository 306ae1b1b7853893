-- Sizes of tables that are made.
use Rattle.std.proofs.Common.{◌≡◌, ℕ, ◌+◌, ◌-◌, ◌*◌, ◌<◌, ◌≤◌, ◌^◌, min, Bool, true, false, cond}
use Rattle.std.proofs.Common.{List, [], length, drop, replicate, Some, Ok, refl, ap, sym, ◌∙◌}
use Rattle.std.proofs.Common.{arith, length-drop}
use Rattle.std.proofs.lemmas.List.{nil_from_length}
use Rattle.std.proofs.lemmas.Bool.Decides.{nat_tests}
use Rattle.std.proofs.lemmas.Int.{ints}
use Rattle.std.specs.Prelude.{ℤ, pos, negsuc, ◌<ℤ◌, nat_le, slice_get, ◌&&◌}
use Rattle.std.proofs.lemmas.Option.{slice_get-get_or}
use Rattle.std.proofs.lemmas.List.{get_or-replicate}
use Rattle.std.proofs.Math.ListN.{length-replicate}
use Rattle.slices.specs.Cells.{listed, at_place, first_cells}
use Rattle.slices.specs.Holding.{Holding, cell_at}
use Rattle.slices.proofs.Maps.{same_cells, first_cells_at, at_each_place, inside_size}
use Rattle.tp_value.specs.declared.limits.TheConstants.{MAX_SIDE, MAX_TABLE_CELLS}
use Rattle.tp_value.specs.declared.values.Place.{Place}
use Rattle.tp_value.specs.declared.values.Stop.TheVariants as stop
use Rattle.tp_value.specs.declared.values.TrapKind.TheVariants.{Size}
use Rattle.tpal_machine.specs.Effect.{Goes, is_side, magnitude, fits, made, with_made, stops}
use Rattle.tpal_machine.specs.Reading.{cell_count, zeros}
use Rattle.tpal_machine.specs.State.{State}
use Rattle.tpal_machine.proofs.Holdings.{holding_is}

-- a sum that stands still at a bound
pub saturated : (a b c m : ℕ) → min (min (a + b) m + c) m ≡ min (a + (b + c)) m
saturated a b c m = omega arith

pub count_end : (count i m : ℕ) (tables : List Holding) → length tables ≤ i → count ≤ m → min (count + cell_count (drop i tables)) m ≡ count
count_end count i m tables past small =
    let nothing : drop i tables ≡ [] = nil_from_length (drop i tables) (omega (arith, length-drop i tables)) in
    ap (λ (hs : List Holding). min (count + cell_count hs) m) nothing ∙ omega arith

-- ---- sizes

pub side_is : (n : ℕ) → n ≤ MAX_SIDE → is_side (pos n) ≡ true
side_is n small = grind (arith, nat_tests)

pub no_side : (size : ℤ) → (size <ℤ pos 0) → is_side size ≡ false
no_side (pos n) below = absurd (omega (arith, ints))
no_side (negsuc n) below = refl

pub large_side : (size : ℤ) → (pos MAX_SIDE <ℤ size) → is_side size ≡ false
large_side (pos n) above = grind (arith, nat_tests, ints)
large_side (negsuc n) above = refl

-- ---- whether a table fits

pub few_cells : (count cells : ℕ) → min (min count (2 ^ 64 - 1) + cells) (2 ^ 64 - 1) ≤ MAX_TABLE_CELLS → nat_le (count + cells) MAX_TABLE_CELLS ≡ true
few_cells count cells few =
    let small : count + cells ≤ MAX_TABLE_CELLS = omega arith in grind (arith, nat_tests)

pub many_cells : (count cells : ℕ) → MAX_TABLE_CELLS < min (min count (2 ^ 64 - 1) + cells) (2 ^ 64 - 1) → nat_le (count + cells) MAX_TABLE_CELLS ≡ false
many_cells count cells many =
    let large : MAX_TABLE_CELLS < count + cells = omega arith in grind (arith, nat_tests)

-- ---- zeros

zero_at : (n i : ℕ) → i < n → slice_get (replicate n (pos 0)) i ≡ Some (pos 0)
zero_at n i inside = slice_get-get_or (replicate n (pos 0)) i (pos 0) (omega (arith, length-replicate n (pos 0))) ∙ ap Some (get_or-replicate n i (pos 0) (pos 0) inside)

zero_cells : (rows cols : ℕ) (row col : ℤ) → listed rows cols (replicate (rows * cols) (pos 0)) row col ≡ at_place rows cols (λ i. Some (pos 0)) row col
zero_cells rows cols row col =
    at_each_place rows cols (λ v w p. v ≡ w) (slice_get (replicate (rows * cols) (pos 0))) (λ i. Some (pos 0)) (λ p. refl) (λ r c h k. zero_at (rows * cols) (r * cols + c) (inside_size rows cols r c h k)) row col

-- a held table that lists zeros is one of zeros
pub zeros_are : (h : Holding) (rows cols : ℕ) (cells : List ℤ) → h.rows ≡ rows → h.cols ≡ cols → ((row col : ℤ) → cell_at h row col ≡ listed rows cols cells row col) → h.owned ≡ true → cells ≡ replicate (rows * cols) (pos 0) → h ≡ zeros rows cols
zeros_are h rows cols cells r c at o is =
    holding_is h rows cols (first_cells cols (λ i. Some (pos 0)) (rows * cols)) true r c
    (same_cells h.cells (first_cells cols (λ i. Some (pos 0)) (rows * cols)) (λ row col.
    at row col ∙ ap (λ ns. listed rows cols ns row col) is ∙ zero_cells rows cols row col ∙ sym (first_cells_at rows cols (λ i. Some (pos 0)) row col)))
    o

-- ---- what a `make` comes to

fits_is : (state : State) (m n : ℕ) (b : Bool) → m ≤ MAX_SIDE → n ≤ MAX_SIDE → nat_le (cell_count state.tables + m * n) MAX_TABLE_CELLS ≡ b → fits state.tables (pos m) (pos n) ≡ b
fits_is state m n b rows cols is =
    ap (λ t. t && is_side (pos n) && nat_le (cell_count state.tables + m * n) MAX_TABLE_CELLS) (side_is m rows)
    ∙ ap (λ t. t && nat_le (cell_count state.tables + m * n) MAX_TABLE_CELLS) (side_is n cols)
    ∙ is

pub made_zeros : (state : State) (table m n : ℕ) (place : Place) → m ≤ MAX_SIDE → n ≤ MAX_SIDE → nat_le (cell_count state.tables + m * n) MAX_TABLE_CELLS ≡ true → made table (pos m) (pos n) place state ≡ Ok (Goes (with_made state table m n))
made_zeros state table m n place rows cols is =
    ap (λ b. cond b (Ok (Goes (with_made state table m n))) (stops state.pending (stop.Trap Size place) state)) (fits_is state m n true rows cols is)

pub made_beyond : (state : State) (table m n : ℕ) (place : Place) → m ≤ MAX_SIDE → n ≤ MAX_SIDE → nat_le (cell_count state.tables + m * n) MAX_TABLE_CELLS ≡ false → made table (pos m) (pos n) place state ≡ stops state.pending (stop.Trap Size place) state
made_beyond state table m n place rows cols is =
    ap (λ b. cond b (Ok (Goes (with_made state table m n))) (stops state.pending (stop.Trap Size place) state)) (fits_is state m n false rows cols is)

pub made_no_rows : (state : State) (table : ℕ) (m n : ℤ) (place : Place) → is_side m ≡ false → made table m n place state ≡ stops state.pending (stop.Trap Size place) state
made_no_rows state table m n place outside =
    ap (λ t. cond (t && is_side n && nat_le (cell_count state.tables + magnitude m * magnitude n) MAX_TABLE_CELLS) (Ok (Goes (with_made state table (magnitude m) (magnitude n)))) (stops state.pending (stop.Trap Size place) state)) outside

pub made_no_cols : (state : State) (table : ℕ) (m n : ℤ) (place : Place) → is_side n ≡ false → made table m n place state ≡ stops state.pending (stop.Trap Size place) state
made_no_cols state table m n place outside =
    let none : fits state.tables m n ≡ false = ap (λ t. is_side m && t && nat_le (cell_count state.tables + magnitude m * magnitude n) MAX_TABLE_CELLS) outside ∙ ap (λ t. t && nat_le (cell_count state.tables + magnitude m * magnitude n) MAX_TABLE_CELLS) (and_false (is_side m)) in
    ap (λ t. cond t (Ok (Goes (with_made state table (magnitude m) (magnitude n)))) (stops state.pending (stop.Trap Size place) state)) none
  where
    and_false : (b : Bool) → (b && false) ≡ false
    and_false true = refl
    and_false false = refl
