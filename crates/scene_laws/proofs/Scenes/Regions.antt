-- Which cells of tables a task holds.
use Rattle.std.proofs.Common.{◌≡◌, ℕ, Bool, true, false, cond, List, [], ◌∷◌, ◌++◌, bytes_eq, Vec}
use Rattle.std.proofs.Common.{refl, subst, Option, Some, None, ◌∙◌}
use Rattle.std.specs.Prelude.{ℤ, ⊤, ◌*◌, ◌&&◌, length}
use Rattle.std.specs.List.{AllByRecursion}
use Rattle.std.specs.declared.alloc.Global.{Global}
use Rattle.std.proofs.lemmas.Slice.Eq.{bytes_eq-Decides}
use Rattle.slices.specs.Holding.{Holding, cell_at}
use Rattle.tp_value.specs.declared.Table.{Table}
use Rattle.loop_meaning.specs.State.{Note, Reads, Writes, Emits, Chance, table_of, has_cell}
use Rattle.loop_meaning.specs.State.{cell_of}
use Rattle.tpal_machine.specs.Reading.{table_at}
use Rattle.tpal_machine.specs.State as machine
use Rattle.expr_lower.specs.declared.scope.Scope.{Scope}
use Rattle.expr_lower.specs.Holding.{IsHeld}
use Rattle.expr_lower.specs.Scopes.{number_in, has_table_in}
use Rattle.scene_laws.specs.Tables.{IsWholeOf}
use Rattle.scene_laws.proofs.Scenes.Tables.{AreWhole, IsRead, table_names, listed_names}

-- How much of a table a task holds: every cell, exactly those of the table that pass a test, or
-- some that aren't known.
pub data Extent : Type 0 where
  Wholly : Extent
  Has : (ℤ → ℤ → Bool) → Extent
  Unknown : Extent

-- how much is held of each table, by its name
abbrev pub Region : Type 0
Region = List ℕ → Extent

abbrev pub everywhere : Region
everywhere = λ t. Wholly

-- a note of cells alone
abbrev pub IsQuiet : Note → Type 0
IsQuiet (Reads t i j) = ⊤
IsQuiet (Writes t i j) = ⊤
IsQuiet (Emits t) = ⊤
IsQuiet Chance = ⊥

-- no note, or one of a chance
abbrev pub AtMostAChance : List Note → Type 0
AtMostAChance [] = ⊤
AtMostAChance (Reads t i j ∷ ns) = ⊥
AtMostAChance (Writes t i j ∷ ns) = ⊥
AtMostAChance (Emits t ∷ ns) = ⊥
AtMostAChance (Chance ∷ []) = ⊤
AtMostAChance (Chance ∷ n ∷ ns) = ⊥

-- a cell of a table is held by an extent
abbrev pub HasCell : Extent → ℤ → ℤ → Type 0
HasCell Wholly i j = ⊤
HasCell (Has test) i j = test i j ≡ true
HasCell Unknown i j = ⊥

-- a table is held wholly, whatever its cells are
abbrev pub IsWholly : Extent → Type 0
IsWholly Wholly = ⊤
IsWholly (Has test) = ⊥
IsWholly Unknown = ⊥

-- the cells that a note speaks of are in a region
abbrev pub Covers : Region → Note → Type 0
Covers region (Reads t i j) = HasCell (region t) i j
Covers region (Writes t i j) = HasCell (region t) i j
Covers region (Emits t) = IsWholly (region t)
Covers region Chance = ⊤

-- the number of a cell of a table that passes a test
abbrev pub part_cell : (ℤ → ℤ → Bool) → Table → ℤ → ℤ → Option ℤ
part_cell test t i j = cond (has_cell t i j && test i j) (Some (cell_of t i j)) None

-- what is held has the size of a table
pub record HasSize (h : Holding) (t : Table) : Type 0 where
  pub rows : h.rows ≡ t.rows
  pub cols : h.cols ≡ t.cols
  pub full : length t.cells ≡ t.rows * t.cols

-- the cells of a table that pass a test are held, with their numbers, and no others are
pub record IsPart (test : ℤ → ℤ → Bool) (h : Holding) (t : Table) : Type 0 where
  pub size : HasSize h t
  pub cells : (i j : ℤ) → cell_at h i j ≡ part_cell test t i j

-- a table is held to an extent
abbrev pub IsShown : Extent → Holding → Table → Type 0
IsShown Wholly h t = IsPart (λ i j. true) h t
IsShown (Has test) h t = IsPart test h t
IsShown Unknown h t = HasSize h t

-- each table is held so, under its number
abbrev pub AreShown : Region → List Holding → List Table → Type 0
AreShown region hs [] = ⊤
AreShown region [] (t ∷ ts) = ⊥
AreShown region (h ∷ hs) (t ∷ ts) = IsShown (region t.name) h t × AreShown region hs ts

-- whatever is held of a table has its size
pub size_shown : (extent : Extent) (h : Holding) (t : Table) → IsShown extent h t → HasSize h t
size_shown Wholly h t shown = shown.size
size_shown (Has test) h t shown = shown.size
size_shown Unknown h t shown = shown

part_has : (test : ℤ → ℤ → Bool) (h : Holding) (t : Table) (i j : ℤ) → IsPart test h t
    → has_cell t i j ≡ true → test i j ≡ true → cell_at h i j ≡ Some (cell_of t i j)
part_has test h t i j part is passes = part.cells i j ∙ rw (is, passes) refl

-- a cell of a table that is in an extent is held
pub cell_shown : (extent : Extent) (h : Holding) (t : Table) (i j : ℤ) → IsShown extent h t
    → has_cell t i j ≡ true → HasCell extent i j → cell_at h i j ≡ Some (cell_of t i j)
cell_shown Wholly h t i j shown is held = part_has (λ a b. true) h t i j shown is refl
cell_shown (Has test) h t i j shown is held = part_has test h t i j shown is held
cell_shown Unknown h t i j shown is held = absurd held

-- a table that is wholly held is held in each cell, and in no other
pub shown_whole : (extent : Extent) (h : Holding) (t : Table) → IsShown extent h t → IsWholly extent
    → IsWholeOf h t
shown_whole Wholly h t shown all = record {
  rows = shown.size.rows;
  cols = shown.size.cols;
  full = shown.size.full;
  cells = λ i j is. part_has (λ a b. true) h t i j shown is refl;
  outside = λ i j is_not. shown.cells i j ∙ rw is_not refl;
}
shown_whole (Has test) h t shown all = absurd all
shown_whole Unknown h t shown all = absurd all

pub whole_shown : (h : Holding) (t : Table) → IsWholeOf h t → IsShown Wholly h t
whole_shown h t whole = record {
  size = record { rows = whole.rows; cols = whole.cols; full = whole.full };
  cells = λ i j. by_place i j (has_cell t i j) refl;
}
  where
    by_place : (i j : ℤ) (b : Bool) → has_cell t i j ≡ b
        → cell_at h i j ≡ part_cell (λ a c. true) t i j
    by_place i j true is = whole.cells i j is ∙ rw is refl
    by_place i j false is = whole.outside i j is ∙ rw is refl

pub wholly_shown : (hs : List Holding) (ts : List Table) → AreWhole hs ts
    → AreShown everywhere hs ts
wholly_shown hs [] whole = tt
wholly_shown [] (t ∷ ts) whole = absurd whole
wholly_shown (h ∷ hs) (t ∷ ts) whole = (whole_shown h t whole.0, wholly_shown hs ts whole.1)

-- a table of a scope is held so
pub shown_at : (region : Region) (hs : List Holding) (ts : List Table) (us : List (Vec ℕ Global))
    (x : List ℕ) → AreShown region hs ts → listed_names us ≡ table_names ts
    → has_table_in us x ≡ true → IsShown (region x) (table_at hs (number_in us x)) (table_of ts x)
shown_at region hs ts [] x shown named has = cc
shown_at region hs [] (u ∷ us) x shown named has = cc
shown_at region [] (t ∷ ts) (u ∷ us) x shown named has = absurd shown
shown_at region (h ∷ hs) (t ∷ ts) (u ∷ us) x shown named has =
    let others : listed_names us ≡ table_names ts = cc in
    go (λ rest. shown_at region hs ts us x shown.1 others rest) (bytes_eq u.items x) refl
  where
    alike : u.items ≡ t.name
    alike = cc

    go : (has_table_in us x ≡ true
        → IsShown (region x) (table_at hs (number_in us x)) (table_of ts x)) → (b : Bool)
        → bytes_eq u.items x ≡ b → IsShown (region x) (table_at (h ∷ hs) (number_in (u ∷ us) x))
        (table_of (t ∷ ts) x)
    go behind true e =
        let f : bytes_eq t.name x ≡ true = rw alike at e in
        let same : t.name ≡ x = (bytes_eq-Decides t.name x).0 f in
        rw (e, f) (subst (λ (y : List ℕ). IsShown (region y) h t) same shown.0)
    go behind false e =
        let f : bytes_eq t.name x ≡ false = rw alike at e in
        let rest : has_table_in us x ≡ true = rw e at has in
        rw (e, f) (behind rest)

-- what an expression reads is quiet, and it is held where a region covers it
module _ (scope : Scope) (ts : List Table) where
  pub quiet_reads : (ns : List Note) → AllByRecursion (IsRead scope ts) ns
      → AllByRecursion IsQuiet ns
  quiet_reads [] read = tt
  quiet_reads (Reads t i j ∷ ns) read = (tt, quiet_reads ns read.1)
  quiet_reads (Writes t i j ∷ ns) read = absurd read.0
  quiet_reads (Emits t ∷ ns) read = absurd read.0
  quiet_reads (Chance ∷ ns) read = absurd read.0

  pub held_reads : (region : Region) (state : machine.State) → AreShown region state.tables ts
      → listed_names scope.tables.items ≡ table_names ts → (ns : List Note)
      → AllByRecursion (IsRead scope ts) ns → AllByRecursion (Covers region) ns
      → AllByRecursion (IsHeld scope ts state) ns
  held_reads region state shown listed [] read covered = tt
  held_reads region state shown listed (Reads t i j ∷ ns) read covered = (
    cell_shown (region t) (table_at state.tables (number_in scope.tables.items t))
        (table_of ts t) i j
        (shown_at region state.tables ts scope.tables.items t shown listed read.0.0) read.0.1
        covered.0,
    held_reads region state shown listed ns read.1 covered.1,
  )
  held_reads region state shown listed (Writes t i j ∷ ns) read covered = absurd read.0
  held_reads region state shown listed (Emits t ∷ ns) read covered = absurd read.0
  held_reads region state shown listed (Chance ∷ ns) read covered = absurd read.0

-- what holds of all notes holds of the first ones
pub all_front : (P : Note → Type 0) (ns ms : List Note) → AllByRecursion P (ns ++ ms)
    → AllByRecursion P ns
all_front P [] ms all = tt
all_front P (n ∷ ns) ms all = (all.0, all_front P ns ms all.1)
