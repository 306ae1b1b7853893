-- The tables of a code, those that are given, and what a task holds of them when it begins.
use Rattle.std.specs.Prelude.{◌≡◌, ◌*◌, ℤ, true, false, ⊤, List, [], ◌∷◌, length, None, Some}
use Rattle.slices.specs.Holding.{Holding, cell_at}
use Rattle.tp_value.specs.declared.values.Table.{Table}
use Rattle.loop_syntax.specs.declared.program.TableDecl.{TableDecl}
use Rattle.loop_syntax.specs.declared.program.TableDecl.TheVariants.{Input, Made}
use Rattle.loop_meaning.specs.InRange.{TableInRange}
use Rattle.loop_meaning.specs.State.{table_of, has_cell, cell_of}
use Rattle.tpal_syntax.specs.declared.blocks.CodeTable.{CodeTable}
use Rattle.tpal_syntax.specs.declared.blocks.CodeTable.TheVariants as code

-- ---- the tables of a code

-- a declared table in a code
abbrev pub IsDeclared : TableDecl → CodeTable → Type 0
IsDeclared (Input x) (code.Input name) = name ≡ x.text.items
IsDeclared (Input x) code.Made = ⊥
IsDeclared (Made x a b) (code.Input name) = ⊥
IsDeclared (Made x a b) code.Made = ⊤

abbrev pub AreDeclared : List TableDecl → List CodeTable → Type 0
AreDeclared [] [] = ⊤
AreDeclared [] (t ∷ ts) = ⊥
AreDeclared (d ∷ ds) [] = ⊥
AreDeclared (d ∷ ds) (t ∷ ts) = IsDeclared d t × AreDeclared ds ts

-- ---- the tables that are given

-- a table has a number of 64 bits for each of its cells, and so are its sides
pub record IsTable (t : Table) : Type 0 where
  pub full : length t.cells ≡ t.rows * t.cols
  pub ranged : TableInRange t

-- each cell of a table is held, with its number, and nothing else is
pub record IsWholeOf (h : Holding) (t : Table) : Type 0 where
  pub rows : h.rows ≡ t.rows
  pub cols : h.cols ≡ t.cols
  pub full : length t.cells ≡ t.rows * t.cols
  pub cells : (i j : ℤ) → has_cell t i j ≡ true → cell_at h i j ≡ Some (cell_of t i j)
  pub outside : (i j : ℤ) → has_cell t i j ≡ false → cell_at h i j ≡ None

-- each declared input has a table of its name
abbrev pub AreNamed : List TableDecl → List Table → Type 0
AreNamed [] given = ⊤
AreNamed (Input x ∷ ds) given =
    ((table_of given x.text.items).name ≡ x.text.items) × AreNamed ds given
AreNamed (Made x a b ∷ ds) given = AreNamed ds given

-- what a task holds of the declared tables when it begins: each cell of an input, and none of a
-- table that is made, which has no rows and columns yet
abbrev pub AreHeld : List TableDecl → List Table → List Holding → Type 0
AreHeld [] given [] = ⊤
AreHeld [] given (h ∷ hs) = ⊥
AreHeld (d ∷ ds) given [] = ⊥
AreHeld (Input x ∷ ds) given (h ∷ hs) =
    IsWholeOf h (table_of given x.text.items) × AreHeld ds given hs
AreHeld (Made x a b ∷ ds) given (h ∷ hs) = (h.rows ≡ 0) × (h.cols ≡ 0) × AreHeld ds given hs
