-- The tables that a code takes as its inputs, and what the first task of its run holds.
use Rattle.std.specs.Prelude.{◌≡◌, true, ⊤, cond, List, [], ◌∷◌, ℕ, Option, Some, None}
use Rattle.std.specs.FinMap.{empty}
use Rattle.slices.specs.Holding.{Holding}
use Rattle.tp_value.specs.declared.values.Table.{Table}
use Rattle.tpal_syntax.specs.declared.blocks.CodeTable.{CodeTable}
use Rattle.tpal_syntax.specs.declared.blocks.CodeTable.TheVariants.{Input, Made}
use Rattle.loop_meaning.specs.State.{table_of}
use Rattle.scene_laws.specs.Tables.{IsWholeOf}
use Rattle.tpal_tool.specs.Inputs.{is_given}

-- the first input of a code, in order, that has no table of its name
abbrev pub first_missing_input : List CodeTable → List Table → Option (List ℕ)
first_missing_input [] given = None
first_missing_input (Input name ∷ tables) given =
    cond (is_given given name) (first_missing_input tables given) (Some name)
first_missing_input (Made ∷ tables) given = first_missing_input tables given

-- each cell of a table is held, with its number, and owned
pub record IsInputOf (h : Holding) (t : Table) : Type 0 where
  pub whole : IsWholeOf h t
  pub owned : h.owned ≡ true

-- nothing is held of a table that isn't made yet: it has no rows and columns
pub record IsUnmade (h : Holding) : Type 0 where
  pub rows : h.rows ≡ 0
  pub cols : h.cols ≡ 0
  pub cells : h.cells ≡ empty
  pub owned : h.owned ≡ true

-- what the first task holds of the tables of a code: of an input the given table of its name
abbrev pub AreCodeHeld : List CodeTable → List Table → List Holding → Type 0
AreCodeHeld [] given [] = ⊤
AreCodeHeld [] given (h ∷ hs) = ⊥
AreCodeHeld (t ∷ ts) given [] = ⊥
AreCodeHeld (Input name ∷ ts) given (h ∷ hs) =
    IsInputOf h (table_of given name) × AreCodeHeld ts given hs
AreCodeHeld (Made ∷ ts) given (h ∷ hs) = IsUnmade h × AreCodeHeld ts given hs
