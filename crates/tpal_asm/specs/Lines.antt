-- The lines of a text.
use Rattle.std.specs.Prelude.{◌≡◌, ℕ, List, ◌==◌, IsTrue}
use Rattle.std.specs.List.{slice_split}
use Rattle.tpal_syntax.specs.declared.blocks.Block.{Block}
use Rattle.tpal_syntax.specs.declared.blocks.CodeTable.{CodeTable}
use Rattle.tpal_syntax.specs.declared.versions.Version.{Version}
use Rattle.tpal_syntax.specs.declared.versions.Version.TheVariants.{One, Two}
use Rattle.tpal_syntax.specs.Conditions.{IsCode}
use Rattle.tpal_syntax.specs.Text.{lines_of, all_stand_in}

-- what stands between the bytes that end lines; behind the last of them stands the last piece,
-- which no such byte ends
abbrev pub pieces : List ℕ → List (List ℕ)
pieces text = slice_split (λ b. b == 10) text

-- the number of lines before those of tables and blocks
abbrev pub lines_before : Version → ℕ
lines_before One = 0
lines_before Two = 1

-- what stands behind the first line of version 2, or the whole text of version 1, is that of a code
pub record AreLines (v : Version) (text : List ℕ) (tables : List CodeTable) (blocks : List Block)
    : Type 0 where
  pub right : IsCode tables blocks
  pub ends : IsTrue (all_stand_in v blocks)
  pub spelled : text ≡ lines_of v tables blocks
