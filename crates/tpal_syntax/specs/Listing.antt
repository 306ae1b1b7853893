-- What contracts see of a code.
use Rattle.std.specs.Prelude.{List}
use Rattle.tpal_syntax.specs.declared.blocks.Block.{Block}
use Rattle.tpal_syntax.specs.declared.blocks.CodeTable.{CodeTable}

-- the tables by their numbers, and the blocks by their labels
pub record Listing : Type 0 where
  pub tables : List CodeTable
  pub blocks : List Block
