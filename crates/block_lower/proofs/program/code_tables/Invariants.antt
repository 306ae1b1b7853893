use Rattle.std.proofs.Common.{take}
use Rattle.scene_laws.specs.Tables.{AreDeclared}
use Rattle.block_lower.proofs.program.code_tables.Given as goal

abbrev pub invariant-loop-table : goal.invariant-loop-table
invariant-loop-table l = AreDeclared (take l.table-index l.tables) l.all.items
