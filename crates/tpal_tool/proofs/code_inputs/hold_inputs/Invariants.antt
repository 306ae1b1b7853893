use Rattle.tpal_tool.proofs.CodeDeclarations.{SoFar}
use Rattle.tpal_tool.proofs.code_inputs.hold_inputs.Given as goal

-- the tables so far are held, and the tables of the others are left
abbrev pub invariant-loop-table : goal.invariant-loop-table
invariant-loop-table l = SoFar l.table-items l.fn.given.items l.table-index l.given.items l.held.items
