use Rattle.std.proofs.Common.{◌≡◌, drop}
use Rattle.tpal_tool.specs.CodeInputs.{first_missing_input}
use Rattle.tpal_tool.proofs.code_inputs.first_missing_input.Given as goal

-- none of the inputs so far is missing
abbrev pub invariant-loop-table : goal.invariant-loop-table
invariant-loop-table l = first_missing_input (drop l.table-index l.tables) l.given ≡ first_missing_input l.tables l.given
