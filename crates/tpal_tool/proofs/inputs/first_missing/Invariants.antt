use Rattle.std.proofs.Common.{◌≡◌, drop}
use Rattle.tpal_tool.specs.Inputs.{first_missing}
use Rattle.tpal_tool.proofs.inputs.first_missing.Given as goal

-- none of the inputs so far is missing
abbrev pub invariant-loop-declaration : goal.invariant-loop-declaration
invariant-loop-declaration l = first_missing (drop l.declaration-index l.declared) l.given ≡ first_missing l.declared l.given
