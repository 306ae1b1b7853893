use Rattle.std.proofs.Common.{◌≡◌, drop}
use Rattle.scene_laws.specs.Built.{functions_are_built}
use Rattle.block_lower.proofs.built.functions_are_built.Given as goal

abbrev pub invariant-loop-f : goal.invariant-loop-f
invariant-loop-f l = functions_are_built (drop l.f-index l.funcs) ≡ functions_are_built l.funcs
