use Rattle.std.proofs.Common.{◌≡◌, drop}
use Rattle.scene_laws.specs.Quiet.{functions_are_quiet}
use Rattle.block_lower.proofs.quiet.functions_are_quiet.Given as goal

abbrev pub invariant-loop-f : goal.invariant-loop-f
invariant-loop-f l = functions_are_quiet (drop l.f-index l.funcs) ≡ functions_are_quiet l.funcs
