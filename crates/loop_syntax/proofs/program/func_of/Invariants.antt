use Rattle.std.proofs.Common.{◌≡◌, drop}
use Rattle.loop_syntax.specs.Naming.{func_of}
use Rattle.loop_syntax.proofs.program.func_of.Given as goal

abbrev pub invariant-loop-f : goal.invariant-loop-f
invariant-loop-f l = func_of (drop l.f-index l.funcs) l.name ≡ func_of l.funcs l.name
