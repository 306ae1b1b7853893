use Rattle.std.proofs.Common.{◌≡◌, drop}
use Rattle.loop_check.specs.Whole.{lowest_of_funcs}
use Rattle.loop_check.proofs.whole.in_funcs.Given as goal

abbrev pub invariant-loop-f : goal.invariant-loop-f
invariant-loop-f l = lowest_of_funcs l.readers l.found (drop l.f-index l.funcs) ≡ lowest_of_funcs l.readers l.initial.found l.funcs
