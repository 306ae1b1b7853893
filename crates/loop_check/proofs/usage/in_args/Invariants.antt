use Rattle.std.proofs.Common.{◌≡◌, drop}
use Rattle.loop_rules.specs.Sites.{in_args}
use Rattle.loop_check.specs.Usage.{any_use, anywhere}
use Rattle.loop_check.proofs.usage.in_args.Given as goal

abbrev pub invariant-loop-e : goal.invariant-loop-e
invariant-loop-e l = any_use l.usage l.found (in_args anywhere (drop l.e-index l.arguments)) ≡ any_use l.usage l.initial.found (in_args anywhere l.arguments)
