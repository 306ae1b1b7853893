use Rattle.std.proofs.Common.{◌≡◌, drop}
use Rattle.loop_meaning.specs.State.{lookup}
use Rattle.loop_meaning.proofs.expression.lookup.Given as goal

abbrev pub invariant-loop-v : goal.invariant-loop-v
invariant-loop-v l = lookup (drop l.v-index l.vars) l.name ≡ lookup l.vars l.name
