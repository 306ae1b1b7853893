use Rattle.std.proofs.Common.{◌≡◌, drop}
use Rattle.expr_lower.specs.Scopes.{register_in}
use Rattle.expr_lower.proofs.scope.register_of.Given as goal

abbrev pub invariant-loop-place : goal.invariant-loop-place
invariant-loop-place l = register_in (drop l.place-index l.scope.regs.items) l.name
    ≡ register_in l.scope.regs.items l.name
