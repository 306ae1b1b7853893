use Rattle.block_lower.proofs.Written.LoweredCalls.{both_arguments_written}
use Rattle.std.proofs.Common.{◌≤◌, sym, subst, arith}
use Rattle.std.specs.List.{AllByRecursion}
use Rattle.expr_lower.specs.declared.scope.Scope.{Scope}
use Rattle.block_lower.specs.declared.body.Body.{Body}
use Rattle.block_lower.specs.Conforming.{IsKnown, blocks_of}
use Rattle.block_lower.specs.Writing.{next_label}
use Rattle.block_lower.proofs.lowering.Lowering.both_arguments.Goals as goal

pub returns-clause-code : goal.returns-clause-code
returns-clause-code c =
    both_arguments_written c.args.self.now.on c.args.self.now.scope c.args.f.now.args.items
    c.args.g.now.args.items c.parameter_cell-first.result c.kept_argument-kept.result
    c.args.self.now.out c.arguments.new.self.out c.arguments-2.new.self.out
    c.parameter_cell-first.ensures c.kept_argument-kept.ensures
    (rw c.deref.ensures.value at c.in_ok-arguments.ensures.code)
    (rw (c.deref-2.ensures.value, c.in_ok-arguments.ensures.scope) at
    c.in_ok-arguments-2.ensures.code)

pub returns-clause-fit : goal.returns-clause-fit
returns-clause-fit c = λ known_first known_second few room below before.
    let first = c.in_ok-arguments.ensures in
    let second = c.in_ok-arguments-2.ensures in
    (rw c.deref-2.ensures.value at second.fit)
    (subst (λ (s : Scope). AllByRecursion (IsKnown s) c.args.g.now.args.items) (sym first.scope)
    known_second)
    (λ i less. omega (arith, c.kept_argument-kept.ensures, less, room.room, room.fits))
    (subst (λ (x : Body). next_label c.arguments-2.new.self.out ≤ blocks_of x) (sym first.on)
    below)
    ((rw c.deref.ensures.value at first.fit) known_first
    (λ i less. omega (arith, c.parameter_cell-first.ensures, less, few, before.size))
    (omega (arith, second.labels, below)) before)
