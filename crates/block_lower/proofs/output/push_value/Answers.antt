use Rattle.std.proofs.Common.{◌+◌, refl, arith}
use Rattle.block_lower.proofs.Written.Conforming.{value_proper}
use Rattle.block_lower.proofs.Written.Writing.{value_written}
use Rattle.block_lower.proofs.output.push_value.Goals as goal

pub returns-clause-code : goal.returns-clause-code
returns-clause-code c =
    value_written c.args.scope.now c.args.expr.now c.args.to c.args.out.now (record { blocks = c.args.out.now.blocks; body = c.push_expr.new.body; traps = c.push_expr.new.traps; note = c.args.out.now.note }) refl
    (rw c.label-first.ensures at c.in_ok-push_expr.ensures.body) (rw c.label-first.ensures at c.in_ok-push_expr.ensures.traps)
    refl c.requires.registers c.in_ok-push_expr.ensures.literals

pub returns-clause-proper : goal.returns-clause-proper
returns-clause-proper c = λ on named known below proper.
    let done = c.in_ok-push_expr.ensures in
    value_proper on c.args.expr.now c.args.out.now
    (record {
      blocks = c.args.out.now.blocks;
      body = c.push_expr.new.body;
      traps = c.push_expr.new.traps;
      note = c.args.out.now.note;
    })
    refl
    (done.body_fits on.tables (on.dispatch + 1)
    (record { named = named; inside = known.inside; placed = known.placed })
    (omega (arith, c.label-first.ensures, below)) proper.body)
    (rw c.label-first.ensures at done.traps) refl (omega (arith, c.requires.labels)) known.placed
    proper
