use Rattle.std.proofs.Common.{◌≡◌, ◌+◌, refl, ap, arith}
use Rattle.loop_syntax.specs.declared.Expr.{Expr}
use Rattle.expr_lower.specs.Bodies.{trap_count}
use Rattle.expr_lower.specs.Nodes.{operation_traps}
use Rattle.block_lower.proofs.Written.Conforming.{value_proper}
use Rattle.block_lower.proofs.Written.Writing.{operation_written}
use Rattle.block_lower.proofs.output.push_operation.Goals as goal

pub returns-clause-code : goal.returns-clause-code
returns-clause-code c e node =
    operation_written c.args.scope.now c.args.operation e c.args.to c.args.out.now
    (record {
      blocks = c.args.out.now.blocks;
      body = c.push_binary.new.body;
      traps = c.push_binary.new.traps;
      note = c.args.out.now.note;
    })
    node refl (rw c.label-first.ensures at c.in_ok-push_binary.ensures.body e node)
    (rw c.label-first.ensures at c.in_ok-push_binary.ensures.traps e node) refl c.requires.registers
    c.in_ok-push_binary.ensures.literals

pub returns-clause-proper : goal.returns-clause-proper
returns-clause-proper c = λ on e node named known below proper.
    let done = c.in_ok-push_binary.ensures in
    let many : trap_count e ≡ operation_traps c.args.operation =
    ap (λ (x : Expr). trap_count x) node.is in
    value_proper on e c.args.out.now
    (record {
      blocks = c.args.out.now.blocks;
      body = c.push_binary.new.body;
      traps = c.push_binary.new.traps;
      note = c.args.out.now.note;
    })
    refl
    (done.body_fits on.tables (on.dispatch + 1) e node
    (record { named = named; inside = known.inside; placed = known.placed })
    (omega (arith, c.label-first.ensures, below)) proper.body)
    (rw c.label-first.ensures at done.traps e node) refl (omega (arith, many, c.requires.labels))
    known.placed proper
