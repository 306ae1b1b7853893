use Rattle.std.proofs.Common.{◌≡◌, length, refl, ap, ◌∙◌, arith}
use Rattle.scene_laws.specs.Layout.{value_cell}
use Rattle.block_lower.proofs.Written.Conforming.{declared_named}
use Rattle.block_lower.proofs.Written.Keeping.{sees_declared}
use Rattle.block_lower.proofs.scope.declare.Goals as goal

pub returns-clause-sees : goal.returns-clause-sees
returns-clause-sees c =
    let long : c.len.result ≡ length c.args.scope.now.cells.items = omega (arith, c.len.ensures, c.args.scope.now.cells.ok) in
    sees_declared c.args.scope.now
    (record {
      cells = c.push.new.self;
      regs = c.args.scope.now.regs;
      tables = c.args.scope.now.tables;
      next_label = c.args.scope.now.next_label;
    })
    (c.in_ok-copy.copy, c.value_cell-cell.result) c.args.name.now
    c.in_ok-push.ensures.items c.in_ok-copy.ensures.items
    (c.value_cell-cell.ensures ∙ ap value_cell long) refl

pub returns-clause-named : goal.returns-clause-named
returns-clause-named c = λ tables before.
    let long : c.len.result ≡ length c.args.scope.now.cells.items = omega (arith, c.len.ensures, c.args.scope.now.cells.ok) in
    declared_named tables c.args.scope.now
    (record {
      cells = c.push.new.self;
      regs = c.args.scope.now.regs;
      tables = c.args.scope.now.tables;
      next_label = c.args.scope.now.next_label;
    })
    (c.in_ok-copy.copy, c.value_cell-cell.result)
    (omega (arith, c.value_cell-cell.ensures, long, c.requires))
    c.in_ok-push.ensures.items refl refl before
