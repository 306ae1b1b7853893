use Rattle.std.proofs.Common.{refl}
use Rattle.block_lower.proofs.Written.Conforming.{left_named}
use Rattle.block_lower.proofs.Written.Keeping.{sees_left}
use Rattle.block_lower.proofs.scope.leave.Goals as goal

pub returns-clause-sees : goal.returns-clause-sees
returns-clause-sees c =
    sees_left c.args.scope.now (record {
      cells = c.truncate.new.self;
      regs = c.args.scope.now.regs;
      tables = c.args.scope.now.tables;
      next_label = c.args.scope.now.next_label;
    }) c.args.n
    c.truncate.ensures.items refl

pub returns-clause-named : goal.returns-clause-named
returns-clause-named c = λ tables before.
    left_named tables c.args.n c.args.scope.now (record {
      cells = c.truncate.new.self;
      regs = c.args.scope.now.regs;
      tables = c.args.scope.now.tables;
      next_label = c.args.scope.now.next_label;
    })
    c.truncate.ensures.items refl refl before
