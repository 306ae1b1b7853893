use Rattle.block_lower.proofs.Written.LoweredPars.{both_appended}
use Rattle.std.proofs.Common.{◌∙◌}
use Rattle.block_lower.proofs.Written.Placed.{handler_conforms}
use Rattle.block_lower.proofs.lowering.Lowering.push_handler.Goals as goal

pub returns-clause-code : goal.returns-clause-code
returns-clause-code c =
    both_appended c.args.site.now c.args.self.now.out c.append.new.self.out
    c.append-2.new.self.out
    (rw c.in_ok-handler.ensures.blocks at c.in_ok-append.ensures.appended)
    (rw c.in_ok-join.ensures.blocks at c.in_ok-append-2.ensures.appended)

pub returns-clause-fit : goal.returns-clause-fit
returns-clause-fit c =
    handler_conforms c.args.self.now c.append-2.new.self c.args.site.now
    (rw c.in_ok-handler.ensures.blocks at c.in_ok-handler.ensures.fit)
    (rw c.in_ok-join.ensures.blocks at c.in_ok-join.ensures.fit)
    (returns-clause-code c) (c.in_ok-append-2.ensures.on ∙ c.in_ok-append.ensures.on)
    (c.in_ok-append-2.ensures.scope ∙ c.in_ok-append.ensures.scope)
