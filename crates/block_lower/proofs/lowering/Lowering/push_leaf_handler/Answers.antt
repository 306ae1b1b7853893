use Rattle.handler_gen.specs.LeafBlocks.{leaf_handler_blocks}
use Rattle.handler_gen.specs.LeafSites.{stored_loop}
use Rattle.join_gen.specs.Blocks.{loop_join_blocks}
use Rattle.block_lower.proofs.Written.LoweredLeaves.{lists_appended}
use Rattle.std.proofs.Common.{◌∙◌}
use Rattle.block_lower.proofs.Written.Placed.{leaf_handler_conforms}
use Rattle.block_lower.proofs.lowering.Lowering.push_leaf_handler.Goals as goal

pub returns-clause-code : goal.returns-clause-code
returns-clause-code c =
    lists_appended (leaf_handler_blocks c.args.site.now)
    (loop_join_blocks (stored_loop c.args.site.now)) c.args.self.now.out c.append.new.self.out
    c.append-2.new.self.out
    (rw c.in_ok-handler.ensures.blocks at c.in_ok-append.ensures.appended)
    (rw c.in_ok-join.ensures.blocks at c.in_ok-append-2.ensures.appended)

pub returns-clause-fit : goal.returns-clause-fit
returns-clause-fit c =
    leaf_handler_conforms c.args.self.now c.append-2.new.self c.args.site.now
    (rw c.in_ok-handler.ensures.blocks at c.in_ok-handler.ensures.fit)
    (rw c.in_ok-join.ensures.blocks at c.in_ok-join.ensures.fit)
    (returns-clause-code c) (c.in_ok-append-2.ensures.on ∙ c.in_ok-append.ensures.on)
    (c.in_ok-append-2.ensures.scope ∙ c.in_ok-append.ensures.scope)
