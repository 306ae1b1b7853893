use Rattle.std.proofs.Common.{List, [], ◌∷◌, subst, sym, arith}
use Rattle.tpal_syntax.specs.declared.blocks.Block.{Block}
use Rattle.expr_lower.specs.Fitting.{AreBlocksOf}
use Rattle.expr_lower.proofs.FittingBlocks.{joined_blocks, trap_fits}
use Rattle.expr_lower.proofs.traps.push_trap.Goals as goal

pub returns-clause-fit : goal.returns-clause-fit
returns-clause-fit c = λ tables all placed before.
    subst (λ (blocks : List Block). AreBlocksOf tables all blocks) (sym c.in_ok-push.ensures.items)
    (joined_blocks tables all c.args.traps.now.items _ before
    (subst (λ (b : Block). AreBlocksOf tables all (b ∷ [])) (sym c.in_ok-block.ensures)
    (trap_fits tables all c.args.label c.args.kind c.args.place (omega arith) placed, tt)))
