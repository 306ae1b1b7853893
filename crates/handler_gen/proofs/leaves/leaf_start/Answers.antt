use Rattle.std.proofs.Common.{ℕ, Some, ap, sym, subst, ◌∙◌}
use Rattle.tpal_syntax.specs.Conditions.{IsBlock}
use Rattle.tpal_syntax.specs.declared.blocks.Block.{Block}
use Rattle.handler_gen.specs.LeafBlocks.{loads_block}
use Rattle.handler_gen.proofs.Fits.{leaf_start_fits}
use Rattle.handler_gen.proofs.LeafCutting.{starts_leaf}
use Rattle.handler_gen.proofs.leaves.leaf_start.Goals as goal

pub returns-clause-starts : goal.returns-clause-starts
returns-clause-starts c = λ code heartbeat found.
    let site = c.args.site.now in
    starts_leaf code heartbeat site c.requires.site c.args.first
    (found ∙ ap Some c.in_ok-block.ensures
    ∙ ap (λ (label : ℕ). Some (loads_block site label c.args.first)) c.start_label.ensures)

pub returns-clause-fit : goal.returns-clause-fit
returns-clause-fit c = λ tables all known.
    let site = c.args.site.now in
    subst (λ (b : Block). IsBlock tables all b)
    (sym (c.in_ok-block.ensures
    ∙ ap (λ (label : ℕ). loads_block site label c.args.first) c.start_label.ensures))
    (leaf_start_fits tables all site c.requires.site c.args.first known)
