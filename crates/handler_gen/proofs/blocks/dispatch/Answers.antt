use Rattle.std.proofs.Common.{Some, ap, sym, subst, ◌∙◌}
use Rattle.tpal_syntax.specs.Conditions.{IsBlock}
use Rattle.tpal_syntax.specs.declared.blocks.Block.{Block}
use Rattle.handler_gen.proofs.Dispatched.{dispatches}
use Rattle.handler_gen.proofs.Fits.{dispatch_fits}
use Rattle.handler_gen.proofs.blocks.dispatch.Goals as goal

pub returns-clause-dispatches : goal.returns-clause-dispatches
returns-clause-dispatches c = λ code heartbeat found. dispatches code heartbeat c.args.label (found ∙ ap Some c.in_ok-block.ensures)

pub returns-clause-fits : goal.returns-clause-fits
returns-clause-fits c = λ tables all. subst (λ (b : Block). IsBlock tables all b) (sym c.in_ok-block.ensures) (dispatch_fits tables all c.args.label c.requires.label)
