use Rattle.std.proofs.Common.{List, sym, subst}
use Rattle.tpal_syntax.specs.declared.blocks.Block.{Block}
use Rattle.expr_lower.specs.Standing.{AreAt}
use Rattle.handler_gen.proofs.CallCutting.{cuts_calls}
use Rattle.expr_lower.specs.Fitting.{AreBlocksOf}
use Rattle.handler_gen.proofs.Fits.{call_handler_fits}
use Rattle.handler_gen.proofs.calls.call_handler.Goals as goal

pub returns-clause-cuts : goal.returns-clause-cuts
returns-clause-cuts c = λ code heartbeat stands round.
    cuts_calls code heartbeat c.args.site.now c.requires.site (subst (λ (v : List Block). AreAt code c.args.site.now.label v) c.in_ok-blocks.ensures stands) round

pub returns-clause-fit : goal.returns-clause-fit
returns-clause-fit c = λ tables all places. subst (λ (v : List Block). AreBlocksOf tables all v) (sym c.in_ok-blocks.ensures) (call_handler_fits tables all c.args.site.now c.requires.site places)
