use Rattle.std.proofs.Common.{List, sym, subst}
use Rattle.tpal_syntax.specs.declared.blocks.Block.{Block}
use Rattle.expr_lower.specs.Standing.{AreAt}
use Rattle.expr_lower.specs.Fitting.{AreBlocksOf}
use Rattle.handler_gen.specs.Sites.{target_label}
use Rattle.join_gen.proofs.CallJoining.{joins_calls}
use Rattle.join_gen.proofs.Fits.{call_join_fits}
use Rattle.join_gen.proofs.calls.call_join.Goals as goal

pub returns-clause-joins : goal.returns-clause-joins
returns-clause-joins c = λ code heartbeat stands round.
    joins_calls code heartbeat c.args.site.now (subst (λ (v : List Block). AreAt code (target_label c.args.site.now.label) v) c.in_ok-blocks.ensures stands) round

pub returns-clause-fit : goal.returns-clause-fit
returns-clause-fit c = λ tables all places. subst (λ (v : List Block). AreBlocksOf tables all v) (sym c.in_ok-blocks.ensures) (call_join_fits tables all c.args.site.now c.requires.site places)
