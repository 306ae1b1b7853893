use Rattle.std.proofs.Common.{rules, subst}
use Rattle.tpal_verify.specs.Rounds.{height}
use Rattle.tpal_verify.specs.Rounding.{Stands}
use Rattle.tpal_verify.proofs.Rounded.{round_first}
use Rattle.tpal_verify.proofs.rounds.Round.first.Goals as goal

pub returns : goal.returns
returns c = subst (λ r. Stands c.args.ground.now (height c.args.ground.now) r) (search rules) (round_first c.args.ground.now)
