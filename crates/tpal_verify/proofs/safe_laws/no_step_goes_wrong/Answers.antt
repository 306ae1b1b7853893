use Rattle.std.proofs.Common.{subst}
use Rattle.tpal_syntax.specs.Conditions.{IsCode}
use Rattle.tpal_syntax.specs.Listing.{Listing}
use Rattle.tpal_verify.specs.Flat.{ground_of}
use Rattle.tpal_verify.specs.Rounds.{least}
use Rattle.tpal_verify.proofs.Accepting.{least_meets}
use Rattle.tpal_verify.proofs.Safety.{no_step_wrong}
use Rattle.tpal_verify.proofs.safe_laws.no_step_goes_wrong.Goals as goal

pub returns : goal.returns
returns c = λ heartbeat forks records workers fuel held config events worker task due allowed fault some room sizes run at stuck.
    let code = c.args.safe.now in
    let right_code = subst (λ (x : Listing). IsCode x.tables x.blocks) c.code-code.ensures.code c.blocks-blocks.ensures.right in
    no_step_wrong code (least (ground_of code)) (least_meets code c.code-code.ensures.accepted) right_code heartbeat forks records workers fuel held some room sizes config events run worker task due allowed fault at stuck
