use Rattle.std.proofs.Common.{subst}
use Rattle.tpal_syntax.specs.Conditions.{IsCode}
use Rattle.tpal_syntax.specs.Listing.{Listing}
use Rattle.tpal_verify.specs.Flat.{ground_of}
use Rattle.tpal_verify.specs.Rounds.{least}
use Rattle.tpal_verify.proofs.Accepting.{least_meets}
use Rattle.tpal_verify.proofs.Safety.{stays_sound, tasks_paid}
use Rattle.tpal_verify.proofs.safe_laws.stays_sound.Goals as goal

pub returns-clause-sound : goal.returns-clause-sound
returns-clause-sound c = λ heartbeat forks records workers fuel held config events some room sizes run.
    let code = c.args.safe.now in
    let right_code = subst (λ (x : Listing). IsCode x.tables x.blocks) c.code-code.ensures.code c.blocks-blocks.ensures.right in
    stays_sound code (least (ground_of code)) (least_meets code c.code-code.ensures.accepted) right_code heartbeat forks records workers fuel held some room sizes config events run

pub returns-clause-paid : goal.returns-clause-paid
returns-clause-paid c = λ heartbeat forks records workers fuel held config events some room sizes run below.
    let code = c.args.safe.now in
    let right_code = subst (λ (x : Listing). IsCode x.tables x.blocks) c.code-code.ensures.code c.blocks-blocks.ensures.right in
    tasks_paid code (least (ground_of code)) (least_meets code c.code-code.ensures.accepted) right_code heartbeat forks records workers fuel held some room sizes config events run below
