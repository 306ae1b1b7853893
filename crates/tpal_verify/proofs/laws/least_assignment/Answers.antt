use Rattle.tpal_verify.specs.Flat.{ground_of}
use Rattle.tpal_verify.specs.Rounds.{flows_of, least}
use Rattle.tpal_verify.proofs.Accepting.{least_below}
use Rattle.tpal_verify.proofs.Height.{least_fixed}
use Rattle.tpal_verify.proofs.Kept.{flows_kept, are_all_below}
use Rattle.tpal_verify.proofs.laws.least_assignment.Goals as goal

pub returns-clause-held : goal.returns-clause-held
returns-clause-held c = λ code. least_fixed (ground_of code)

pub returns-clause-settled : goal.returns-clause-settled
returns-clause-settled c =
    λ code. flows_kept (least (ground_of code)) (flows_of (ground_of code) (least (ground_of code))) (least_fixed (ground_of code))

pub returns-clause-below : goal.returns-clause-below
returns-clause-below c = λ code shapes m. are_all_below (least (ground_of code)) shapes (least_below code shapes m)
