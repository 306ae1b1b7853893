use Rattle.tpal_verify.specs.Flat.{ground_of}
use Rattle.tpal_verify.specs.Rounds.{least}
use Rattle.tpal_verify.proofs.Accepting.{accepts, least_meets}
use Rattle.tpal_verify.proofs.laws.accepted_where_rules_are_met.Goals as goal

pub returns : goal.returns
returns c = λ code. (λ q. (least (ground_of code), least_meets code q), λ m. accepts code m.0 m.1)
