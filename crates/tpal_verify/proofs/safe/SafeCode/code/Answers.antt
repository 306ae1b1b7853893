use Rattle.std.proofs.Common.{subst}
use Rattle.tpal_verify.specs.Breaks.{Accepted}
use Rattle.tpal_verify.proofs.safe.SafeCode.code.Goals as goal

pub returns-clause-accepted : goal.returns-clause-accepted
returns-clause-accepted c = subst (λ code. Accepted code) c.self.view_is c.self.invariant
