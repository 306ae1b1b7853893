use Rattle.std.proofs.Common.{subst}
use Rattle.tpal_syntax.specs.Conditions.{IsCode}
use Rattle.tpal_syntax.specs.Listing.{Listing}
use Rattle.tpal_verify.proofs.Beginning.{run_told, run_events, run_allowed, run_paid}
use Rattle.tpal_verify.proofs.exec_laws.runs_are_told.Goals as goal

pub returns-clause-told : goal.returns-clause-told
returns-clause-told c = λ heartbeat forks fuel held steps few sizes within. run_told c.args.code.now (subst (λ (l : Listing). IsCode l.tables l.blocks) c.code-code.ensures.code c.blocks-blocks.ensures.right) c.code-code.ensures.accepted heartbeat forks fuel held few sizes steps within

pub returns-clause-events : goal.returns-clause-events
returns-clause-events c = λ heartbeat forks fuel held steps report few sizes within is. run_events c.args.code.now (subst (λ (l : Listing). IsCode l.tables l.blocks) c.code-code.ensures.code c.blocks-blocks.ensures.right) c.code-code.ensures.accepted heartbeat forks fuel held few sizes steps within report is

pub returns-clause-allowed : goal.returns-clause-allowed
returns-clause-allowed c = λ heartbeat forks fuel held steps report few sizes within is. run_allowed c.args.code.now (subst (λ (l : Listing). IsCode l.tables l.blocks) c.code-code.ensures.code c.blocks-blocks.ensures.right) c.code-code.ensures.accepted heartbeat forks fuel held few sizes steps within report is

pub returns-clause-paid : goal.returns-clause-paid
returns-clause-paid c = λ heartbeat forks fuel held steps report few sizes within is. run_paid c.args.code.now (subst (λ (l : Listing). IsCode l.tables l.blocks) c.code-code.ensures.code c.blocks-blocks.ensures.right) c.code-code.ensures.accepted heartbeat forks fuel held few sizes steps within report is
