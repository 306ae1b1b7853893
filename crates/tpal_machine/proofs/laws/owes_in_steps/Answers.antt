use Rattle.tpal_machine.proofs.Within as within
use Rattle.tpal_machine.proofs.laws.owes_in_steps.Goals as goal

pub returns-clause-within : goal.returns-clause-within
returns-clause-within c = λ heartbeat due n state e owing. within.within_of_bound c.args.code.now heartbeat c.blocks-blocks.ensures.right due n state e (record { belongs = owing.belongs; waits_not = owing.waits_not }) owing.bound

pub returns-clause-owes : goal.returns-clause-owes
returns-clause-owes c = λ heartbeat due state e owing. record {
  belongs = (within.runs_within c.args.code.now heartbeat owing.steps due state e owing.owes).belongs;
  waits_not = (within.runs_within c.args.code.now heartbeat owing.steps due state e owing.owes).waits_not;
  bound = within.bound_of_within c.args.code.now heartbeat owing.steps due state e owing.owes;
}
