use Rattle.tests_machine.proofs.runs.+fault_from.Given as goal

abbrev pub decreases-fault_from : goal.decreases-fault_from
decreases-fault_from l = l.turns
