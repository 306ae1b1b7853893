use Rattle.tests_machine.proofs.runs.+ending_of.Given as goal

abbrev pub decreases-ending_of : goal.decreases-ending_of
decreases-ending_of l = l.turns
