use Rattle.tests_machine.proofs.forks.+forked.Given as goal

abbrev pub decreases-forked : goal.decreases-forked
decreases-forked l = l.turns
