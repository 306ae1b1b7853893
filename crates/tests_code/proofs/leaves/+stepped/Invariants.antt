use Rattle.tests_code.proofs.leaves.+stepped.Given as goal

abbrev pub decreases-stepped : goal.decreases-stepped
decreases-stepped l = l.steps
