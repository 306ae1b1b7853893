use Rattle.tests_core.proofs.events.+stepped.Given as goal

-- the instructions left
abbrev pub decreases-stepped : goal.decreases-stepped
decreases-stepped l = l.times
