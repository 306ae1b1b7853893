use Rattle.std.proofs.Common.{◌≤◌, length}
use Rattle.tests_events.proofs.events.lists_of.Given as goal

-- a list for each worker so far
abbrev pub invariant-loop-worker : goal.invariant-loop-worker
invariant-loop-worker l = l.worker ≤ length l.lists.items
