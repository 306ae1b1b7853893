use Rattle.std.proofs.Common.{reverse}
use Rattle.tpal_verify.proofs.Executing.{Going}
use Rattle.tpal_verify.proofs.exec.run_turns.Given as goal

abbrev pub invariant-turns : goal.invariant-turns
invariant-turns l = Going l.code l.heartbeat l.forks l.fn.start.steps l.fn.start.task l.left (record { task = l.task; opened = reverse l.opened.items; tally = l.tally })

abbrev pub decreases-turns : goal.decreases-turns
decreases-turns l = l.left
