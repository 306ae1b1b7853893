use Rattle.std.proofs.Common.{reverse}
use Rattle.schedule_core.proofs.Soloing.{Running, left}
use Rattle.schedule_core.proofs.solo.run_turns.Given as goal

abbrev pub invariant-turns : goal.invariant-turns
invariant-turns l = Running l.code l.heartbeat l.forks l.fn.start.ends.0 l.fn.start.task (record { task = l.task; opened = reverse l.opened.items; tally = l.tally })

abbrev pub decreases-turns : goal.decreases-turns
decreases-turns l = left l.fn.start.ends.0 l.code l.heartbeat l.forks (record { task = l.task; opened = reverse l.opened.items; tally = l.tally })
