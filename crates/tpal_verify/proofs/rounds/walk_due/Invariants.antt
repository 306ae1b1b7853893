use Rattle.std.proofs.Common.{◌≡◌, true, map, length}
use Rattle.tpal_verify.specs.Rounds.{with_flows, join_in}
use Rattle.tpal_verify.specs.Rounding.{flows_due, retraced}
use Rattle.tpal_verify.proofs.rounds.walk_due.Given as goal

-- what is left to walk makes of the shapes and the traces what all makes
abbrev pub invariant-loop-label : goal.invariant-loop-label
invariant-loop-label l = record {
  next : with_flows l.board.next (flows_due l.ground l.fn.board.now l.rest)
      ≡ with_flows l.fn.board.next (flows_due l.ground l.fn.board.now l.fn.due);
  now : l.board.now ≡ l.fn.board.now;
  traces : retraced l.ground l.fn.board.now l.rest l.traces.items
      ≡ retraced l.ground l.fn.board.now l.fn.due l.fn.traces.items;
  same : l.same ≡ true → map join_in l.traces.items ≡ map join_in l.fn.traces.items;
}

abbrev pub decreases-loop-label : goal.decreases-loop-label
decreases-loop-label l = length l.rest
