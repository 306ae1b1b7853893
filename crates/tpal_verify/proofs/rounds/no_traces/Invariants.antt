use Rattle.std.proofs.Common.{◌≡◌, None, replicate}
use Rattle.tpal_verify.proofs.rounds.no_traces.Given as goal

abbrev pub invariant-loop : goal.invariant-loop
invariant-loop l = l.traces.items ≡ replicate l.counter None
