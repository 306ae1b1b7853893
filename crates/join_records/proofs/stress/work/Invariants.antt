use Rattle.std.proofs.Common.{◌≡◌}
use Rattle.join_records.specs.Passes.{view}
use Rattle.join_records.specs.Seated.{Sits}
use Rattle.join_records.proofs.stress.work.Given as goal

abbrev pub invariant-loop-turn : goal.invariant-loop-turn
invariant-loop-turn l = Sits l.table l.worker.end l.worker.pass × ((view l.worker.pass).parts ≡ (view l.initial.worker.pass).parts)
