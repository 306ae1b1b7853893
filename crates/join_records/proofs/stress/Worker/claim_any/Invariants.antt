use Rattle.std.proofs.Common.{◌≡◌}
use Rattle.join_records.specs.Passes.{view}
use Rattle.join_records.specs.Seated.{Sits}
use Rattle.join_records.proofs.stress.Worker.claim_any.Given as goal

abbrev pub invariant-loop-rec : goal.invariant-loop-rec
invariant-loop-rec l = Sits l.table l.self.end l.self.pass × ((view l.self.pass).parts ≡ (view l.initial.self.pass).parts)
