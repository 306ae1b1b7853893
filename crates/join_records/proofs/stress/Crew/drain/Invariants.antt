use Rattle.std.proofs.Common.{◌≡◌}
use Rattle.join_records.specs.Passes.{view}
use Rattle.join_records.specs.Seated.{Sits}
use Rattle.join_records.proofs.stress.Crew.drain.Given as goal

abbrev pub invariant-loop-round : goal.invariant-loop-round
invariant-loop-round l = record {
  one : Sits l.table l.self.one.end l.self.one.pass × ((view l.self.one.pass).parts ≡ (view l.initial.self.one.pass).parts);
  two : Sits l.table l.self.two.end l.self.two.pass × ((view l.self.two.pass).parts ≡ (view l.initial.self.two.pass).parts);
  three : Sits l.table l.self.three.end l.self.three.pass × ((view l.self.three.pass).parts ≡ (view l.initial.self.three.pass).parts);
  four : Sits l.table l.self.four.end l.self.four.pass × ((view l.self.four.pass).parts ≡ (view l.initial.self.four.pass).parts);
}
