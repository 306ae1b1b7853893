use Rattle.std.proofs.Common.{◌≡◌}
use Rattle.join_records.specs.Passes.{view}
use Rattle.join_records.specs.Seated.{Sits}
use Rattle.join_records.proofs.stress.work_shifts.Given as goal

abbrev pub invariant-loop-shift : goal.invariant-loop-shift
invariant-loop-shift g l = record {
  one : Sits l.table l.crew.one.end l.crew.one.pass × ((view l.crew.one.pass).parts ≡ (view l.initial.crew.one.pass).parts);
  two : Sits l.table l.crew.two.end l.crew.two.pass × ((view l.crew.two.pass).parts ≡ (view l.initial.crew.two.pass).parts);
  three : Sits l.table l.crew.three.end l.crew.three.pass × ((view l.crew.three.pass).parts ≡ (view l.initial.crew.three.pass).parts);
  four : Sits l.table l.crew.four.end l.crew.four.pass × ((view l.crew.four.pass).parts ≡ (view l.initial.crew.four.pass).parts);
}
