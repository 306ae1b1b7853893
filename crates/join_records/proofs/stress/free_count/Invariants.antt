use Rattle.std.proofs.Common.{◌≡◌, ◌≤◌}
use Rattle.join_records.specs.Passes.{view, IsPassOf}
use Rattle.join_records.proofs.stress.free_count.Given as goal

abbrev pub invariant-loop-record : goal.invariant-loop-record
invariant-loop-record l = IsPassOf l.table l.pass × ((view l.pass).parts ≡ (view l.initial.pass).parts) × (l.free ≤ l._record)
