use Rattle.std.proofs.Common.{◌≡◌}
use Rattle.join_records.specs.Passes.{view}
use Rattle.join_records.specs.Answers.{NoneFree}
use Rattle.join_records.proofs.table.Records.find_between.Given as goal

abbrev pub invariant-loop-k : goal.invariant-loop-k
invariant-loop-k g l = (l.pass.seat.table_id ≡ l.initial.pass.seat.table_id) × (l.pass.seat.id ≡ l.initial.pass.seat.id) × (l.pass.seat.me.1 ≡ l.initial.pass.seat.me.1) × NoneFree l.fn.from l.k (view l.initial.pass) (view l.pass)
