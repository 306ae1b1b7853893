use Rattle.std.proofs.Common.{◌≡◌, ◌≢◌, ◌+◌, ◌*◌, ◌<◌, ◌≤◌, [], vec_len}
use Rattle.join_records.specs.Words.{bit}
use Rattle.join_records.specs.Views.{saw_finish}
use Rattle.join_records.specs.Passes.{ArePassesOf, parts_in, opens_in, made_in, saw_in}
use Rattle.join_records.proofs.table.Records.close.Given as goal

abbrev pub decreases-loop-pass : goal.decreases-loop-pass
decreases-loop-pass g l = vec_len l.passes

abbrev pub invariant-loop-pass : goal.invariant-loop-pass
invariant-loop-pass g l = record {
  seat : (l.whole.table_id ≡ l.self.table.shared.table_id) × (l.whole.me.1 ≡ []) × (l.whole.me.0.parts ≢ 0);
  rest : ArePassesOf l.self l.passes.items;
  opens : (l.opens ≡ l.whole.me.0.opens) × (l.opens ≤ 4294967296 * l.whole.me.0.parts) × (l.whole.me.0.opens + opens_in l.passes.items ≡ opens_in l.fn.passes.items);
  made : (l.count ≡ l.whole.me.0.made) × (l.count ≤ l.whole.me.0.parts) × (l.whole.me.0.made + made_in l.passes.items ≡ made_in l.fn.passes.items);
  parts : l.whole.me.0.parts + parts_in l.passes.items ≡ 16;
  saw : 0 < saw_in l.fn.passes.items → 0 < bit (saw_finish l.whole.me.0.reads) + saw_in l.passes.items;
}
