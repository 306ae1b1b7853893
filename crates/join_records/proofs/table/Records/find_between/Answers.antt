use Rattle.std.proofs.Common.{◌∙◌}
use Rattle.join_records.proofs.Calls.{none_both}
use Rattle.join_records.proofs.table.Records.find_between.Goals as goal

pub loop-k-preserved : goal.loop-k-preserved
loop-k-preserved g c = let i = c.loop-k.invariant in let same = c.try_take.ensures.pass in
    (same.0 ∙ i.0, same.1 ∙ i.1, same.2 ∙ i.2, none_both _ _ _ _ _ _ i.3 c.if-try_take.ensures.taken)
