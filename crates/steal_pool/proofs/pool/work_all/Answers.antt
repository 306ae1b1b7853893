use Rattle.std.proofs.Common.{rules}
use Rattle.join_records.specs.Passes.{view}
use Rattle.steal_pool.proofs.Lists.{same_total}
use Rattle.steal_pool.proofs.pool.work_all.Goals as goal

-- no worker gives up a part
pub returns-clause-parts : goal.returns-clause-parts
returns-clause-parts g c =
    same_total (λ w. (view w.desk.pass).parts) c.args.workers.now c.for_each_mut.new.s
    (search rules)
    (λ i d near. search rules)
