use Rattle.join_records.specs.Passes.{view, IsPassOf}
use Rattle.steal_pool.specs.Has.{Has, Stays}
use Rattle.steal_pool.specs.Tied.{SameDeques}
use Rattle.steal_pool.proofs.pool.work.Given as goal

abbrev pub invariant-loop : goal.invariant-loop
invariant-loop g l =
    IsPassOf l.plan.records.now l.worker.desk.pass
    × Stays (view l.initial.worker.desk.pass) (view l.worker.desk.pass)
    × Has g.S.RunTerms.terms (view l.worker.desk.pass) l.worker.desk.taken l.worker.desk.counts
    l.worker.desk.work
    × SameDeques l.initial.worker.source l.worker.source
