use Rattle.std.proofs.Common.{rules, sym, subst, ℕ}
use Rattle.join_records.specs.Passes.{AreNew, IsPassOf, view}
use Rattle.steal_pool.specs.Facts.{Owed}
use Rattle.steal_pool.specs.Has.{Has, IsRooted}
use Rattle.steal_pool.proofs.Lists.{all_taken}
use Rattle.steal_pool.proofs.pool.run_from.Goals as goal

-- the passes are new, and as many as there are
pub make_workers-requires-clause-passes : goal.make_workers-requires-clause-passes
make_workers-requires-clause-passes g c =
    let terms = g.S.RunTerms.terms in
    let made = c.in_ok-records.ensures.passes in
    subst
    (λ (n : ℕ). AreNew (Owed terms.code terms.heartbeat) c.args.start.task n
    c.in_ok-records.records c.in_ok-records.passes.items) (sym made.2) made

-- the workers that have ended are those that were lent
pub gather-requires-clause-each : goal.gather-requires-clause-each
gather-requires-clause-each g c =
    let terms = g.S.RunTerms.terms in
    all_taken
    (λ w. IsPassOf c.in_ok-records.records w.desk.pass
    × Has terms (view w.desk.pass) w.desk.taken w.desk.counts w.desk.work
    × IsRooted terms (view w.desk.pass)) _ c.work_all.new.workers _ (search rules)
    c.work_all.ensures.each
