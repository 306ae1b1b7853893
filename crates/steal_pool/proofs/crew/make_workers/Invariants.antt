use Rattle.std.proofs.Common.{◌≡◌, ℕ, ◌+◌, ◌≤◌, All, length, vec_len}
use mathlib.Core.Option.{some}
use lib.ListN.{get_elem?}
use Rattle.tpal_machine.specs.declared.ends.Ending.{Ending}
use Rattle.join_records.specs.Passes.{view, IsPassOf, NewView}
use Rattle.join_records.specs.Views.{total}
use Rattle.steal_pool.specs.Facts.{Owed}
use Rattle.steal_pool.specs.Has.{Has, IsRooted}
use Rattle.steal_pool.specs.Tied.{AreTied, AreTiedWorkers}
use Rattle.steal_pool.proofs.Tying.{Meet}
use Rattle.steal_pool.proofs.crew.make_workers.Given as goal

abbrev pub invariant-loop-passes : goal.invariant-loop-passes
invariant-loop-passes g l =
    ((e : Ending)
    × Owed g.S.RunTerms.terms.code g.S.RunTerms.terms.heartbeat l.fn.first e
    × ((k : ℕ) (p : _)
    → get_elem? l.passes.items k ≡ some p
    → IsPassOf l.plan.records.now p × NewView e (length l.fn.passes.items) k (view p)))
    × All (λ w. IsPassOf l.plan.records.now w.desk.pass
    × Has g.S.RunTerms.terms (view w.desk.pass) w.desk.taken w.desk.counts w.desk.work
    × IsRooted g.S.RunTerms.terms (view w.desk.pass)) l.workers.items
    × (total (λ w. (view w.desk.pass).parts) l.workers.items ≡ length l.workers.items)
    × (length l.passes.items + length l.workers.items ≡ length l.fn.passes.items)
    × (length l.sources.items ≡ length l.passes.items)
    × (1 ≤ length l.passes.items)
    × AreTied l.sources.items
    × Meet (λ w. w.source) l.workers.items l.sources.items
    × AreTiedWorkers (λ w. w.source) l.workers.items

abbrev pub decreases-loop-passes : goal.decreases-loop-passes
decreases-loop-passes g l = vec_len l.passes
