use Rattle.std.proofs.Common.{◌≡◌, ◌+◌, ◌-◌, ◌^◌, ◌≤◌, min, All, length, vec_capacity, vec_len}
use Rattle.join_records.specs.Passes.{view, IsPassOf, ArePassesOf, parts_in}
use Rattle.join_records.specs.Views.{total}
use Rattle.steal_pool.specs.Has.{Has, IsRooted}
use Rattle.steal_pool.specs.Together.{Adds, Gathered, IsOver}
use Rattle.steal_pool.proofs.gather.gather.Given as goal

abbrev pub invariant-loop-worker : goal.invariant-loop-worker
invariant-loop-worker g l =
    All (λ w. IsPassOf l.plan.records.now w.desk.pass
    × Has g.S.RunTerms.terms (view w.desk.pass) w.desk.taken w.desk.counts w.desk.work
    × IsRooted g.S.RunTerms.terms (view w.desk.pass)) l.workers.items
    × ArePassesOf l.plan.records.now l.sum.passes.items
    × (parts_in l.sum.passes.items + total (λ w. (view w.desk.pass).parts) l.workers.items
    ≡ total (λ w. (view w.desk.pass).parts) l.fn.workers.items)
    × (length l.sum.passes.items + length l.workers.items ≡ length l.fn.workers.items)
    × Gathered g.S.RunTerms.terms l.sum.outcome l.sum.passes.items
    × Adds g.S.RunTerms.terms l.sum.beats l.sum.skipped l.sum.instructions l.sum.passes.items
    × (vec_len l.sum.passes + length l.workers.items ≤ vec_capacity l.sum.passes)
    × (l.sum.beats + total (λ w. w.desk.counts.beats) l.workers.items
    ≡ total (λ w. w.desk.counts.beats) l.fn.workers.items)
    × (l.sum.skipped + total (λ w. w.desk.counts.skipped) l.workers.items
    ≡ total (λ w. w.desk.counts.skipped) l.fn.workers.items)
    × (min (l.sum.instructions + total (λ w. w.desk.counts.instructions) l.workers.items)
    (2 ^ 64 - 1)
    ≡ min (total (λ w. w.desk.counts.instructions) l.fn.workers.items) (2 ^ 64 - 1))
    × (l.sum.instructions ≤ 2 ^ 64 - 1)
    × (All (λ w. IsOver w.desk.work) l.fn.workers.items
    → All (λ w. IsOver w.desk.work) l.workers.items)

abbrev pub decreases-loop-worker : goal.decreases-loop-worker
decreases-loop-worker g l = vec_len l.workers
