use Rattle.std.proofs.Common.{arith, rules, [], ap, length, ◌∙◌, ◌≡◌, ◌-◌, ◌^◌, All}
use Rattle.join_records.specs.Passes.{IsPassOf, view}
use Rattle.join_records.proofs.Calls.{last_total}
use Rattle.join_records.proofs.Functions.{length_more}
use Rattle.steal_pool.specs.Has.{Has, IsRooted}
use Rattle.steal_pool.specs.Together.{IsOver}
use Rattle.steal_pool.proofs.Gathering.{all_sums, any_err, capped, capped_on}
use Rattle.steal_pool.proofs.Lists.{all_last, all_left, passes_more}
use Rattle.steal_pool.proofs.gather.gather.Goals as goal

pub add-requires-clause-desk : goal.add-requires-clause-desk
add-requires-clause-desk g c =
    all_last
    (λ w. IsPassOf c.args.plan.now.records.now w.desk.pass
    × Has g.S.RunTerms.terms (view w.desk.pass) w.desk.taken w.desk.counts w.desk.work
    × IsRooted g.S.RunTerms.terms (view w.desk.pass)) _ c.pop.new.self.items c.in-Some.worker
    c.in-Some.ensures.items c.loop-worker.invariant.0

-- the pass of the worker that was popped goes to the others, and its counts to theirs
pub loop-worker-preserved : goal.loop-worker-preserved
loop-worker-preserved g c =
    let worker = c.in-Some.worker in
    let left = c.pop.new.self.items in
    let last = c.in-Some.ensures.items in
    let kept = c.loop-worker.invariant in
    let added = c.in_ok-sum.ensures in
    let more = added.passes in
    let table = c.args.plan.now.records.now in
    let fits : _ → Type 0 =
    λ w. IsPassOf table w.desk.pass
    × Has g.S.RunTerms.terms (view w.desk.pass) w.desk.taken w.desk.counts w.desk.work
    × IsRooted g.S.RunTerms.terms (view w.desk.pass) in
    let mine = all_last fits _ left worker last kept.0 in
    let parts = last_total (λ p. p.seat.me.0.parts) _ _ worker.desk.pass more in
    let workers = last_total (λ w. (view w.desk.pass).parts) _ left worker last in
    let beats = last_total (λ w. w.desk.counts.beats) _ left worker last in
    let skipped = last_total (λ w. w.desk.counts.skipped) _ left worker last in
    let instructions = last_total (λ w. w.desk.counts.instructions) _ left worker last in
    let long = ap length more ∙ length_more _ _ in
    let short = ap length last ∙ length_more _ _ in
    let all_parts = kept.2 in
    let all_count = kept.3 in
    let room = kept.6 in
    let all_beats = kept.7 in
    let all_skipped = kept.8 in
    let same = added.room in
    let sums = added.sums in
    let one_beats = sums.0 in
    let one_skipped = sums.1 in
    let fits_room = same.0 in
    let one_room = same.1 in (
      all_left fits _ left worker last kept.0,
      passes_more table _ _ worker.desk.pass more kept.1 mine.0,
      omega arith,
      omega arith,
      added.outcome,
      added.adds,
      omega arith,
      omega arith,
      omega arith,
      capped_on _ worker.desk.counts.instructions _ _ _ _ (2 ^ 64 - 1) sums.2 instructions kept.9,
      capped _ _ (2 ^ 64 - 1) sums.2,
      λ over. all_left (λ w. IsOver w.desk.work) _ left worker last (kept.11 over),
    )

-- of workers that have all ended none wants memory
pub returns-in_err-sum-clause-wanting : goal.returns-in_err-sum-clause-wanting
returns-in_err-sum-clause-wanting g c =
    any_err (All (λ w. IsOver w.desk.work) c.args.workers.items → ⊥) c.from_residual.result
    (λ over.
    c.in_err-sum.ensures.wanting
    (all_last (λ w. IsOver w.desk.work) _ c.pop.new.self.items c.in-Some.worker
    c.in-Some.ensures.items (c.loop-worker.invariant.11 over)))

-- no worker is left
pub returns-clause-sums : goal.returns-clause-sums
returns-clause-sums g c =
    let kept = c.loop-worker.invariant in
    let none : c.loop-worker.workers.items ≡ [] = search rules in
    all_sums (λ w. w.desk.counts) c.loop-worker.workers.items c.args.workers.items _ _ _ none
    kept.7 kept.8 kept.9 kept.10
