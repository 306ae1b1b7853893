use Rattle.std.proofs.Common.{◌≤◌, ℕ, refl, subst}
use Rattle.steal_pool.proofs.Gathering.{one_more}
use Rattle.steal_pool.proofs.gather.Sum.add.Goals as goal

-- one more worker's outcome and counts
pub returns-clause-outcome : goal.returns-clause-outcome
returns-clause-outcome g c =
    let sum = c.args.self in
    let desk = c.args.desk in
    let plan = c.args.plan.now in
    (one_more g.S.RunTerms.terms sum.passes.items c.push_reserved.new.self.items desk.pass
    c.push_reserved.ensures.items desk.taken desk.counts desk.work sum.outcome
    c.in_ok-outcome_with.field-0 sum.beats sum.skipped sum.instructions c.saturating_add.result
    c.requires.desk.1 c.requires.desk.2 c.in_ok-outcome_with.ensures.outcome c.requires.outcome
    c.requires.adds (subst (λ (n : ℕ). n ≤ 1000000) plan.forks_is.0 plan.forks_is.1)
    (subst (λ (n : ℕ). n ≤ 1000000000) plan.beat_is.0 plan.beat_is.2) c.requires.short
    c.saturating_add.ensures).0

pub returns-clause-adds : goal.returns-clause-adds
returns-clause-adds g c =
    let sum = c.args.self in
    let desk = c.args.desk in
    let plan = c.args.plan.now in
    (one_more g.S.RunTerms.terms sum.passes.items c.push_reserved.new.self.items desk.pass
    c.push_reserved.ensures.items desk.taken desk.counts desk.work sum.outcome
    c.in_ok-outcome_with.field-0 sum.beats sum.skipped sum.instructions c.saturating_add.result
    c.requires.desk.1 c.requires.desk.2 c.in_ok-outcome_with.ensures.outcome c.requires.outcome
    c.requires.adds (subst (λ (n : ℕ). n ≤ 1000000) plan.forks_is.0 plan.forks_is.1)
    (subst (λ (n : ℕ). n ≤ 1000000000) plan.beat_is.0 plan.beat_is.2) c.requires.short
    c.saturating_add.ensures).1

pub returns-clause-sums : goal.returns-clause-sums
returns-clause-sums g c = (refl, refl, c.saturating_add.ensures)
