use Rattle.std.proofs.Common.{Some, sym, subst, ap, ◌∙◌, ◌<◌, ◌^◌, ℕ}
use Rattle.tpal_machine.specs.Effect.{answered}
use Rattle.tpal_machine.specs.State.{State}
use Rattle.join_records.specs.Passes.{taken_number, view}
use Rattle.steal_pool.specs.Has.{Runs}
use Rattle.steal_pool.proofs.Forking.{asked_found}
use Rattle.steal_pool.proofs.desk.Desk.ask.Goals as goal

-- the task was given the record that was found
pub returns-in-Some-clause-has : goal.returns-in-Some-clause-has
returns-in-Some-clause-has g c =
    let terms = g.S.RunTerms.terms in
    let plan = c.args.plan.now in
    let waits = c.args.task in
    let k = c.in-Some.taken in
    let w = view c.find_free.new.pass in
    let found = c.in-Some.ensures in
    let below = subst (λ (n : ℕ). taken_number k < n) plan.table_is found.number in
    let small = subst (λ (n : ℕ). n < 2 ^ 32) c.number-number.ensures c.number-number.type_inv in
    let is =
    c.answer.ensures.answered
    ∙ ap (λ (n : ℕ). answered (Some n) waits) c.number-number.ensures in
    subst (λ (x : State). Runs terms w (Some k) c.args.self.now.counts x) (sym is)
    (asked_found terms (view c.args.self.now.pass) w c.args.self.now.taken
    c.args.self.now.counts waits k c.requires.asks found.found found.apart below small).0
