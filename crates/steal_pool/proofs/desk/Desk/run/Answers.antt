use Rattle.std.proofs.Common.{sym, subst, arith, ℕ}
use Rattle.std.proofs.lemmas.Bool.Decides.{nat_tests}
use Rattle.tpal_syntax.specs.Listing.{Listing}
use Rattle.tpal_machine.specs.Keeping.{AnsweredKeeps}
use Rattle.tpal_machine.specs.Owed.{owing, RanOwes}
use Rattle.tpal_machine.specs.Owes.{Owes}
use Rattle.join_records.specs.Passes.{view}
use Rattle.steal_pool.proofs.Counting.{short_beats}
use Rattle.steal_pool.proofs.Turning.{turn_fits}
use Rattle.steal_pool.proofs.desk.Desk.run.Goals as goal

-- what the turn of its task came to
pub follow-requires-clause-fits : goal.follow-requires-clause-fits
follow-requires-clause-fits g c =
    let terms = g.S.RunTerms.terms in
    let plan = c.args.plan.now in
    let runs = c.requires.runs in
    let task = c.args.task in
    let before = c.args.self.now.counts in
    let after = c.add.new.self in
    let ran = c.run_task-ran.result in
    let told = c.run_task-ran.ensures in
    let owed =
    subst
    (λ (x : Listing × ℕ). RanOwes x.0 (owing x.0 x.1) runs.due runs.ending ran)
    (λ i. (plan.code_is i, plan.beat_is.0 i))
    (told.owes 0 runs.due runs.ending
    (subst (λ (x : Listing × ℕ). Owes x.0 x.1 runs.due 0 task runs.ending)
    (λ i. (sym plan.code_is i, sym plan.beat_is.0 i)) runs.owes)) in
    let keeps =
    subst (λ (h : ℕ). AnsweredKeeps h ran.steps task ran.turn) plan.beat_is.0 told.keeps in
    let forks = plan.forks_is.0 in
    let limit = c.from.ensures in
    let few = runs.counts_fit.few in
    turn_fits terms (view c.args.self.now.pass) c.args.self.now.taken before after task ran.steps
    ran.beats ran.turn runs owed.turn owed.few owed.calm keeps
    record {
      beats = c.add.ensures.beats;
      skipped = c.add.ensures.skipped;
      instructions = c.add.ensures.instructions;
    }
    (short_beats ran.turn plan.code.now plan.heartbeat 4096 _ task before.beats ran.beats
    after.beats
    terms.forks told.ran.beats owed.few c.add.ensures.beats few (λ is. grind (arith, nat_tests)))
