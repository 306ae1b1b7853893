use Rattle.std.proofs.Common.{subst, sym, refl, ℕ}
use Rattle.std.specs.Prelude.{IfOk}
use Rattle.tpal_syntax.specs.Listing.{Listing}
use Rattle.tpal_machine.specs.declared.ends.End.{End}
use Rattle.tpal_machine.specs.declared.ends.Ending.TheVariants as ending
use Rattle.tpal_machine.specs.Answer.{IsMerged}
use Rattle.tpal_machine.specs.Merge.{joined}
use Rattle.join_records.specs.Ends.{IsEndOf}
use Rattle.join_records.specs.Passes.{view}
use Rattle.join_records.specs.Views.{HasMet}
use Rattle.join_records.proofs.Callers.{met_here}
use Rattle.steal_pool.specs.Has.{IsHeld}
use Rattle.steal_pool.proofs.Arrivals.{after_merge, freed, sides_merge}
use Rattle.steal_pool.proofs.desk.Desk.arrive.Goals as goal

-- the second side has the record in hand as met
pub free-requires-clause-hand : goal.free-requires-clause-hand
free-requires-clause-hand g c κs within =
    let met =
    c.in-Second.ensures.arrived (ending.At c.args.rec c.args.side c.args.out)
    c.requires.ended.held.holds in (
      met.5,
      subst (λ (n : ℕ). HasMet (view c.arrive.new.pass) n met.5) (sym met.11)
          (met_here (view c.args.self.now.pass) (view c.arrive.new.pass) c.args.rec met.0 met.1
          met.2
          met.5 met.4 met.14),
    )

-- and goes on with what both sides merge to
pub returns-in-Second-clause-has : goal.returns-in-Second-clause-has
returns-in-Second-clause-has g c =
    let terms = g.S.RunTerms.terms in
    let plan = c.args.plan.now in
    let v = view c.args.self.now.pass in
    let x = view c.free.new.pass in
    let taken = c.args.self.now.taken in
    let counts = c.args.self.now.counts in
    let e = ending.At c.args.rec c.args.side c.args.out in
    let got = c.in-Second in
    let met = got.ensures.arrived e c.requires.ended.held.holds in
    let now = c.free.ensures.freed in
    let fits =
    freed terms v (view c.arrive.new.pass) x taken counts c.args.rec got.met.number met.0 met.1
    met.2 now.0 met.5 e met.4 c.requires.ended met.14 met.11
    (subst (λ (n : ℕ). IsEndOf n met.5) plan.table_is met.12) now.1 in
    after_merge terms x taken counts got.rest got.left got.right met.4 c.merge-merged.result
    c.work_of.result fits.0 fits.1
    (subst (λ (end : End). IsHeld terms x end met.4) (sym met.7) fits.2)
    (sides_merge terms.code terms.heartbeat c.args.rec c.args.side got.rest e met.3 met.4 c.args.out
    got.left got.right met.8 refl met.9 met.10)
    (subst
    (λ (code : Listing).
    IfOk c.merge-merged.result (IsMerged (joined code got.rest got.left got.right)))
    plan.code_is c.merge-merged.ensures.merged) c.work_of.ensures
