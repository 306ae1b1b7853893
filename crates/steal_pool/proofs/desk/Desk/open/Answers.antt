use Rattle.std.proofs.Common.{Option, sym, subst, ◌∙◌}
use Rattle.tpal_machine.specs.Cut.{Forked}
use Rattle.join_records.specs.declared.table.Taken.{Taken}
use Rattle.join_records.specs.Passes.{view}
use Rattle.steal_pool.specs.Has.{Runs}
use Rattle.steal_pool.proofs.Forking.{opened}
use Rattle.steal_pool.proofs.desk.Desk.open.Goals as goal

-- the left side goes on, under the record that was opened
pub returns-clause-has : goal.returns-clause-has
returns-clause-has g c =
    let terms = g.S.RunTerms.terms in
    let forks = c.requires.forks in
    let parts : Forked =
    record {
      rec = forks.0;
      left = c.args.left;
      rest = c.args.rest;
      child = c.args.child;
    } in
    let w = view c.open_at-number.new.pass in
    let now = c.open_at-number.ensures.opened in
    subst (λ (t : Option Taken). Runs terms w t c.args.self.now.counts c.args.left)
    (sym c.take.ensures.after)
    (opened terms (view c.args.self.now.pass) w c.args.self.now.taken c.args.self.now.counts parts
    c.in-Some.taken now.0 now.2.0 forks.1 (sym c.take.ensures.value ∙ c.in-Some.is) now.1
    now.2.1).0
