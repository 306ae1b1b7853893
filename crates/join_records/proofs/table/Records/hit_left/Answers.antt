use Rattle.std.proofs.Common.{◌∙◌, refl, subst, rules}
use Rattle.tpal_machine.specs.declared.ends.SideName.TheVariants.{Left}
use Rattle.join_records.specs.Steps.{arrived_at}
use Rattle.join_records.proofs.Calls.{arrived_counts}
use Rattle.join_records.proofs.Arriving.{arrives_left}
use Rattle.join_records.proofs.table.Records.hit_left.Goals as goal

pub fetch_or-requires : goal.fetch_or-requires
fetch_or-requires g c = let end = c.requires.end.1 in (search rules, search rules, arrives_left _ _ _ _ _ _ end.0 end.1 _ c.requires.table.1 (search rules) c.requires.end.0 end.2 end.3 end.4)

pub invariant_of-pass : goal.invariant_of-pass
invariant_of-pass g c = let was = c.args.pass.now.counted in let end = c.requires.end.1 in let t = arrived_counts g.L.Load.keeps g.L.Load.rest_owes g.L.Load.is_ending Left _ c.args.pass.now.seat.me c.fetch_or.result c.fetch_or.new.seat.me c.args.k end.0 (c.fetch_or.ensures.2 c.args.k end.0 refl end.2) in
    record { counted = (was.0 ∙ t.0, was.1, was.2 ∙ t.1) }

pub returns-clause-hit : goal.returns-clause-hit
returns-clause-hit g c = λ e is.
    subst (λ n. arrived_at g.L.Load.keeps g.L.Load.rest_owes g.L.Load.is_ending Left n c.args.pass.now.seat.me c.fetch_or.result c.fetch_or.new.seat.me c.args.k e) c.args.self.now.sized.1 (c.fetch_or.ensures.2 c.args.k e refl is)
