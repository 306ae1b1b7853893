use Rattle.std.proofs.Common.{◌∙◌, sym, ap}
use Rattle.join_records.proofs.Callers.{opened_unmet}
use Rattle.join_records.proofs.tests.open_one.Goals as goal

pub returns-clause-pass : goal.returns-clause-pass
returns-clause-pass c = let r = c.requires.table.0 in let t = c.open_at.ensures.pass in let now = c.open_at.ensures.opened.2.1 in let parts = ap (λ v. v.parts) now in
    ((t.0 ∙ r.0, t.2 ∙ r.1, λ z. r.2 (sym parts ∙ z)), opened_unmet c.args.pass.now.seat.me.0 c.open_at.new.pass.seat.me.0 _ _ _ c.requires.none_met now, parts)
