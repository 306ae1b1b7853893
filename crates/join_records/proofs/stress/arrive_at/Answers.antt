use Rattle.std.proofs.Common.{◌∙◌, sym, ap, subst}
use Rattle.join_records.specs.Views.{NoneMet}
use Rattle.join_records.proofs.Callers.{freed_unmet}
use Rattle.join_records.proofs.stress.arrive_at.Goals as goal

pub returns-in-First-clause-pass : goal.returns-in-First-clause-pass
returns-in-First-clause-pass c = let r = c.requires.table.0 in let s = c.in-First.ensures.pass in let now = (c.in-First.ensures.arrived 0 c.requires.end).3 in
    ((s.0 ∙ r.0, s.2 ∙ r.1, λ z. r.2 (sym (ap (λ v. v.parts) now) ∙ z)), subst (λ v. NoneMet v) (sym now) c.requires.none_met, ap (λ v. v.parts) now)

pub returns-in-Second-clause-pass : goal.returns-in-Second-clause-pass
returns-in-Second-clause-pass c = let r = c.requires.table.0 in let s = c.in-Second.ensures.pass in let met = c.in-Second.ensures.arrived 0 c.requires.end in let f = c.free.ensures.pass in let freed = c.free.ensures.freed.1 in
    let parts = ap (λ v. v.parts) freed ∙ ap (λ v. v.parts) met.14 in (
      (f.0 ∙ (s.0 ∙ r.0), f.2 ∙ (s.2 ∙ r.1), λ z. r.2 (sym parts ∙ z)),
      freed_unmet c.args.pass.now.seat.me.0 c.arrive.new.pass.seat.me.0 c.free.new.pass.seat.me.0 c.args.rec _ _ _ _ _ _ _ c.requires.none_met met.11 met.14 freed,
      parts,
    )
