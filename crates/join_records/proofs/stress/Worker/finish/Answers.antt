use Rattle.std.proofs.Common.{◌∙◌, sym, ap, subst}
use Rattle.join_records.specs.Views.{NoneMet}
use Rattle.join_records.proofs.stress.Worker.finish.Goals as goal

pub returns-in-Some-Root : goal.returns-in-Some-Root
returns-in-Some-Root c = let r = c.requires.sits.0 in let s = c.finish.ensures.pass in let now = c.finish.ensures.finished in
    record { sits = (((s.0 ∙ r.0, s.2 ∙ r.1, λ z. r.2 (sym (ap (λ v. v.parts) now) ∙ z)), ap (λ v. v.ends) now, subst (λ v. NoneMet v) (sym now) c.requires.sits.2), ap (λ v. v.parts) now) }
