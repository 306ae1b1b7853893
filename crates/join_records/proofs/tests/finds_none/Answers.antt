use Rattle.std.proofs.Common.{◌∙◌, sym, ap, subst}
use Rattle.join_records.specs.Views.{NoneMet}
use Rattle.join_records.proofs.Callers.{found_unmet}
use Rattle.join_records.proofs.tests.finds_none.Goals as goal

pub returns-in-None : goal.returns-in-None
returns-in-None c = let r = c.requires.table in let s = c.in-None.ensures.pass in let now = c.in-None.ensures.none.1 in
    record { pass = ((s.0 ∙ r.0, s.2 ∙ r.1, λ z. r.2 (sym (ap (λ v. v.parts) now) ∙ z)), ap (λ v. v.ends) now ∙ c.requires.end, subst (λ v. NoneMet v) (sym now) c.requires.none_met, ap (λ v. v.parts) now, ap (λ v. v.opens) now) }

pub returns-in-Some : goal.returns-in-Some
returns-in-Some c = let r = c.requires.table in let s = c.in-Some.ensures.pass in let found = c.in-Some.ensures.found in let now = found.1 in
    record { pass = ((s.0 ∙ r.0, s.2 ∙ r.1, λ z. r.2 (sym (ap (λ v. v.parts) now) ∙ z)), ap (λ v. v.ends) now ∙ c.requires.end, found_unmet c.args.pass.now.seat.me.0 c.find_free.new.pass.seat.me.0 _ c.requires.none_met found, ap (λ v. v.parts) now, ap (λ v. v.opens) now) }
