use Rattle.std.proofs.Common.{◌∙◌, sym, ap}
use Rattle.join_records.proofs.stress.finds_free.Goals as goal

pub returns-in-None : goal.returns-in-None
returns-in-None c = let r = c.requires.table in let s = c.in-None.ensures.pass in let now = c.in-None.ensures.none.1 in
    record { pass = ((s.0 ∙ r.0, s.2 ∙ r.1, λ z. r.2 (sym (ap (λ v. v.parts) now) ∙ z)), ap (λ v. v.parts) now) }

pub returns-in-Some : goal.returns-in-Some
returns-in-Some c = let r = c.requires.table in let s = c.in-Some.ensures.pass in let now = c.in-Some.ensures.found.1 in
    record { pass = ((s.0 ∙ r.0, s.2 ∙ r.1, λ z. r.2 (sym (ap (λ v. v.parts) now) ∙ z)), ap (λ v. v.parts) now) }
