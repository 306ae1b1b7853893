use Rattle.std.proofs.Common.{◌∙◌, sym, ap, subst}
use Rattle.join_records.specs.Views.{NoneMet}
use Rattle.join_records.proofs.Callers.{found_unmet, opened_unmet}
use Rattle.join_records.proofs.stress.open_under.Goals as goal

pub returns-in_err-taken-clause-pass : goal.returns-in_err-taken-clause-pass
returns-in_err-taken-clause-pass c = let r = c.requires.table in let s = c.in_err-taken.ensures.pass in let now = c.in_err-taken.ensures.none.1 in
    ((s.0 ∙ r.0, s.2 ∙ r.1, λ z. r.2 (sym (ap (λ v. v.parts) now) ∙ z)), subst (λ v. NoneMet v) (sym now) c.requires.none_met, ap (λ v. v.parts) now)

pub open_at-requires-clause-none_met : goal.open_at-requires-clause-none_met
open_at-requires-clause-none_met c κs = found_unmet c.args.pass.now.seat.me.0 c.find_free.new.pass.seat.me.0 _ c.requires.none_met c.in_ok-taken.ensures.found

pub returns-clause-pass : goal.returns-clause-pass
returns-clause-pass c = let r = c.requires.table in let s = c.in_ok-taken.ensures.pass in let found = c.in_ok-taken.ensures.found.1 in let t = c.open_at.ensures.pass in let now = c.open_at.ensures.opened.2.1 in
    let parts = ap (λ v. v.parts) now ∙ ap (λ v. v.parts) found in
    ((t.0 ∙ (s.0 ∙ r.0), t.2 ∙ (s.2 ∙ r.1), λ z. r.2 (sym parts ∙ z)), opened_unmet c.find_free.new.pass.seat.me.0 c.open_at.new.pass.seat.me.0 _ _ _ (found_unmet c.args.pass.now.seat.me.0 c.find_free.new.pass.seat.me.0 _ c.requires.none_met c.in_ok-taken.ensures.found) now, parts)
