use Rattle.std.proofs.Common.{ℕ, ◌≡◌, ◌∙◌, sym, ap, subst}
use Rattle.join_records.specs.Views.{NoneMet}
use Rattle.join_records.proofs.Callers.{unclaimable_reads, claims_reads}
use Rattle.join_records.proofs.tests.right_half.Goals as goal

pub returns-in_err-child-clause-pass : goal.returns-in_err-child-clause-pass
returns-in_err-child-clause-pass c = let r = c.requires.table.0 in let s = c.in_err-child.ensures.pass in let now = (unclaimable_reads c.args.pass.now.seat.me.0 c.claim.new.pass.seat.me.0 0 c.in_err-child.ensures.none).1 in
    ((s.0 ∙ r.0, s.2 ∙ r.1, λ z. r.2 (sym (ap (λ v. v.parts) now) ∙ z)), subst (λ v. NoneMet v) (sym now) c.requires.none_met, ap (λ v. v.parts) now, ap (λ v. v.opens) now)

pub settle-requires-clause-none_met : goal.settle-requires-clause-none_met
settle-requires-clause-none_met c = let now = (claims_reads (λ (child ending : ℕ). ending ≡ child) c.args.pass.now.seat.me.0 c.claim.new.pass.seat.me.0 0 c.in_ok-child.child c.in_ok-child.ensures.claimed).2.1 in subst (λ v. NoneMet v) (sym now) c.requires.none_met
