use Rattle.std.proofs.Common.{ℕ, ◌≡◌, ◌∙◌, sym, ap, subst}
use Rattle.tpal_machine.specs.declared.ends.End.TheVariants.{At}
use Rattle.tpal_machine.specs.declared.ends.SideName.TheVariants.{Right}
use Rattle.join_records.specs.declared.views.CallState.TheVariants.{Steady}
use Rattle.join_records.specs.Views.{NoneMet, holds_end}
use Rattle.join_records.specs.Seated.{HoldsJust}
use Rattle.join_records.proofs.Callers.{unclaimable_reads, claims_reads}
use Rattle.join_records.proofs.stress.Worker.claim.Goals as goal

pub returns-in_default-claim : goal.returns-in_default-claim
returns-in_default-claim c = let sits = c.requires.sits.0 in let r = sits.0 in let s = c.claim.ensures.pass in
    let now = (unclaimable_reads c.args.self.now.pass.seat.me.0 c.claim.new.pass.seat.me.0 c.args.rec c.in_default-claim.ensures.none).1 in
    let nothing = subst (λ e. HoldsJust e c.args.self.now.pass) c.in-None.is sits.1 in
    record { sits = (((s.0 ∙ r.0, s.2 ∙ r.1, λ z. r.2 (sym (ap (λ v. v.parts) now) ∙ z)), subst (λ e. HoldsJust e c.claim.new.pass) (sym c.in-None.is) (ap (λ v. v.ends) now ∙ nothing), subst (λ v. NoneMet v) (sym now) sits.2), ap (λ v. v.parts) now) }

pub returns : goal.returns
returns c = let sits = c.requires.sits.0 in let r = sits.0 in let s = c.claim.ensures.pass in
    let told = claims_reads (λ (child ending : ℕ). ending ≡ 0) c.args.self.now.pass.seat.me.0 c.claim.new.pass.seat.me.0 c.args.rec c.in-Some.counted c.in-Some.ensures.claimed in let now = told.2.1 in
    record { sits = (((s.0 ∙ r.0, s.2 ∙ r.1, λ z. r.2 (sym (ap (λ v. v.parts) now) ∙ z)), ap (λ v. v.ends) now ∙ ap (λ (e : ℕ). holds_end (At c.args.rec Right) e Steady) told.1, subst (λ v. NoneMet v) (sym now) sits.2), ap (λ v. v.parts) now) }
