use Rattle.std.proofs.Common.{◌≡◌, true, sym, subst}
use Rattle.std.specs.Prelude.{Ok}
use Rattle.schedule_core.specs.Apply.{Gives, SidesFit}
use Rattle.schedule_core.specs.Effects.{can}
use Rattle.schedule_core.proofs.Asked.{can_merge}
use Rattle.schedule_core.proofs.Events.{gives_open, gives_claim, gives_arrive, gives_free}
use Rattle.schedule_core.proofs.Events.{gives_finish}
use Rattle.schedule_core.proofs.applying.happen.Goals as goal

pub returns-in-Ok : goal.returns-in-Ok
returns-in-Ok c = subst (λ e. Gives c.args.code.now c.args.config e (Ok c.in-Ok.after)) (sym c.in-Open.is) (gives_open c.args.code.now c.args.config c.in-Open.worker c.in-Ok.after (subst (λ e. can c.args.config e ≡ true) c.in-Open.is c.requires.can) c.in-Ok.ensures)

pub returns-in-Claim : goal.returns-in-Claim
returns-in-Claim c = subst (λ e. Gives c.args.code.now c.args.config e (Ok c.claim.result)) (sym c.in-Claim.is) (gives_claim c.args.code.now c.args.config c.in-Claim.worker c.in-Claim.rec c.claim.result (subst (λ e. can c.args.config e ≡ true) c.in-Claim.is c.requires.can) c.claim.ensures)

pub returns-in-Arrive : goal.returns-in-Arrive
returns-in-Arrive c = subst (λ e. Gives c.args.code.now c.args.config e (Ok c.arrive.result)) (sym c.in-Arrive.is) (gives_arrive c.args.code.now c.args.config c.in-Arrive.worker c.arrive.result (subst (λ e. can c.args.config e ≡ true) c.in-Arrive.is c.requires.can) c.arrive.ensures)

pub returns-in-Ok-free : goal.returns-in-Ok-free
returns-in-Ok-free c = subst (λ e. Gives c.args.code.now c.args.config e (Ok c.in-Ok-free.after)) (sym c.in-Free.is) (gives_free c.args.code.now c.args.config c.in-Free.worker c.in-Ok-free.after (subst (λ e. can c.args.config e ≡ true) c.in-Free.is c.requires.can) (can_merge c.args.code.now c.args.config c.in-Free.worker c.requires.belongs (subst (λ e. SidesFit c.args.code.now c.args.config e) c.in-Free.is c.requires.sides)) c.in-Ok-free.ensures)

pub returns-in-Finish : goal.returns-in-Finish
returns-in-Finish c = subst (λ e. Gives c.args.code.now c.args.config e (Ok c.finish.result)) (sym c.in-Finish.is) (gives_finish c.args.code.now c.args.config c.in-Finish.worker c.finish.result (subst (λ e. can c.args.config e ≡ true) c.in-Finish.is c.requires.can) c.finish.ensures)
