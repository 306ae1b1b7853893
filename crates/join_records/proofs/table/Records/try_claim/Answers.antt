use Rattle.std.proofs.Common.{◌∙◌, ℕ, ◌+◌, ◌*◌, ◌∷◌, Some, None, refl, sym, ap, subst, rules}
use Rattle.atomic_table.specs.Table.{rest}
use Rattle.join_records.specs.declared.slot.Item.TheVariants.{Child}
use Rattle.join_records.specs.Views.{with_ends, read, holds_end}
use Rattle.join_records.specs.Answers.{claimed_view}
use Rattle.tpal_machine.specs.declared.ends.End.TheVariants.{At}
use Rattle.tpal_machine.specs.declared.ends.SideName.TheVariants.{Right}
use Rattle.join_records.specs.declared.views.CallState.TheVariants.{Steady}
use Rattle.join_records.proofs.Calls.{front, front_is, child_is}
use Rattle.join_records.proofs.Claiming.{claims, gives_child}
use Rattle.join_records.proofs.table.Records.try_claim.Goals as goal

pub compare_exchange-now-requires : goal.compare_exchange-now-requires
compare_exchange-now-requires g c = (search rules, search rules, claims _ _ _ _ _ _ _ (search rules) (search rules) c.requires.word c.requires.endless)

pub exchange-item-requires : goal.exchange-item-requires
exchange-item-requires g c = let hit = c.compare_exchange-now.ensures.2.1 c.args.k refl c.if-now-found.false in (search rules, (Some (Child hit.0), front _ _ _ hit.5))

pub load-requires : goal.load-requires
load-requires g c = let k : ℕ = c.args.k in let hit = c.compare_exchange-now.ensures.2.1 k refl c.if-now-found.false in let x = c.exchange-item.ensures in
    let seen = ap (λ m. m.0) x.3 ∙ hit.4 in (
      x.0 ∙ (c.compare_exchange-now.ensures.0 ∙ c.requires.table.0),
      search rules,
      gives_child _ _ _ _ _ k hit.1 c.args.pass.now.seat.me.1 (λ z. c.requires.table.2 (sym (ap (λ v. v.parts) seen) ∙ z)) (search rules) (ap (λ v. v.ends) seen)
          (ap (λ m. m.1) x.3 ∙ ap (λ l. (4 * k + 1, None) ∷ rest l) hit.5),
    )

pub invariant_of-pass-2 : goal.invariant_of-pass-2
invariant_of-pass-2 g c = let was = c.args.pass.now.counted in let k : ℕ = c.args.k in let hit = c.compare_exchange-now.ensures.2.1 k refl c.if-now-found.false in
    let seen = ap (λ m. m.0) c.exchange-item.ensures.3 ∙ hit.4 in let last = c.load.ensures.2.1 k _ refl (ap (λ v. v.ends) seen) in
    record { counted = (was.0 ∙ sym (ap (λ v. v.opens) last ∙ ap (λ v. v.opens) seen), was.1, was.2 ∙ sym (ap (λ v. v.made) last ∙ ap (λ v. v.made) seen)) }

pub child_in-requires : goal.child_in-requires
child_in-requires g c = let hit = c.compare_exchange-now.ensures.2.1 c.args.k refl c.if-now-found.false in (hit.0, front_is _ _ _ _ _ _ _ c.exchange-item.ensures.2 hit.5)

pub returns-clause-pass : goal.returns-clause-pass
returns-clause-pass g c = let k : ℕ = c.args.k in let hit = c.compare_exchange-now.ensures.2.1 k refl c.if-now-found.false in let x = c.exchange-item.ensures in let l = c.load.ensures in (
  l.0 ∙ (x.0 ∙ c.compare_exchange-now.ensures.0),
  l.1 ∙ (x.1 ∙ c.compare_exchange-now.ensures.1),
  l.2.0 ∙ (ap (λ m. rest m.1) x.3 ∙ ap rest hit.5),
)

pub returns-clause-claimed : goal.returns-clause-claimed
returns-clause-claimed g c = let k : ℕ = c.args.k in let hit = c.compare_exchange-now.ensures.2.1 k refl c.if-now-found.false in let x = c.exchange-item.ensures in let v = c.args.pass.now.seat.me.0 in let y : ℕ = c.load.result in
    let seen = ap (λ m. m.0) x.3 ∙ hit.4 in let last = c.load.ensures.2.1 k _ refl (ap (λ v. v.ends) seen) in let same = child_is _ _ _ (front_is _ _ _ _ _ _ _ x.2 hit.5) c.child_in.ensures in (
      hit.1,
      y,
      subst (λ z. g.L.Load.owes z hit.1) same hit.3,
      last ∙ (ap (λ u. with_ends (read u (k + 1) y) (holds_end (At k Right) hit.1 Steady)) seen ∙ ap (λ f. claimed_view v k f y hit.1) c.if-now-found.false),
    )

pub returns-clause-end : goal.returns-clause-end
returns-clause-end g c = let k : ℕ = c.args.k in let hit = c.compare_exchange-now.ensures.2.1 k refl c.if-now-found.false in let x = c.exchange-item.ensures in
    subst (λ z. g.L.Load.has_end z (At k Right)) (child_is _ _ _ (front_is _ _ _ _ _ _ _ x.2 hit.5) c.child_in.ensures) hit.2
