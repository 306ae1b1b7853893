use Rattle.std.proofs.Common.{Some, ◌∙◌, ℕ, ◌+◌, ◌*◌, ◌/◌, ◌%◌, ◌∷◌, refl, sym, ap, subst}
use Rattle.tpal_machine.specs.declared.ends.End.TheVariants.{At}
use Rattle.tpal_machine.specs.declared.ends.SideName.TheVariants.{Left, Right}
use Rattle.join_records.specs.declared.slot.Item.TheVariants.{Rest, Side}
use Rattle.join_records.specs.declared.views.CallState.TheVariants.{Arriving}
use Rattle.join_records.specs.Views.{NoneMet, holds_end}
use Rattle.join_records.proofs.Calls.{end_within, met_after, not_zero, slots_are}
use Rattle.join_records.proofs.table.Records.arrive_left.Goals as goal

pub hit_left-found-requires-clause-end : goal.hit_left-found-requires-clause-end
hit_left-found-requires-clause-end g c κs within = let end = c.requires.end.1 in let now = c.put_left.ensures.seen.1 end.0 end.1 in
    (subst (λ v. NoneMet v) (sym now) c.requires.end.0, (end.0, c.args.out, ap (λ v. v.ends) now, c.put_left.ensures.slot, end.2))

pub returns-clause-arrived : goal.returns-clause-arrived
returns-clause-arrived g c = λ e is. let k : ℕ = c.args.rec in let seen = c.put_left.ensures.seen in let now = seen.1 e is in let y : ℕ = c.hit_left-found.result in
    let had = not_zero (y / 16 % 2) _ c.lacks_right.ensures c.if-lacks_right.false in let second = (c.hit_left-found.ensures.hit e (ap (λ v. v.ends) now)).1 had in
    let same = slots_are (sym c.collect-rest.ensures.values ∙ (second.12 ∙ ap (λ l. (4 * k, Some (Rest second.0)) ∷ (4 * k + 3, Some (Side second.1)) ∷ l) c.put_left.ensures.slot)) in
    let last = c.collect-rest.ensures.seen in (
      seen.0,
      y,
      last.0,
      second.2,
      second.3,
      second.4,
      had,
      subst (λ r. g.L.Load.keeps r second.4) (sym same.0) second.6,
      subst (λ r. g.L.Load.rest_owes r e second.2 second.3) (sym same.0) second.7,
      subst (λ d. g.L.Load.is_ending d (At k Right) second.2) (sym same.1) second.8,
      same.2,
      refl,
      end_within c.args.self.now.count second.4 second.9,
      λ root. ap (λ v. v.root) (sym now) ∙ second.10 root,
      met_after k seen.0 y last.0 (holds_end (At k Left) e Arriving) second.4 second.3 c.args.pass.now.seat.me.0 c.put_left.new.pass.seat.me.0 c.hit_left-found.new.pass.seat.me.0 c.collect-rest.new.pass.seat.me.0 now second.11 (last.1 second.4 c.put_left.new.pass.seat.me.0.hand (ap (λ v. v.hand) second.11)),
    )
