use Rattle.std.proofs.Common.{rules, ◌≡◌, ◌≤◌, ◌∙◌, ◌-◌, sym, subst, suc, arith, true}
use Rattle.tpal_verify.specs.Rounding.{Round, Stands, IsOver, retraced}
use Rattle.tpal_verify.proofs.Rounded.{is_least}
use Rattle.tpal_verify.proofs.rounds.least_traces.Goals as goal

pub returns : goal.returns
returns c =
    let whole = c.args.ground.now in
    let left = c.loop-round.left in
    let inside = c.round.inside in
    let kept : Round = record {
      shapes = inside.board.now;
      staged = inside.board.next;
      due = inside.due.items;
      traces = inside.traces.items;
      join = inside.join;
    } in
    let stands : Stands whole left kept = subst (λ r. Stands whole left r) (sym c.round.view_is) c.loop-round.invariant in
    let ends : c.is_over.result ≡ true = search rules in
    let due : c.deref.result.now ≡ inside.due.items = search rules in
    let over : IsOver left inside.due.items = subst (λ ls. IsOver left ls) due (c.is_over.ensures.over ends) in
    let again : c.walk_due.new.traces.items ≡ retraced whole inside.board.now inside.due.items inside.traces.items = search rules in
    again ∙ is_least whole left inside.board.now inside.due.items inside.traces.items inside.join stands.round over

pub loop-round-preserved : goal.loop-round-preserved
loop-round-preserved c =
    let left = c.loop-round.left in
    let more : 1 ≤ left = search rules in
    let one_less : left ≡ suc (left - 1) = omega (arith, more) in
    c.in_ok-round-2.ensures (left - 1) (subst (λ k. Stands c.args.ground.now k c.loop-round.round) one_less c.loop-round.invariant)
