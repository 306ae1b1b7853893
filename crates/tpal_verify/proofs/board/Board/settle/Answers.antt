use Rattle.std.proofs.Common.{rules, ◌∙◌, sym, map}
use Rattle.tpal_verify.proofs.Staging.{all_in_place, settled_same}
use Rattle.tpal_verify.proofs.board.Board.settle.Goals as goal

pub returns-clause-now : goal.returns-clause-now
returns-clause-now c =
    all_in_place c.loop-label.self-inside.slots.items c.loop-label.rest.now c.in_default.ensures.cases c.loop-label.invariant.noted ∙ c.loop-label.invariant.next

pub returns-clause-changed : goal.returns-clause-changed
returns-clause-changed c =
    settled_same c.self.inside.slots.items c.self.inside.changed.items c.replace-changed.result.items c.args.self.now
    (map (λ s. s.shape) c.loop-label.self-inside.slots.items) c.self.invariant (search rules) (sym c.self.view_is)
    (all_in_place c.loop-label.self-inside.slots.items c.loop-label.rest.now c.in_default.ensures.cases c.loop-label.invariant.noted ∙ c.loop-label.invariant.next)
