use Rattle.std.proofs.Common.{◌++◌, sym, ap, ◌∙◌}
use Rattle.std.proofs.lemmas.List.{append-nil}
use Rattle.loop_meaning.proofs.Calls.{bound_end}
use Rattle.loop_meaning.proofs.argument.bound.Goals as goal

pub returns-then-i-arguments : goal.returns-then-i-arguments
returns-then-i-arguments c =
    let e = bound_end c.args.params.now c.args.arguments.now c.loop-i.i c.if-i-arguments.true in
    sym (append-nil c.loop-i.vars.items) ∙ sym (ap (λ r. c.loop-i.vars.items ++ r) e) ∙ c.loop-i.invariant
