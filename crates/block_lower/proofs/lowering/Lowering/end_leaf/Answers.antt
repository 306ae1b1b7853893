use Rattle.block_lower.proofs.Written.LoweredLeaves.{leaf_ended}
use Rattle.std.proofs.Common.{◌+◌, refl, ◌∙◌, arith}
use Rattle.handler_gen.specs.LeafSites.{head_label}
use Rattle.block_lower.proofs.Written.Placed.{jump_known, known_still}
use Rattle.block_lower.proofs.lowering.Lowering.end_leaf.Goals as goal

pub returns-clause-code : goal.returns-clause-code
returns-clause-code c =
    leaf_ended c.args.site.now c.args.self.now.out c.calc.new.self.out c.calc-2.new.self.out
    c.jump_if.new.self.out c.push_stores.new.self.out c.close.new.self.out
    c.in_ok-calc.ensures.pushed c.in_ok-calc-2.ensures.pushed
    (rw c.head_label.ensures at c.in_ok-jump_if.ensures.pushed)
    c.in_ok-push_stores.ensures.pushed
    (rw (c.jump.ensures, c.over_label.ensures) at c.in_ok-close.ensures.closed)

pub returns-clause-fit : goal.returns-clause-fit
returns-clause-fit c = λ placed before.
    let on = c.args.self.now.on in
    let site = c.args.site.now in
    let one = c.in_ok-calc.ensures in
    let two = c.in_ok-calc-2.ensures in
    let jumped = c.in_ok-jump_if.ensures in
    let stored = c.in_ok-push_stores.ensures in
    let on_two = two.on ∙ one.on in
    let on_stored = stored.on ∙ jumped.on ∙ on_two in
    (rw (c.jump.ensures, c.over_label.ensures) at c.in_ok-close.ensures.fit)
    (jump_known on c.push_stores.new.self.on (site.label + 2 + 7) on_stored
    (omega (arith, placed.loop.none)))
    (stored.fit
    ((rw c.head_label.ensures at jumped.fit) (omega arith)
    (known_still on c.calc-2.new.self.on (head_label site) on_two placed.head)
    (two.fit (omega arith) (omega arith) refl
    (one.fit (omega arith) (omega arith) refl before))))
