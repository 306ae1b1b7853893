use Rattle.std.proofs.Common.{◌+◌, length, ap, ◌∙◌, arith}
use Rattle.block_lower.proofs.Written.LoweredLeaves.{leaf_site_written}
use Rattle.handler_gen.specs.LeafSites.{stored_loop}
use Rattle.block_lower.proofs.Written.Placed.{jump_known, known_still, loop_cells_low}
use Rattle.block_lower.proofs.lowering.Lowering.push_leaf_site.Goals as goal

pub returns-clause-code : goal.returns-clause-code
returns-clause-code c =
    let self = c.args.self.now in
    let stored = c.in_ok-stored.ensures in
    let handled = c.in_ok-push_leaf_handler.ensures in
    let start = c.in_ok-push_leaf_start.ensures in
    let over = c.in_ok-push_over.ensures in
    let none = c.in_ok-close.ensures in
    let scope = none.scope ∙ over.scope ∙ start.scope ∙ handled.scope in
    let fresh = ap length c.requires.fresh.traps in
    leaf_site_written self.scope c.args.l.now c.args.site.now c.args.first c.args.exit self.out
    c.push_leaf_handler.new.self.out c.push_leaf_start.new.self.out c.push_over.new.self.out
    c.close.new.self.out c.push_prep.new.self.out c.requires.here handled.code
    (omega (
      arith,
      c.requires.here,
      handled.labels,
      fresh,
      ap length handled.code.fresh.traps,
    ))
    start.code
    (omega (
      arith,
      c.requires.here,
      handled.labels,
      start.labels,
      fresh,
      ap length start.code.fresh.traps,
    ))
    (rw stored at over.code)
    (omega (
      arith,
      c.requires.here,
      handled.labels,
      start.labels,
      over.labels,
      fresh,
      ap length over.fresh.traps,
    ))
    over.fresh (rw (c.jump.ensures, c.over_label.ensures, stored) at none.closed)
    (omega (
      arith,
      c.requires.here,
      handled.labels,
      start.labels,
      over.labels,
      none.labels,
      fresh,
      ap length none.closed.fresh.traps,
    ))
    (rw (scope, stored) at c.in_ok-push_prep.ensures.code)

pub returns-clause-fit : goal.returns-clause-fit
returns-clause-fit c = λ placed begin end before.
    let on = c.args.self.now.on in
    let site = c.args.site.now in
    let stored = c.in_ok-stored.ensures in
    let handled = c.in_ok-push_leaf_handler.ensures in
    let start = c.in_ok-push_leaf_start.ensures in
    let over = c.in_ok-push_over.ensures in
    let none = c.in_ok-close.ensures in
    let on_start = start.on ∙ handled.on in
    let on_over = over.on ∙ on_start in
    let on_none = none.on ∙ on_over in
    (rw stored at c.in_ok-push_prep.ensures.fit)
    (known_still on c.close.new.self.on (site.label + 2) on_none
    (omega (arith, placed.loop.none)))
    ((rw (c.jump.ensures, c.over_label.ensures, stored) at none.fit)
    (jump_known on c.push_over.new.self.on (site.label + 2 + 7) on_over
    (omega (arith, placed.loop.none)))
    ((rw stored at over.fit) (loop_cells_low (stored_loop site) c.requires.site.loop)
    (known_still on c.push_leaf_start.new.self.on (site.label + 2 + 5) on_start
    (omega (arith, placed.loop.none)))
    (known_still on c.push_leaf_start.new.self.on c.args.exit on_start end)
    (start.fit
    (omega (
      arith,
      c.requires.here,
      handled.labels,
      ap length c.requires.fresh.traps,
      ap length handled.code.fresh.traps,
    ))
    (known_still on c.push_leaf_handler.new.self.on c.args.first handled.on begin)
    (handled.fit c.requires.here placed before))))
