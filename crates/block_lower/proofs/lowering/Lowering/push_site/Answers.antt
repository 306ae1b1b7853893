use Rattle.std.proofs.Common.{◌+◌, length, ap, ◌∙◌, arith}
use Rattle.block_lower.proofs.Written.LoweredPars.{site_written}
use Rattle.block_lower.proofs.Written.Placed.{jump_known, known_still, loop_cells_low}
use Rattle.block_lower.proofs.lowering.Lowering.push_site.Goals as goal

pub returns-clause-code : goal.returns-clause-code
returns-clause-code c =
    let self = c.args.self.now in
    let handled = c.in_ok-push_handler.ensures in
    let child = c.in_ok-close.ensures in
    let over = c.in_ok-push_over.ensures in
    let none = c.in_ok-close-2.ensures in
    let scope = none.scope ∙ over.scope ∙ child.scope ∙ handled.scope in
    site_written self.scope c.args.l.now c.args.site.now c.args.first c.args.exit self.out
    c.push_handler.new.self.out c.close.new.self.out c.push_over.new.self.out
    c.close-2.new.self.out c.push_prep.new.self.out c.requires.here handled.code
    (omega (
      arith,
      c.requires.here,
      handled.labels,
      ap length c.requires.fresh.traps,
      ap length
          handled.code.fresh.traps,
    ))
    (rw c.jump.ensures at child.closed)
    (omega (
      arith,
      c.requires.here,
      handled.labels,
      child.labels,
      ap length c.requires.fresh.traps,
      ap length child.closed.fresh.traps,
    ))
    over.code
    (omega (
      arith,
      c.requires.here,
      handled.labels,
      child.labels,
      over.labels,
      ap length
          c.requires.fresh.traps,
      ap length over.fresh.traps,
    ))
    over.fresh (rw (c.jump-2.ensures, c.over_label.ensures) at none.closed)
    (omega (
      arith,
      c.requires.here,
      handled.labels,
      child.labels,
      over.labels,
      none.labels,
      ap
          length c.requires.fresh.traps,
      ap length none.closed.fresh.traps,
    ))
    (rw scope at c.in_ok-push_prep.ensures.code)

pub returns-clause-fit : goal.returns-clause-fit
returns-clause-fit c = λ placed start end before.
    let on = c.args.self.now.on in
    let site = c.args.site.now in
    let cells = loop_cells_low site c.requires.site in
    let handled = c.in_ok-push_handler.ensures in
    let child = c.in_ok-close.ensures in
    let over = c.in_ok-push_over.ensures in
    let none = c.in_ok-close-2.ensures in
    let on_child = child.on ∙ handled.on in
    let on_over = over.on ∙ on_child in
    let on_none = none.on ∙ on_over in
    c.in_ok-push_prep.ensures.fit
    (known_still on c.close-2.new.self.on site.label on_none (omega (arith, placed.none)))
    ((rw (c.jump-2.ensures, c.over_label.ensures) at none.fit)
    (jump_known on c.push_over.new.self.on (site.label + 7) on_over (omega (arith, placed.none)))
    (over.fit cells
    (known_still on c.close.new.self.on (site.label + 5) on_child (omega (arith, placed.none)))
    (known_still on c.close.new.self.on c.args.exit on_child end)
    ((rw c.jump.ensures at child.fit)
    (jump_known on c.push_handler.new.self.on c.args.first handled.on start)
    (handled.fit c.requires.here placed before))))
