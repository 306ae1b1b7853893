use Rattle.std.proofs.Common.{◌+◌, length, refl, ap, ◌∙◌, arith}
use Rattle.block_lower.proofs.Written.LoweredDeep.{deep_site_written}
use Rattle.block_lower.proofs.Written.Writing.{fresh_empty}
use Rattle.block_lower.proofs.Written.Placed.{dispatched, known_still, loop_cells_low}
use Rattle.block_lower.proofs.lowering.Lowering.push_deep_site.Goals as goal

pub make_ready-requires : goal.make_ready-requires
make_ready-requires c = record {
  empty = fresh_empty c.push_prep.new.self.out c.in_ok-push_prep.ensures.fresh;
}

pub returns-clause-code : goal.returns-clause-code
returns-clause-code c =
    let self = c.args.self.now in
    let handled = c.in_ok-push_handler.ensures in
    let first = c.in_ok-push_next.ensures in
    let over = c.in_ok-push_end.ensures in
    let none = c.in_ok-close.ensures in
    let prepped = c.in_ok-push_prep.ensures in
    let ready = c.make_ready.ensures in
    let again = c.in_ok-push_next-2.ensures in
    let last = c.in_ok-push_last.ensures in
    let scope = none.scope ∙ over.scope ∙ first.scope ∙ handled.scope in
    let scope_there = ready.scope ∙ prepped.scope ∙ scope in
    let on = prepped.on ∙ none.on ∙ over.on ∙ first.on ∙ handled.on in
    let fresh = ap length c.requires.fresh.traps in
    deep_site_written self.on self.scope c.args.l.now c.args.site.now c.args.head c.args.exit
    self.out c.push_handler.new.self.out c.push_next.new.self.out c.push_end.new.self.out
    c.close.new.self.out c.push_prep.new.self.out c.make_ready.new.self.out
    c.push_next-2.new.self.out c.push_last.new.self.out c.requires.here handled.code
    (omega (
      arith,
      c.requires.here,
      handled.labels,
      fresh,
      ap length handled.code.fresh.traps,
    ))
    (rw handled.scope at first.code)
    (omega (
      arith,
      c.requires.here,
      handled.labels,
      first.labels,
      fresh,
      ap length first.fresh.traps,
    ))
    first.fresh over.code
    (omega (
      arith,
      c.requires.here,
      handled.labels,
      first.labels,
      over.labels,
      fresh,
      ap length over.fresh.traps,
    ))
    over.fresh none.closed
    (omega (
      arith,
      c.requires.here,
      handled.labels,
      first.labels,
      over.labels,
      none.labels,
      fresh,
      ap length none.closed.fresh.traps,
    ))
    (rw scope at prepped.code) (rw on at ready.ready)
    (omega (
      arith,
      c.requires.here,
      c.requires.head,
      handled.labels,
      first.labels,
      over.labels,
      none.labels,
      prepped.labels,
      ready.labels,
      fresh,
      ap length ready.ready.traps,
    ))
    (rw scope_there at again.code)
    (omega (
      arith,
      c.requires.here,
      c.requires.head,
      handled.labels,
      first.labels,
      over.labels,
      none.labels,
      prepped.labels,
      ready.labels,
      again.labels,
      fresh,
      ap length again.fresh.traps,
    ))
    again.fresh last.code

pub returns-clause-fit : goal.returns-clause-fit
returns-clause-fit c = λ placed turn end before.
    let on = c.args.self.now.on in
    let site = c.args.site.now in
    let cells = loop_cells_low site c.requires.site in
    let handled = c.in_ok-push_handler.ensures in
    let first = c.in_ok-push_next.ensures in
    let over = c.in_ok-push_end.ensures in
    let none = c.in_ok-close.ensures in
    let prepped = c.in_ok-push_prep.ensures in
    let ready = c.make_ready.ensures in
    let again = c.in_ok-push_next-2.ensures in
    let on_first = first.on ∙ handled.on in
    let on_over = over.on ∙ on_first in
    let on_none = none.on ∙ on_over in
    let on_prep = prepped.on ∙ on_none in
    let on_ready = ready.on ∙ on_prep in
    let on_again = again.on ∙ on_ready in
    c.in_ok-push_last.ensures.fit cells
    (known_still on c.push_next-2.new.self.on (site.label + 7) on_again
    (omega (arith, placed.none)))
    (known_still on c.push_next-2.new.self.on (c.args.head + 2) on_again turn)
    (again.fit cells (known_still on c.make_ready.new.self.on (c.args.head + 2) on_ready turn)
    (ready.fit (λ code around. dispatched c.push_prep.new.self.on _ code around)
    (prepped.fit
    (known_still on c.close.new.self.on site.label on_none (omega (arith, placed.none)))
    (none.fit refl
    (over.fit cells
    (known_still on c.push_next.new.self.on (site.label + 5) on_first
    (omega (arith, placed.none)))
    (known_still on c.push_next.new.self.on c.args.exit on_first end)
    (first.fit cells
    (known_still on c.push_handler.new.self.on (c.args.head + 2) handled.on turn)
    (handled.fit c.requires.here placed before)))))))
