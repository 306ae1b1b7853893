use Rattle.std.proofs.Common.{◌+◌, length, ap, ◌∙◌, arith}
use Rattle.block_lower.proofs.Written.LoweredPairs.{first_written}
use Rattle.block_lower.proofs.Written.Placed.{call_mark_low, dispatched, jump_known}
use Rattle.block_lower.proofs.Written.Placed.{known_still}
use Rattle.block_lower.proofs.lowering.Lowering.push_first.Goals as goal

pub returns-clause-code : goal.returns-clause-code
returns-clause-code c =
    let go = c.next_label-go in
    let tick = c.in_ok-push_tick.ensures in
    let given = c.in_ok-push_given.ensures in
    let mark = c.in_ok-push_mark.ensures in
    let test = c.in_ok-push_deep_test.ensures in
    let on_given = given.on ∙ tick.on in
    let on = test.on ∙ mark.on ∙ on_given in
    first_written c.args.self.now.on c.args.place c.args.target c.args.site.now go.result
    c.args.self.now.out c.push_tick.new.self.out c.push_given.new.self.out
    c.push_mark.new.self.out c.push_deep_test.new.self.out c.make_ready.new.self.out
    c.push_move.new.self.out c.close.new.self.out tick.pushed (rw tick.on at given.pushed)
    (rw (on_given, c.requires.cells) at mark.pushed) test.code go.ensures
    (omega (
      arith,
      go.ensures,
      tick.labels,
      given.labels,
      mark.labels,
      test.labels,
      ap length test.fresh.traps,
    ))
    (rw on at c.make_ready.ensures.ready)
    (rw (c.make_ready.ensures.on ∙ on) at c.in_ok-push_move.ensures.pushed)
    (rw c.jump.ensures at c.in_ok-close.ensures.closed)

pub returns-clause-fit : goal.returns-clause-fit
returns-clause-fit c = λ known placed right at behind below before.
    let on = c.args.self.now.on in
    let site = c.args.site.now in
    let go = c.next_label-go in
    let tick = c.in_ok-push_tick.ensures in
    let given = c.in_ok-push_given.ensures in
    let mark = c.in_ok-push_mark.ensures in
    let test = c.in_ok-push_deep_test.ensures in
    let ready = c.make_ready.ensures in
    let move = c.in_ok-push_move.ensures in
    let on_given = given.on ∙ tick.on in
    let on_mark = mark.on ∙ on_given in
    let on_move = move.on ∙ ready.on ∙ test.on ∙ on_mark in
    (rw c.jump.ensures at c.in_ok-close.ensures.fit)
    (jump_known on c.push_move.new.self.on c.args.target.label on_move known)
    (move.fit
    (ready.fit (λ code around. dispatched c.push_deep_test.new.self.on _ code around)
    (test.fit
    (known_still on c.push_mark.new.self.on go.result on_mark
    (omega (
      arith,
      go.ensures,
      tick.labels,
      given.labels,
      mark.labels,
      test.labels,
      ready.labels,
      move.labels,
      c.in_ok-close.ensures.labels,
      below,
    )))
    placed
    (mark.fit (call_mark_low site right)
    (known_still on c.push_given.new.self.on site.label on_given (omega (arith, at.joined)))
    (given.fit (omega arith)
    (known_still on c.push_tick.new.self.on (site.entry + 1) tick.on behind)
    (tick.fit before))))))
