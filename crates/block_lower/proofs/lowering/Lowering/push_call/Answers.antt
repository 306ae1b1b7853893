use Rattle.std.proofs.Common.{length, ap, ◌∙◌, arith}
use Rattle.block_lower.proofs.Written.LoweredCalls.{call_written}
use Rattle.block_lower.proofs.lowering.Lowering.push_call.Goals as goal

pub returns-clause-code : goal.returns-clause-code
returns-clause-code c =
    let go = c.next_label-go in
    let tick = c.in_ok-push_tick.ensures in
    let test = c.in_ok-push_deep_test.ensures in
    let entry = c.in_ok-push_entry.ensures in
    let on = test.on ∙ tick.on in
    call_written c.args.self.now.on c.args.place c.args.target.label c.args.target.size go.result
    c.args.self.now.out c.push_tick.new.self.out c.push_deep_test.new.self.out
    c.push_entry.new.self.out c.push_exit.new.self.out tick.pushed test.code
    (omega (arith, go.ensures, tick.labels, test.labels, ap length test.fresh.traps)) test.fresh
    (rw on at entry.code)
    (omega (
      arith,
      go.ensures,
      tick.labels,
      test.labels,
      entry.labels,
      ap length entry.fresh.traps,
    ))
    entry.fresh (rw (entry.on ∙ on) at c.in_ok-push_exit.ensures.pushed)
