use Rattle.std.proofs.Common.{◌≡◌, length, ◌∙◌, arith}
use Rattle.block_lower.proofs.Written.LoweredCalls.{IsTarget}
use Rattle.block_lower.proofs.Written.LoweredPairs.{both_written}
use Rattle.block_lower.proofs.lowering.Lowering.lower_both.Goals as goal

pub returns-clause-code : goal.returns-clause-code
returns-clause-code c = λ round.
    let self = c.args.self.now in
    let first = c.target_of-first in
    let second = c.target_of-second in
    let first_is : IsTarget self.on round self.scope c.args.f.now.callee.text.items
    first.result.label first.result.size =
    record {
      at_is = rw c.deref.ensures.value at first.ensures.label;
      size_is = rw c.deref.ensures.value at first.ensures.size;
    } in
    let second_is : IsTarget self.on round self.scope c.args.g.now.callee.text.items
    second.result.label second.result.size =
    record {
      at_is = rw c.deref-2.ensures.value at second.ensures.label;
      size_is = rw c.deref-2.ensures.value at second.ensures.size;
    } in
    let many : c.len.result ≡ length c.args.g.now.args.items =
    omega (arith, c.len.ensures, c.args.g.now.args.ok) in
    let alloc = c.in_ok-push.ensures in
    let stored = c.in_ok-both_arguments.ensures in
    let pair = c.in_ok-push_pair.ensures in
    let on = stored.on ∙ alloc.on in
    both_written self.on round self.scope c.args.x.now c.args.y.now c.args.f.now c.args.g.now
    first.result second.result self.out c.push.new.self.out c.both_arguments.new.self.out
    c.push_pair.new.self.out c.store.new.self.out c.requires.bare first_is second_is c.requires.room
    c.requires.low.1.0 alloc.pushed (rw (alloc.on, alloc.scope) at stored.code)
    (rw (many, on, c.offset.ensures) at pair.code)
    (rw c.offset-cell.ensures at c.in_ok-store.ensures.pushed)
