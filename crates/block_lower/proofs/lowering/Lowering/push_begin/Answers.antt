use Rattle.std.proofs.Common.{arith}
use Rattle.block_lower.proofs.Written.LoweredPars.{begin_written}
use Rattle.block_lower.proofs.lowering.Lowering.push_begin.Goals as goal

pub returns-clause-code : goal.returns-clause-code
returns-clause-code c =
    let stored = c.in_ok-store.ensures in
    let marked = c.in_ok-push_mark.ensures in
    let jumped = c.in_ok-jump_if.ensures in
    begin_written c.args.place c.args.site.now c.args.first c.args.self.now.out
    c.store.new.self.out c.push_mark.new.self.out c.jump_if.new.self.out
    c.trap_block.new.self.out c.close.new.self.out stored.pushed
    (rw (c.split_label.ensures, stored.on, c.requires.cells) at marked.pushed) jumped.pushed
    c.in_ok-trap_block.ensures.traps (omega (arith, stored.labels, marked.labels, jumped.labels))
    (rw (c.jump.ensures, c.next_label-wide.ensures) at c.in_ok-close.ensures.closed)
