use Rattle.std.proofs.Common.{◌∙◌, sym, ◌-◌, ◌^◌}
use Rattle.tpal_machine.proofs.Sizes.{count_end}
use Rattle.tpal_machine.proofs.making.cell_count.Goals as goal

pub returns : goal.returns
returns c = sym (c.loop-held.invariant.counted ∙ count_end c.loop-held.count c.loop-held.held-index (2 ^ 64 - 1) c.args.tables.now c.loop-held-test.false c.loop-held.invariant.small)
