use Rattle.std.proofs.Common.{◌≡◌, drop}
use Rattle.tpal_machine.specs.Cut.{carried}
use Rattle.tpal_machine.proofs.Parting.{prefixed}
use Rattle.tpal_machine.proofs.cut.carried.Given as goal

-- the cuts so far and those of the items left
abbrev pub invariant-loop-item : goal.invariant-loop-item
invariant-loop-item l = carried l.registers l.carries ≡ prefixed l.cuts.items (carried l.registers (drop l.item-index l.carries))
