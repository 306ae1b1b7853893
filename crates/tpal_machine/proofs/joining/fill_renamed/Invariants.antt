use Rattle.std.proofs.Common.{◌≡◌, drop}
use Rattle.tpal_machine.specs.Merge.{filled, renamed}
use Rattle.tpal_machine.proofs.joining.fill_renamed.Given as goal

abbrev pub invariant-loop-at : goal.invariant-loop-at
invariant-loop-at l = filled l.fn.registers (renamed l.renames l.words) ≡ filled l.registers (renamed (drop l.at l.renames) (drop l.at l.words))
