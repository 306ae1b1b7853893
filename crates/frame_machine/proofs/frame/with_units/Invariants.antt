use Rattle.std.proofs.Common.{◌≡◌, take}
use Rattle.frame_machine.specs.Splitting.{with_units}
use Rattle.frame_machine.proofs.frame.with_units.Given as goal

abbrev pub invariant-loop-acc : goal.invariant-loop-acc
invariant-loop-acc l = l.units.items ≡ with_units (take l.acc-index l.accs)
