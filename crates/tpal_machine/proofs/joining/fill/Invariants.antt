use Rattle.std.proofs.Common.{◌≡◌, drop}
use Rattle.tpal_machine.specs.Merge.{filled}
use Rattle.tpal_machine.proofs.joining.fill.Given as goal

abbrev pub invariant-loop-word : goal.invariant-loop-word
invariant-loop-word l = filled l.fn.registers l.words ≡ filled l.registers (drop l.word-index l.words)
