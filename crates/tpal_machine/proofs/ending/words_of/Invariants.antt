use Rattle.std.proofs.Common.{◌≡◌, take}
use Rattle.tpal_machine.specs.Ended.{words_of}
use Rattle.tpal_machine.proofs.ending.words_of.Given as goal

abbrev pub invariant-loop-pair : goal.invariant-loop-pair
invariant-loop-pair l = l.words.items ≡ words_of l.registers (take l.pair-index l.renames)
