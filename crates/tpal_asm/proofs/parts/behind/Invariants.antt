use Rattle.std.proofs.Common.{◌≡◌, length}
use Rattle.tpal_syntax.specs.Readers.{after}
use Rattle.tpal_asm.proofs.parts.behind.Given as goal

-- what is left decides
abbrev pub invariant-loop-letter : goal.invariant-loop-letter
invariant-loop-letter l = after l.letters l.rest ≡ after l.fn.word l.fn.text

abbrev pub decreases-loop-letter : goal.decreases-loop-letter
decreases-loop-letter l = length l.letters
