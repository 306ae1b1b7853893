use Rattle.std.proofs.Common.{◌≡◌, ◌<◌, ℕ, true, get_or}
use Rattle.tpal_syntax.specs.Parts.{is_word_byte}
use Rattle.tpal_asm.proofs.parts.word_length.Given as goal

abbrev pub invariant-loop-at : goal.invariant-loop-at
invariant-loop-at l = (k : ℕ) → k < l.at → is_word_byte (get_or l.text k 0) ≡ true
