use Rattle.std.proofs.Common.{length, sym, ◌∙◌, arith}
use Rattle.tpal_asm.proofs.Words.{word_bytes-at}
use Rattle.tpal_asm.proofs.parts.word_length.Goals as goal

pub returns-then-not-is_word_byte-clause-bytes : goal.returns-then-not-is_word_byte-clause-bytes
returns-then-not-is_word_byte-clause-bytes c = word_bytes-at c.args.text.now c.loop-at.at (omega arith) c.loop-at.invariant (λ _. sym c.is_word_byte.ensures ∙ c.if-not-is_word_byte.true)

pub returns-clause-bytes : goal.returns-clause-bytes
returns-clause-bytes c = word_bytes-at c.args.text.now (length c.args.text.now) (omega arith) (λ k lt. c.loop-at.invariant k (omega arith)) (λ lt. absurd (omega arith))
