use Rattle.std.proofs.Common.{◌≡◌, ◌≤◌, length}
use Rattle.tpal_syntax.specs.Readers.{digits_at}
use Rattle.tpal_asm.proofs.parts.digits.Given as goal

abbrev pub invariant-loop-first : goal.invariant-loop-first
invariant-loop-first l = record { same : digits_at l.limit l.from l.text ≡ digits_at l.limit l.number l.rest; within : l.number ≤ l.limit }

abbrev pub decreases-loop-first : goal.decreases-loop-first
decreases-loop-first l = length l.rest
