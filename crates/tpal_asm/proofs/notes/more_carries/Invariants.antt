use Rattle.std.proofs.Common.{◌≡◌, ◌-◌}
use Rattle.tpal_syntax.specs.Readers.{many, next_carry_at}
use Rattle.tpal_asm.specs.Reading.{onto}
use Rattle.tpal_asm.proofs.notes.more_carries.Given as goal

-- what is still to come stands behind what was read
abbrev pub invariant-loop-at : goal.invariant-loop-at
invariant-loop-at l = onto l.fn.carries.items (many l.fn.most next_carry_at l.fn.text) ≡ onto l.carries.items (many (l.fn.most - l._at) next_carry_at l.rest)
