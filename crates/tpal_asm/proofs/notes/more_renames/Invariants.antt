use Rattle.std.proofs.Common.{◌≡◌, ◌-◌}
use Rattle.tpal_syntax.specs.Readers.{many, next_rename_at}
use Rattle.tpal_asm.specs.Reading.{onto}
use Rattle.tpal_asm.proofs.notes.more_renames.Given as goal

-- what is still to come stands behind what was read
abbrev pub invariant-loop-at : goal.invariant-loop-at
invariant-loop-at l = onto l.fn.renames.items (many l.fn.most next_rename_at l.fn.text) ≡ onto l.renames.items (many (l.fn.most - l._at) next_rename_at l.rest)
