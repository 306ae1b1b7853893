use Rattle.std.proofs.Common.{◌≡◌}
use Rattle.tpal_machine.specs.Merge.{put_together}
use Rattle.tpal_machine.proofs.joining.append_parts.Given as goal

-- the parts so far are put to their tables
abbrev pub invariant-loop-slice : goal.invariant-loop-slice
invariant-loop-slice l = l.tables.items ≡ put_together l.fn.tables.items l.yielded
