use Rattle.std.proofs.Common.{◌≡◌, replicate}
use Rattle.schedule_core.specs.declared.seats.Cell.TheVariants as cell
use Rattle.schedule_core.proofs.first.free_records.Given as goal

-- the records so far
abbrev pub invariant-loop-at : goal.invariant-loop-at
invariant-loop-at l = l.all.items ≡ replicate l._at cell.Free
