use Rattle.std.proofs.Common.{◌≡◌, drop}
use Rattle.schedule_core.specs.Effects.{least_free, least_free_from}
use Rattle.schedule_core.proofs.stepping.least_free.Given as goal

-- the cells before this one aren't free
abbrev pub invariant-loop-cell : goal.invariant-loop-cell
invariant-loop-cell l = (l.at ≡ l.cell-index) × (least_free l.cells ≡ least_free_from (drop l.cell-index l.cells) l.cell-index)
