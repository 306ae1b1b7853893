use Rattle.std.proofs.Common.{◌≡◌, drop}
use Rattle.std.specs.List.{list_any}
use Rattle.scene_laws.specs.Sizes.{has_row}
use Rattle.block_lower.proofs.sizes.have_row.Given as goal

abbrev pub invariant-loop-carry : goal.invariant-loop-carry
invariant-loop-carry l = list_any has_row (drop l.carry-index l.carries) ≡ list_any has_row l.carries
