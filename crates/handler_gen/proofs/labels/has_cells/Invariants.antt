use Rattle.std.proofs.Common.{◌≡◌, drop}
use Rattle.std.specs.List.{list_any}
use Rattle.handler_gen.specs.Sites.{is_of_cells}
use Rattle.handler_gen.proofs.labels.has_cells.Given as goal

-- none of the carries so far is of cells
abbrev pub invariant-loop-carry : goal.invariant-loop-carry
invariant-loop-carry l = list_any is_of_cells (drop l.carry-index l.carries) ≡ list_any is_of_cells l.carries
