use Rattle.std.proofs.Common.{◌≡◌, ◌≤◌, ◌+◌, min, drop}
use Rattle.loop_meaning.specs.declared.plain.TheConstants.{TOO_MANY_CELLS}
use Rattle.loop_meaning.specs.Meaning.{input_cells}
use Rattle.loop_meaning.proofs.plain.input_cells.Given as goal

abbrev pub invariant-loop-d : goal.invariant-loop-d
invariant-loop-d l =
    (min (l.cells + input_cells (drop l.d-index l.decls) l.given) TOO_MANY_CELLS ≡ min (input_cells l.decls l.given) TOO_MANY_CELLS)
    × (l.cells ≤ TOO_MANY_CELLS)
