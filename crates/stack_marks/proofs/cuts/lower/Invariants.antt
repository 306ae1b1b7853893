use Rattle.std.proofs.Common.{◌≡◌, ◌++◌, take, drop}
use Rattle.stack_marks.proofs.cuts.lower.Given as goal

abbrev pub invariant-loop-index : goal.invariant-loop-index
invariant-loop-index l =
    l.cells.items
    ≡ take l.index (drop l.from l.fn.cells.items) ++ drop l.index l.fn.cells.items
