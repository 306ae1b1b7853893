use Rattle.std.proofs.Common.{◌≤◌, drop}
use Rattle.loop_meaning.specs.declared.plain.TheConstants.{TOO_MANY_CELLS}
use Rattle.loop_meaning.specs.Meaning.{make_tables}
use Rattle.loop_meaning.specs.Ends.{state_of, EndAlike}
use Rattle.loop_meaning.proofs.plain.make_tables.Given as goal

abbrev pub invariant-loop-d : goal.invariant-loop-d
invariant-loop-d l =
    EndAlike (make_tables l.given l.cells (drop l.d-index l.decls) (state_of l.memory)) (make_tables l.given l.first l.decls (state_of l.initial.memory))
    × (l.cells ≤ TOO_MANY_CELLS)
