use Rattle.std.proofs.Common.{◌≡◌, drop}
use Rattle.tpal_machine.specs.Cut.{cut_of}
use Rattle.tpal_machine.proofs.cut.cut_of.Given as goal

abbrev pub invariant-loop-cut : goal.invariant-loop-cut
invariant-loop-cut l = cut_of l.cuts l.table ≡ cut_of (drop l.cut-index l.cuts) l.table
