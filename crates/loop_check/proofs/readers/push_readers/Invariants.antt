use Rattle.std.proofs.Common.{◌≡◌, ◌++◌, map, take}
use Rattle.loop_check.specs.Walk.{texts_of}
use Rattle.loop_check.specs.Readers.{pair, pairs_of}
use Rattle.loop_check.proofs.readers.push_readers.Given as goal

abbrev pub invariant-loop-func : goal.invariant-loop-func
invariant-loop-func l = pairs_of l.readers.items ≡ pairs_of l.initial.readers.items ++ map (pair l.table) (texts_of (take l.func-index l.names))
