use Rattle.loop_check.specs.Walk.{texts_of}
use Rattle.loop_check.proofs.Reading.{Closing}
use Rattle.loop_check.proofs.readers.readers_of.Given as goal

abbrev pub invariant-loop-i : goal.invariant-loop-i
invariant-loop-i l = Closing l.program l.table (texts_of l.names.items) l.i
