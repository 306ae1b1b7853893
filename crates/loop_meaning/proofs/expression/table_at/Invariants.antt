use Rattle.std.proofs.Common.{◌≡◌, drop}
use Rattle.loop_meaning.specs.State.{table_of}
use Rattle.loop_meaning.proofs.expression.table_at.Given as goal

abbrev pub invariant-loop-t : goal.invariant-loop-t
invariant-loop-t l = table_of (drop l.t-index l.tables) l.name ≡ table_of l.tables l.name
