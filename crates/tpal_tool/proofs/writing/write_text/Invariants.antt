use Rattle.std.proofs.Common.{◌≡◌, ◌≤◌, [], length}
use Rattle.tpal_tool.proofs.Pieces.{IsWrittenBut}
use Rattle.tpal_tool.proofs.writing.write_text.Given as goal

abbrev pub invariant-loop-rest : goal.invariant-loop-rest
invariant-loop-rest g l = record {
  written : IsWrittenBut (g.K.Sink.written l.initial.sink) (g.K.Sink.written l.sink) l.rest l.text;
  count : g.K.Sink.faults l.initial.sink ≤ g.K.Sink.faults l.sink;
  empty : l.text ≡ [] → l.sink ≡ l.initial.sink;
}

abbrev pub decreases-loop-rest : goal.decreases-loop-rest
decreases-loop-rest g l = length l.rest
