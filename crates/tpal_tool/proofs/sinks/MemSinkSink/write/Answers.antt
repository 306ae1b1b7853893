use Rattle.std.proofs.Common.{rules, take, ap, Some}
use Rattle.std.proofs.lemmas.List.{take-append-drop}
use Rattle.tpal_tool.proofs.sinks.MemSinkSink.write.Goals as goal

pub returns-in_ok-extend_from_slice-in-Some-clause-prefix :
    goal.returns-in_ok-extend_from_slice-in-Some-clause-prefix
returns-in_ok-extend_from_slice-in-Some-clause-prefix c failed = (
  take c.min-kept.result c.args.piece.now,
  record { rest = _; whole = take-append-drop c.min-kept.result c.args.piece.now },
  ap Some (search rules),
)
