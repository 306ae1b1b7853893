use Rattle.std.proofs.Common.{refl}
use Rattle.tpal_tool.specs.Lines.{parallel_line}
use Rattle.tpal_tool.proofs.Soles.{parallel-only}
use Rattle.tpal_tool.proofs.judging.checked.Goals as goal

pub returns-in-Err-Broken-clause-fault : goal.returns-in-Err-Broken-clause-fault
returns-in-Err-Broken-clause-fault c source parses_as =
    let first = rw c.in-Err-Broken.field-0-is at c.in-Err-Broken.ensures.cause in
    (refl, parallel-only source c.args.program c.in-Err-Broken.rule c.in-Err-Broken.place (parallel_line c.in-Err-Broken.rule c.in-Err-Broken.place) parses_as c.requires first refl)
