use Rattle.std.proofs.Common.{refl}
use Rattle.loop_parse.specs.Text.{byte, range}
use Rattle.tpal_tool.specs.declared.refusal.SourceFault.TheVariants.{Byte, Range}
use Rattle.tpal_tool.specs.Lines.{fault_line, fault_of}
use Rattle.tpal_tool.proofs.Soles.{byte-only, range-only, faulty-only}
use Rattle.tpal_tool.proofs.parsing.tokens_of.Goals as goal

pub returns-in-Err-Byte-clause-fault : goal.returns-in-Err-Byte-clause-fault
returns-in-Err-Byte-clause-fault c =
    let cause = rw c.in-Err-Byte.field-0-is at c.in-Err-Byte.ensures.cause in
    let only = rw c.in-Err-Byte.field-0-is at c.in-Err-Byte.ensures.no_other_cause in
    (refl, faulty-only c.args.source.now (Byte c.in-Err-Byte.place) (fault_line (fault_of (Byte c.in-Err-Byte.place))) (byte cause) (byte-only c.args.source.now c.in-Err-Byte.place only) refl)

pub returns-in-Err-Range-clause-fault : goal.returns-in-Err-Range-clause-fault
returns-in-Err-Range-clause-fault c =
    let cause = rw c.in-Err-Range.field-0-is at c.in-Err-Range.ensures.cause in
    let only = rw c.in-Err-Range.field-0-is at c.in-Err-Range.ensures.no_other_cause in
    (refl, faulty-only c.args.source.now (Range c.in-Err-Range.place) (fault_line (fault_of (Range c.in-Err-Range.place))) (range cause) (range-only c.args.source.now c.in-Err-Range.place only) refl)
