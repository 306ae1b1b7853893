use Rattle.std.proofs.Common.{refl}
use Rattle.tpal_tool.specs.declared.refusal.SourceFault.TheVariants.{Form, Deep}
use Rattle.tpal_tool.specs.Lines.{fault_line, fault_of}
use Rattle.tpal_tool.proofs.Soles.{faulty-only}
use Rattle.tpal_tool.proofs.parsing.parse_source.Goals as goal

pub returns-in-Err-Form-clause-fault : goal.returns-in-Err-Form-clause-fault
returns-in-Err-Form-clause-fault c =
    let cause = rw c.in-Err-Form.field-0-is at c.in-Err-Form.ensures.cause in
    let only = rw c.in-Err-Form.field-0-is at c.in-Err-Form.ensures.no_other_cause in
    (refl, faulty-only c.args.source.now (Form c.in-Err-Form.place) (fault_line (fault_of (Form c.in-Err-Form.place))) cause only refl)

pub returns-in-Err-Deep-clause-fault : goal.returns-in-Err-Deep-clause-fault
returns-in-Err-Deep-clause-fault c =
    let cause = rw c.in-Err-Deep.field-0-is at c.in-Err-Deep.ensures.cause in
    let only = rw c.in-Err-Deep.field-0-is at c.in-Err-Deep.ensures.no_other_cause in
    (refl, faulty-only c.args.source.now (Deep c.in-Err-Deep.place) (fault_line (fault_of (Deep c.in-Err-Deep.place))) cause only refl)
