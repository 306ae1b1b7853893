use Rattle.std.proofs.Common.{refl, subst}
use Rattle.std.specs.Prelude.{Result, IfErr, IfOk}
use Rattle.tpal_tool.specs.declared.answer.Answer.{Answer}
use Rattle.tpal_tool.specs.declared.refusal.CallFault.{CallFault}
use Rattle.tpal_tool.specs.Answering.{IsFaultOf, OwesRefusal, whole_of}
use Rattle.tpal_tool.specs.Owed.{Owed, ReadFailed, read_failed}
use Rattle.tpal_tool.proofs.Appending.{appended_nothing}
use Rattle.tpal_tool.proofs.Endings.{written-ends}
use Rattle.tpal_tool.proofs.CallFaults.{refusal-owed}
use Rattle.tpal_tool.proofs.tool.ended.Goals as goal

pub returns-in-Ok : goal.returns-in-Ok
returns-in-Ok g c wanted told reads reads' answers is_fault =
    written-ends wanted told reads reads' _ _ _ _ _ _ _
    (subst (λ (r : Result Answer CallFault). IfOk r (λ a. Owed wanted told a.status (whole_of a.texts))) c.in-Ok.is answers) c.written.ensures

pub returns-in-Ok-refused : goal.returns-in-Ok-refused
returns-in-Ok-refused g c wanted told reads reads' answers is_fault =
    let here = subst (λ (r : Result Answer CallFault). IfErr r (IsFaultOf (OwesRefusal (Owed wanted told)) (ReadFailed wanted told reads reads'))) c.in-Err-Refused.is is_fault in
    written-ends wanted told reads reads' _ _ _ _ _ _ _
    (refusal-owed wanted told c.in-Err-Refused.refusal _ _ c.in-Ok-refused.ensures.status c.in-Ok-refused.ensures.text (rw c.in-Err-Refused.field-0-is at here))
    c.written-in-Ok-refused.ensures

pub returns-in-Err-ReadFailed : goal.returns-in-Err-ReadFailed
returns-in-Err-ReadFailed g c wanted told reads reads' answers is_fault =
    let here = subst (λ (r : Result Answer CallFault). IfErr r (IsFaultOf (OwesRefusal (Owed wanted told)) (ReadFailed wanted told reads reads'))) c.in-Err-ReadFailed.is is_fault in
    read_failed refl (rw c.in-Err-ReadFailed.field-0-is at here) (appended_nothing _)
