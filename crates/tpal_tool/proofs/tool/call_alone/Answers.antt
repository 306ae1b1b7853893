use Rattle.tpal_tool.proofs.tool.call_alone.Goals as goal

pub returns-clause-ends : goal.returns-clause-ends
returns-clause-ends g c = c.ended.ensures _ _ _ _ c.answer_alone-answer.ensures.answer c.answer_alone-answer.ensures.fault
