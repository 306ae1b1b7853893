use Rattle.tpal_tool.proofs.tool.call_in_pool.Goals as goal

pub returns-clause-ends : goal.returns-clause-ends
returns-clause-ends g c = c.ended.ensures _ _ _ _ c.answer_in_pool-answer.ensures.answer c.answer_in_pool-answer.ensures.fault
