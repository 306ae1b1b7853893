use Rattle.tpal_tool.proofs.code_judging.judge_code.Goals as goal

-- src/code_judging.rt:51:1
pub returns-clause-fault : goal.returns-clause-fault
returns-clause-fault c = c.verified.ensures.fault c.args.source.now c.in_ok-code.ensures.code
