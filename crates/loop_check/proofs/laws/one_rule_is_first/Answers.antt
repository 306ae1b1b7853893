use Rattle.loop_check.proofs.Firsts.{firsts_agree, not_both}
use Rattle.loop_check.proofs.laws.one_rule_is_first.Goals as goal

pub returns-clause-alone : goal.returns-clause-alone
returns-clause-alone c rule other place elsewhere = firsts_agree c.args.program.now rule other place elsewhere

pub returns-clause-not_both : goal.returns-clause-not_both
returns-clause-not_both c rule place = not_both c.args.program.now rule place
