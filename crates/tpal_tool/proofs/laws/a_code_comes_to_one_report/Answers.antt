use Rattle.tpal_tool.proofs.HeldOnce.{held_once, report_once}
use Rattle.tpal_tool.proofs.laws.a_code_comes_to_one_report.Goals as goal

pub returns-clause-one_list : goal.returns-clause-one_list
returns-clause-one_list c = held_once

pub returns-clause-one_report : goal.returns-clause-one_report
returns-clause-one_report c = report_once
