use Rattle.tpal_tool.proofs.Answered.{ReadOneWay}
use Rattle.tpal_tool.proofs.Endings.{final-finished}
use Rattle.tpal_tool.proofs.ExecAnswered.{CodeReadOneWay}
use Rattle.tpal_tool.proofs.ExecPromised.{execs-rightly}
use Rattle.tpal_tool.proofs.Promised.{has-cause, refuses-rightly, runs-or-compiles}
use Rattle.tpal_tool.proofs.tool.tpal.Goals as goal

pub returns-clause-answered : goal.returns-clause-answered
returns-clause-answered g c is_final = final-finished _ _ _ _ _ _ _ _ _ c.call.ensures.ends is_final

pub returns-clause-cause : goal.returns-clause-cause
returns-clause-cause g c = has-cause _ _ _ _ _ _ _ _ _ c.call.ensures.ends

pub returns-clause-refuses : goal.returns-clause-refuses
returns-clause-refuses g c =
    let way : ReadOneWay = record { one_list = c.text_is_read_one_way.ensures.one_list; one_fault = c.text_is_read_one_way.ensures.one_fault; not_both = c.text_is_read_one_way.ensures.not_both } in
    refuses-rightly _ _ _ _ _ _ _ _ _ way c.call.ensures.ends

pub returns-clause-runs : goal.returns-clause-runs
returns-clause-runs g c =
    let way : ReadOneWay = record { one_list = c.text_is_read_one_way.ensures.one_list; one_fault = c.text_is_read_one_way.ensures.one_fault; not_both = c.text_is_read_one_way.ensures.not_both } in
    runs-or-compiles _ _ _ _ _ _ _ _ _ way c.call.ensures.ends

pub returns-clause-executes : goal.returns-clause-executes
returns-clause-executes g c =
    let read : ReadOneWay = record { one_list = c.text_is_read_one_way.ensures.one_list; one_fault = c.text_is_read_one_way.ensures.one_fault; not_both = c.text_is_read_one_way.ensures.not_both } in
    let way : CodeReadOneWay = record { one_code = c.text_is_read_one_way-2.ensures.one_code; one_fault = c.text_is_read_one_way-2.ensures.one_fault; not_both = c.text_is_read_one_way-2.ensures.not_both } in
    execs-rightly _ _ _ _ _ _ _ _ _ read way c.call.ensures.ends
