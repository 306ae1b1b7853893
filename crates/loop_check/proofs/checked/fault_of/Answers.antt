use Rattle.loop_rules.proofs.Walking.{ok_map}
use Rattle.loop_check.proofs.Verdict.{verdict}
use Rattle.loop_check.proofs.checked.fault_of.Goals as goal

pub returns : goal.returns
returns c =
    ok_map c.first_fault.result
    (λ o e. verdict c.args.program.now c.requires c.in_ok-readers.readers.items c.in_ok-readers.ensures o (rw c.deref.ensures.value at e))
    c.first_fault.ensures
