use Rattle.loop_check.proofs.Verdict.{all_unbroken}
use Rattle.loop_check.proofs.Law.{disjoint_law}
use Rattle.loop_check.proofs.Parts.{parted_law}
use Rattle.loop_check.proofs.Spared.{spared_law}
use Rattle.loop_check.proofs.checked.check.Goals as goal

pub invariant_of-result : goal.invariant_of-result
invariant_of-result c =
    let v = rw (c.in-None.is, c.program-2.ensures.program) at c.in_ok-fault_of.ensures in
    all_unbroken c.args.program c.program-2.ensures.resolved v

pub returns-in-None-clause-unbroken : goal.returns-in-None-clause-unbroken
returns-in-None-clause-unbroken c =
    let v = rw (c.in-None.is, c.program-2.ensures.program) at c.in_ok-fault_of.ensures in
    all_unbroken c.args.program c.program-2.ensures.resolved v

pub returns-in-None-clause-disjoint : goal.returns-in-None-clause-disjoint
returns-in-None-clause-disjoint c =
    let v = rw (c.in-None.is, c.program-2.ensures.program) at c.in_ok-fault_of.ensures in
    disjoint_law c.args.program (all_unbroken c.args.program c.program-2.ensures.resolved v)

pub returns-in-None-clause-parted : goal.returns-in-None-clause-parted
returns-in-None-clause-parted c =
    let v = rw (c.in-None.is, c.program-2.ensures.program) at c.in_ok-fault_of.ensures in
    parted_law c.args.program (all_unbroken c.args.program c.program-2.ensures.resolved v)

pub returns-in-None-clause-spared : goal.returns-in-None-clause-spared
returns-in-None-clause-spared c =
    let v = rw (c.in-None.is, c.program-2.ensures.program) at c.in_ok-fault_of.ensures in
    spared_law c.args.program (all_unbroken c.args.program c.program-2.ensures.resolved v)
