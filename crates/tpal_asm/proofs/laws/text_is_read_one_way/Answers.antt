use Rattle.tpal_print.proofs.Unique.{same_code}
use Rattle.tpal_asm.proofs.OneFault.{one-fault}
use Rattle.tpal_asm.proofs.Complete.{code-no-fault}
use Rattle.tpal_asm.proofs.EachText.{text-ends}
use Rattle.tpal_asm.proofs.laws.text_is_read_one_way.Goals as goal

pub returns-clause-one_of_them : goal.returns-clause-one_of_them
returns-clause-one_of_them c = text-ends

pub returns-clause-one_code : goal.returns-clause-one_code
returns-clause-one_code c = λ text tables others blocks more one two. same_code text tables others blocks more one two

pub returns-clause-one_fault : goal.returns-clause-one_fault
returns-clause-one_fault c = one-fault

pub returns-clause-not_both : goal.returns-clause-not_both
returns-clause-not_both c = λ text tables blocks fault is. code-no-fault text tables blocks is fault
