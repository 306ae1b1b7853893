use Rattle.std.proofs.Common.{refl}
use Rattle.std.specs.Fmt.{digits}
use Rattle.std.specs.Int.{int_wrap}
use Rattle.tpal_verify.specs.Exec.{exec_from}
use Rattle.tpal_verify.proofs.exec_laws.exec_samples.Goals as goal

pub returns-clause-over : goal.returns-clause-over
unfolding exec_from int_wrap digits
returns-clause-over c = refl

pub returns-clause-spent : goal.returns-clause-spent
unfolding exec_from int_wrap digits
returns-clause-spent c = refl

pub returns-clause-nothing : goal.returns-clause-nothing
unfolding exec_from int_wrap digits
returns-clause-nothing c = refl

pub returns-clause-not_told : goal.returns-clause-not_told
unfolding exec_from int_wrap digits
returns-clause-not_told c = refl

pub returns-clause-stuck : goal.returns-clause-stuck
unfolding exec_from int_wrap digits
returns-clause-stuck c = refl

pub returns-clause-loops : goal.returns-clause-loops
unfolding exec_from int_wrap digits
returns-clause-loops c = refl

pub returns-clause-diverted : goal.returns-clause-diverted
unfolding exec_from int_wrap digits
returns-clause-diverted c = refl
