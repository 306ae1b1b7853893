use Rattle.std.proofs.Common.{refl}
use Rattle.tpal_machine.proofs.Keeping.{merge_keeps}
use Rattle.tpal_machine.proofs.laws.kept_by_merges.Goals as goal

pub returns-clause-keeps : goal.returns-clause-keeps
returns-clause-keeps c = λ rest left right. merge_keeps c.args.code.now rest left right

pub returns-clause-joined : goal.returns-clause-joined
returns-clause-joined c = λ rest left right both merged. merged.gives

pub returns-clause-merges : goal.returns-clause-merges
returns-clause-merges c = λ rest left right sides rest_of left_of right_of. record { sides = sides; rest_belongs = rest_of; left_belongs = left_of; right_belongs = right_of; gives = refl }
