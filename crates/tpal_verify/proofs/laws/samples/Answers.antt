use Rattle.tpal_verify.proofs.Tried as lemma
use Rattle.tpal_verify.proofs.laws.samples.Goals as goal

pub returns-clause-sum : goal.returns-clause-sum
returns-clause-sum c = lemma.sum_passes

pub returns-clause-second_fork : goal.returns-clause-second_fork
returns-clause-second_fork c = lemma.twice

pub returns-clause-halt_of_side : goal.returns-clause-halt_of_side
returns-clause-halt_of_side c = lemma.at_end

pub returns-clause-swapped_tests : goal.returns-clause-swapped_tests
returns-clause-swapped_tests c = lemma.swaps

pub returns-clause-entered_again : goal.returns-clause-entered_again
returns-clause-entered_again c = lemma.back

pub returns-clause-second_mark : goal.returns-clause-second_mark
returns-clause-second_mark c = lemma.back_marked

pub returns-clause-nil : goal.returns-clause-nil
returns-clause-nil c = lemma.nil

pub returns-clause-number : goal.returns-clause-number
returns-clause-number c = lemma.number

pub returns-clause-stop : goal.returns-clause-stop
returns-clause-stop c = lemma.stop

pub returns-clause-base : goal.returns-clause-base
returns-clause-base c = lemma.base
