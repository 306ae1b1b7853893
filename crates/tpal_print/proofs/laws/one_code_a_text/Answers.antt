use Rattle.tpal_print.proofs.Unique.{same_code}
use Rattle.tpal_print.proofs.laws.one_code_a_text.Goals as goal

pub returns : goal.returns
returns c = λ text tables others blocks more one two. same_code text tables others blocks more one two
