use Rattle.std.proofs.lemmas.Result.{IfOk-weaker}
use Rattle.tpal_print.proofs.Whole.{all_stand}
use Rattle.tpal_print.proofs.printing.print_code.Goals as goal

pub returns-clause-code_text : goal.returns-clause-code_text
returns-clause-code_text c =
    IfOk-weaker c.print_in.result _ _ (λ text spelled. record { right = c.blocks-blocks.ensures.right; ends = all_stand c.args.code.now.blocks; spelled = spelled }) c.print_in.ensures
