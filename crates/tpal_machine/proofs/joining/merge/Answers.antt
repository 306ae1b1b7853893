use Rattle.std.proofs.lemmas.Result.{IfOk-weaker}
use Rattle.tpal_machine.specs.Merge.{joined}
use Rattle.tpal_machine.proofs.Given.{joined_of_code, merged_of_code}
use Rattle.tpal_machine.proofs.joining.merge.Goals as goal

pub returns-clause-belongs : goal.returns-clause-belongs
returns-clause-belongs c =
    IfOk-weaker c.merge_parts.result _ _ (λ m h. merged_of_code c.args.code.now (joined c.args.code.now c.args.rest c.args.left c.args.right) m h (joined_of_code c.args.code.now c.args.rest c.args.left c.args.right c.blocks-blocks.ensures.right c.requires.rest c.requires.left c.requires.right)) c.merge_parts.ensures
