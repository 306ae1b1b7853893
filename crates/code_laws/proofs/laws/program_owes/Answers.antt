use Rattle.code_laws.proofs.Whole.Owes.{owes_of}
use Rattle.code_laws.proofs.laws.program_owes.Goals as goal

pub returns : goal.returns
returns c = λ none is.
    owes_of c.args.program.now c.args.code.now none c.blocks-blocks.ensures.right is
