use Rattle.tpal_print.proofs.instructions.push_instr.Goals as goal

pub returns-in-JrAlloc : goal.returns-in-JrAlloc
returns-in-JrAlloc c = rw c.in-JrAlloc.is c.push_from_label.ensures
