use Rattle.std.proofs.Common.{◌∷◌, take}
use Rattle.handler_gen.specs.Registers.{leaf_cursor, leaf_first_acc}
use Rattle.block_lower.specs.Lowering.{AreHeld, held_from}
use Rattle.block_lower.proofs.leaf.held_by.Given as goal

abbrev pub invariant-loop-before : goal.invariant-loop-before
invariant-loop-before l =
    AreHeld l.regs.items
    ((l.l.var.text.items, leaf_cursor)
    ∷ held_from leaf_first_acc (take l.before l.l.reduces.items))
