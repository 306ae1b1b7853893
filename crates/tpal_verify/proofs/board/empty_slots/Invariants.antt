use Rattle.std.proofs.Common.{◌≡◌, replicate}
use Rattle.tpal_verify.specs.Board.{empty_slot}
use Rattle.tpal_verify.proofs.board.empty_slots.Given as goal

abbrev pub invariant-loop : goal.invariant-loop
invariant-loop l = l.slots.items ≡ replicate l.counter empty_slot
