use Rattle.std.proofs.Common.{◌≡◌, length, map}
use Rattle.tpal_verify.specs.Board.{next_in, AreNoted}
use Rattle.tpal_verify.proofs.board.Board.settle.Given as goal

-- shapes are staged only at the labels that are left
abbrev pub invariant-loop-label : goal.invariant-loop-label
invariant-loop-label l = record {
  next : map next_in l.self-inside.slots.items ≡ l.fn.self.next;
  noted : AreNoted l.self-inside.slots.items l.rest;
}

abbrev pub decreases-loop-label : goal.decreases-loop-label
decreases-loop-label l = length l.rest
