use Rattle.std.proofs.Common.{◌≡◌, ◌+◌, length}
use Rattle.tpal_verify.specs.Flat.{first_unflat}
use Rattle.tpal_verify.proofs.flat.Ground.first_unflat.Given as goal

-- what is left decides
abbrev pub invariant-loop-instr : goal.invariant-loop-instr
invariant-loop-instr l = record {
  left : first_unflat l.self l.leads l.at l.rest l.term ≡ first_unflat l.self l.fn.first 0 l.fn.body l.term;
  seen : l.at + length l.rest ≡ length l.fn.body;
}

abbrev pub decreases-loop-instr : goal.decreases-loop-instr
decreases-loop-instr l = length l.rest
