use Rattle.std.proofs.Common.{◌≡◌, ◌+◌, length}
use Rattle.tpal_verify.specs.declared.phases.Phase.TheVariants as phase
use Rattle.tpal_verify.specs.Walk.{walk}
use Rattle.tpal_verify.proofs.Stepping.{comes_to}
use Rattle.tpal_verify.proofs.walk.Walk.run.Given as goal

-- what is left of the walk comes to what the whole walk comes to
abbrev pub invariant-loop-instr : goal.invariant-loop-instr
invariant-loop-instr l = record {
  came : comes_to l.self.next l.self.forks (walk l.ground l.leads l.at l.phase l.self.shape l.rest l.block.term)
      ≡ comes_to l.fn.self.next l.fn.self.forks (walk l.fn.ground l.fn.first 0 phase.Calm l.fn.self.shape l.fn.block.body l.fn.block.term);
  now : l.self.now ≡ l.fn.self.now;
  seen : l.at + length l.rest ≡ length l.fn.block.body;
}

abbrev pub decreases-loop-instr : goal.decreases-loop-instr
decreases-loop-instr l = length l.rest
