use Rattle.std.proofs.Common.{◌≡◌, ◌+◌, length}
use Rattle.tpal_verify.specs.Walk.{back_flows}
use Rattle.tpal_verify.specs.Walking.{flowed_all}
use Rattle.tpal_verify.proofs.walk.Walk.flow_back.Given as goal

-- what is left flows like all
abbrev pub invariant-loop-block : goal.invariant-loop-block
invariant-loop-block l = record {
  flows : flowed_all l.self (back_flows l.handler l.fn.self.shape l.label l.rest)
      ≡ flowed_all l.fn.self (back_flows l.handler l.fn.self.shape 0 l.fn.blocks);
  shape : l.self.shape ≡ l.fn.self.shape;
  seen : l.label + length l.rest ≡ length l.fn.blocks;
}

abbrev pub decreases-loop-block : goal.decreases-loop-block
decreases-loop-block l = length l.rest
