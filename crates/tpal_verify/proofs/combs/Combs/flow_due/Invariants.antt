use Rattle.std.proofs.Common.{◌≡◌, [], ◌∷◌, length}
use Rattle.tpal_verify.specs.Rounds.{each_comb_flow, with_flows}
use Rattle.tpal_verify.specs.Rounding.{forks_due}
use Rattle.tpal_verify.proofs.combs.Combs.flow_due.Given as goal

-- what is left flows like all
abbrev pub invariant-loop-label : goal.invariant-loop-label
invariant-loop-label l = record {
  next : with_flows l.board.next (each_comb_flow l.self.ground.now (l.self.join.now ∷ []) (forks_due l.traces l.rest))
      ≡ with_flows l.fn.board.next (each_comb_flow l.fn.self.ground.now (l.fn.self.join.now ∷ []) (forks_due l.fn.traces l.fn.due));
  now : l.board.now ≡ l.fn.board.now;
}

abbrev pub decreases-loop-label : goal.decreases-loop-label
decreases-loop-label l = length l.rest
