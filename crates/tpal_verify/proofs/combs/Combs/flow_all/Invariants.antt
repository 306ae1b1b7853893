use Rattle.std.proofs.Common.{◌≡◌, [], ◌∷◌, length}
use Rattle.tpal_verify.specs.Rounds.{each_comb_flow, with_flows, all_forks}
use Rattle.tpal_verify.proofs.combs.Combs.flow_all.Given as goal

-- what is left flows like all
abbrev pub invariant-loop-trace : goal.invariant-loop-trace
invariant-loop-trace l = record {
  next : with_flows l.board.next (each_comb_flow l.self.ground.now (l.self.join.now ∷ []) (all_forks l.rest))
      ≡ with_flows l.fn.board.next (each_comb_flow l.fn.self.ground.now (l.fn.self.join.now ∷ []) (all_forks l.fn.traces));
  now : l.board.now ≡ l.fn.board.now;
}

abbrev pub decreases-loop-trace : goal.decreases-loop-trace
decreases-loop-trace l = length l.rest
