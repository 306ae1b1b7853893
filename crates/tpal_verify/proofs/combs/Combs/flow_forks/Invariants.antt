use Rattle.std.proofs.Common.{◌≡◌, [], ◌∷◌, length}
use Rattle.tpal_verify.specs.Rounds.{each_comb_flow, with_flows}
use Rattle.tpal_verify.proofs.combs.Combs.flow_forks.Given as goal

-- what is left flows like all
abbrev pub invariant-loop-fork : goal.invariant-loop-fork
invariant-loop-fork l = record {
  next : with_flows l.board.next (each_comb_flow l.self.ground.now (l.self.join.now ∷ []) l.rest)
      ≡ with_flows l.fn.board.next (each_comb_flow l.fn.self.ground.now (l.fn.self.join.now ∷ []) l.fn.forks);
  now : l.board.now ≡ l.fn.board.now;
}

abbrev pub decreases-loop-fork : goal.decreases-loop-fork
decreases-loop-fork l = length l.rest
