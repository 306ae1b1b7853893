use Rattle.std.proofs.Common.{rules, ◌≡◌, ◌∙◌, ap, sym, [], ◌∷◌}
use Rattle.tpal_verify.specs.Rounds.{forks_of, all_forks, each_comb_flow, with_flows}
use Rattle.tpal_verify.proofs.Combining.{each_more}
use Rattle.tpal_verify.proofs.combs.Combs.flow_all.Goals as goal

pub loop-trace-preserved : goal.loop-trace-preserved
loop-trace-preserved c =
    let l = c.loop-trace in
    let whole = c.args.self.now.ground.now in
    let joins = c.args.self.now.join.now ∷ [] in
    let behind = c.in-Some.behind.now in
    let split : l.rest.now ≡ c.in-Some.trace.now ∷ behind = search rules in
    let next : c.flow_trace.new.board.next ≡ with_flows l.board.next (each_comb_flow whole joins (forks_of c.in-Some.trace.now)) = search rules in
    record {
      next = ap (λ xs. with_flows xs (each_comb_flow whole joins (all_forks behind))) next
          ∙ (sym (each_more whole l.board.next joins (forks_of c.in-Some.trace.now) (all_forks behind))
          ∙ (ap (λ r. with_flows l.board.next (each_comb_flow whole joins (all_forks r))) (sym split) ∙ l.invariant.next));
      now = search rules;
    }
