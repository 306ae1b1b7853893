use Rattle.std.proofs.Common.{rules, ◌≡◌, ◌∙◌, ap, sym, [], ◌∷◌}
use Rattle.tpal_verify.specs.Rounds.{forks_of, each_comb_flow, with_flows}
use Rattle.tpal_verify.specs.Rounding.{forks_due, trace_at}
use Rattle.tpal_verify.proofs.Combining.{each_more}
use Rattle.tpal_verify.proofs.combs.Combs.flow_due.Goals as goal

pub loop-label-preserved : goal.loop-label-preserved
loop-label-preserved c =
    let l = c.loop-label in
    let whole = c.args.self.now.ground.now in
    let joins = c.args.self.now.join.now ∷ [] in
    let behind = c.in-Some.behind.now in
    let split : l.rest.now ≡ c.in-Some.label.now ∷ behind = search rules in
    let next : c.flow_block.new.board.next ≡ with_flows l.board.next (each_comb_flow whole joins (forks_of (trace_at c.args.traces.now c.in-Some.label.now))) = search rules in
    record {
      next = ap (λ xs. with_flows xs (each_comb_flow whole joins (forks_due c.args.traces.now behind))) next
          ∙ (sym (each_more whole l.board.next joins (forks_of (trace_at c.args.traces.now c.in-Some.label.now)) (forks_due c.args.traces.now behind))
          ∙ (ap (λ r. with_flows l.board.next (each_comb_flow whole joins (forks_due c.args.traces.now r))) (sym split) ∙ l.invariant.next));
      now = search rules;
    }
