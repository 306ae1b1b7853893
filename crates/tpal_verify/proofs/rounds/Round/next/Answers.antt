use Rattle.std.proofs.Common.{rules, ◌≡◌, ◌∙◌, sym, subst, suc}
use Rattle.tpal_verify.specs.Board.{AreSameBut}
use Rattle.tpal_verify.specs.Rounding.{Round, Stands}
use Rattle.tpal_verify.proofs.Rounded.{round_next, Steps}
use Rattle.tpal_verify.proofs.rounds.Round.next.Goals as goal

pub returns : goal.returns
returns c = λ left st.
    let whole = c.args.ground.now in
    let inside = c.self.inside in
    let old : Round = record {
      shapes = inside.board.now;
      staged = inside.board.next;
      due = inside.due.items;
      traces = inside.traces.items;
      join = inside.join;
    } in
    let stands : Stands whole (suc left) old = subst (λ r. Stands whole (suc left) r) (sym c.self.view_is) st in
    let walked = c.in_ok-board.board in
    let came = c.flow_combs.new.board in
    let now : came.now ≡ inside.board.now = c.in_ok-flow_combs.ensures.now ∙ c.in_ok-board.ensures.now in
    let steps : Steps whole old walked.next came.next c.walk_due.new.traces.items c.in_ok-join.join c.in_ok-board.same c.in_ok-join.same = record {
      walks = search rules;
      traces = search rules;
      same_joins = search rules;
      keeps = search rules;
      finds = search rules;
      same_join = search rules;
      combs = search rules;
    } in
    round_next whole left old walked.next came.next c.walk_due.new.traces.items c.in_ok-join.join c.in_ok-board.same c.in_ok-join.same stands steps
    c.settle-due.new.self.now c.settle-due.new.self.next c.settle-due.result.items (search rules) (search rules)
    (subst (λ xs. AreSameBut c.settle-due.result.items c.settle-due.new.self.now xs) now c.settle-due.ensures.changed)
