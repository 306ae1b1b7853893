use Rattle.std.proofs.Common.{rules, ◌≡◌, ◌∙◌, sym, ◌∷◌, slice_set}
use Rattle.std.proofs.lemmas.Bool.{false≢true}
use Rattle.tpal_verify.specs.Rounds.{with_flows, trace_of}
use Rattle.tpal_verify.specs.Rounding.{flows_due, retraced}
use Rattle.tpal_verify.specs.Walking.{walk_at, flows_in}
use Rattle.tpal_verify.proofs.Rounded.{next_more, traces_more}
use Rattle.tpal_verify.proofs.rounds.walk_due.Goals as goal

pub loop-label-preserved-then-put_trace : goal.loop-label-preserved-then-put_trace
loop-label-preserved-then-put_trace c =
    let l = c.loop-label in
    let whole = c.args.ground.now in
    let xs = c.args.board.now in
    let label = c.in-Some.label.now in
    let behind = c.in-Some.behind.now in
    let found = c.in_ok-next in
    let split : l.rest.now ≡ label ∷ behind = search rules in
    let next : found.next.next ≡ with_flows l.board.next (flows_in (walk_at whole l.board.now label)) = search rules in
    let trace : found.trace ≡ trace_of (walk_at whole l.board.now label) = search rules in
    let put : c.put_trace.new.traces.items ≡ slice_set l.traces.items label found.trace = search rules in
    let now : found.next.now ≡ l.board.now = search rules in
    record {
      next = next_more whole xs l.board.now l.board.next found.next.next (with_flows c.args.board.next (flows_due whole xs c.args.due.now)) l.rest.now behind label split l.invariant.now next l.invariant.next;
      now = now ∙ l.invariant.now;
      traces = traces_more whole xs l.board.now l.traces.items c.put_trace.new.traces.items (retraced whole xs c.args.due.now c.args.traces.now.items) found.trace l.rest.now behind label split l.invariant.now trace put l.invariant.traces;
      same = λ q. c.put_trace.ensures.same c.if-put_trace.true ∙ l.invariant.same q;
    }

pub loop-label-preserved : goal.loop-label-preserved
loop-label-preserved c =
    let l = c.loop-label in
    let whole = c.args.ground.now in
    let xs = c.args.board.now in
    let label = c.in-Some.label.now in
    let behind = c.in-Some.behind.now in
    let found = c.in_ok-next in
    let split : l.rest.now ≡ label ∷ behind = search rules in
    let next : found.next.next ≡ with_flows l.board.next (flows_in (walk_at whole l.board.now label)) = search rules in
    let trace : found.trace ≡ trace_of (walk_at whole l.board.now label) = search rules in
    let put : c.put_trace.new.traces.items ≡ slice_set l.traces.items label found.trace = search rules in
    let now : found.next.now ≡ l.board.now = search rules in
    record {
      next = next_more whole xs l.board.now l.board.next found.next.next (with_flows c.args.board.next (flows_due whole xs c.args.due.now)) l.rest.now behind label split l.invariant.now next l.invariant.next;
      now = now ∙ l.invariant.now;
      traces = traces_more whole xs l.board.now l.traces.items c.put_trace.new.traces.items (retraced whole xs c.args.due.now c.args.traces.now.items) found.trace l.rest.now behind label split l.invariant.now trace put l.invariant.traces;
      same = λ q. absurd (false≢true (sym c.if-put_trace.false ∙ q));
    }
