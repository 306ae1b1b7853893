use Rattle.std.proofs.Common.{rules, ◌≡◌, ◌∷◌}
use Rattle.tpal_verify.specs.Rounds.{join_in, all_joins}
use Rattle.tpal_verify.specs.Agreement.{agreed_with}
use Rattle.tpal_verify.proofs.Agreeing.{one_more_of}
use Rattle.tpal_verify.proofs.agreement.agreement.Goals as goal

pub loop-trace-preserved : goal.loop-trace-preserved
loop-trace-preserved c =
    let l = c.loop-trace in
    let split : l.rest.now ≡ c.in-Some.trace.now ∷ c.in-Some.behind.now = search rules in
    let new : c.in_ok-kinds.kinds ≡ agreed_with l.kinds (join_in c.in-Some.trace.now) = search rules in
    one_more_of l.kinds c.in_ok-kinds.kinds c.in-Some.trace.now l.rest.now c.in-Some.behind.now (all_joins c.args.traces.now) split new l.invariant
