use Rattle.std.proofs.Common.{subst, sym}
use Rattle.tpal_verify.specs.Breaks.{Accepted}
use Rattle.tpal_verify.proofs.exec.exec_run.Goals as goal

pub run_turns-requires-clause-accepted : goal.run_turns-requires-clause-accepted
run_turns-requires-clause-accepted c = subst Accepted (sym c.code-code.ensures.code) c.code-code.ensures.accepted
