use Rattle.std.proofs.Common.{Ok}
use Rattle.std.proofs.lemmas.Result.{err_from_is_err_and}
use Rattle.loop_lex.proofs.Readings.{one_reading, only_cause}
use Rattle.loop_lex.proofs.Spans.{tokens_tell}
use Rattle.loop_lex.proofs.Steps.{read_all}
use Rattle.loop_lex.proofs.lexer.lex.Goals as goal

pub returns-in_err-next-clause-no_other_cause : goal.returns-in_err-next-clause-no_other_cause
returns-in_err-next-clause-no_other_cause c =
    let p = err_from_is_err_and c.from_residual.result c.from_residual.ensures.1 in
    rw (p.1, p.2) (only_cause c.args.source.now c.in_err-next.field-0.0 c.in_err-next.ensures.cause)

pub returns-clause-tokens : goal.returns-clause-tokens
returns-clause-tokens c = read_all c.loop-at.invariant c.loop-at-test.false

pub returns-clause-no_other : goal.returns-clause-no_other
returns-clause-no_other c = λ other z. one_reading c.args.source.now (Ok c.loop-at.tokens.items) other (read_all c.loop-at.invariant c.loop-at-test.false) z

pub returns-clause-each : goal.returns-clause-each
returns-clause-each c = (tokens_tell c.args.source.now c.loop-at.tokens.items (read_all c.loop-at.invariant c.loop-at-test.false)).0

pub returns-clause-in_order : goal.returns-clause-in_order
returns-clause-in_order c = (tokens_tell c.args.source.now c.loop-at.tokens.items (read_all c.loop-at.invariant c.loop-at-test.false)).1
