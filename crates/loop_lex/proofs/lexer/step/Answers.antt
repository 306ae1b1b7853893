use Rattle.std.proofs.Common.{length, ap, length-drop, arith}
use Rattle.loop_lex.proofs.Steps.{bounds_so_far, step_blank, step_comment, step_token, step_bad}
use Rattle.loop_lex.proofs.Steps.{step_large, piece_some, comment_some}
use Rattle.loop_lex.proofs.lexer.step.Goals as goal

pub place_behind-requires-clause-line : goal.place_behind-requires-clause-line
place_behind-requires-clause-line c = omega (arith, (bounds_so_far c.requires.so_far).0, c.requires.some, c.requires.small)

pub place_behind-requires-clause-col : goal.place_behind-requires-clause-col
place_behind-requires-clause-col c = omega (arith, (bounds_so_far c.requires.so_far).1, c.requires.some, c.requires.small)

pub place_right-requires : goal.place_right-requires
place_right-requires c =
    omega (arith, (bounds_so_far c.requires.so_far).1, c.requires.some, c.requires.small, (comment_some c.in-Comment.ensures).1, ap length c.rest_of-text.ensures, length-drop c.args.at c.args.source.now)

pub place_right-requires-in-Token : goal.place_right-requires-in-Token
place_right-requires-in-Token c =
    omega (arith, (bounds_so_far c.requires.so_far).1, c.requires.some, c.requires.small, (piece_some c.in-Token.ensures).1, ap length c.rest_of-text.ensures, length-drop c.args.at c.args.source.now)

pub returns-in-Blank-clause-reads : goal.returns-in-Blank-clause-reads
returns-in-Blank-clause-reads c = step_blank c.rest_of-text.result.now c.place_behind.result c.requires.so_far c.rest_of-text.ensures c.in-Blank.ensures c.place_behind.ensures

pub returns-in-Comment-clause-reads : goal.returns-in-Comment-clause-reads
returns-in-Comment-clause-reads c = step_comment c.rest_of-text.result.now c.in-Comment.length c.place_right.result c.requires.so_far c.rest_of-text.ensures c.in-Comment.ensures c.place_right.ensures

pub returns-in_ok-push_token-in-Token-clause-reads : goal.returns-in_ok-push_token-in-Token-clause-reads
returns-in_ok-push_token-in-Token-clause-reads c =
    step_token c.rest_of-text.result.now c.in-Token.length c.in-Token.kind c.place_right-in-Token.result c.requires.so_far c.rest_of-text.ensures c.in-Token.ensures c.in_ok-push_token-in-Token.ensures.pushed c.place_right-in-Token.ensures

pub returns-in_ok-push_token-in-Token-clause-further : goal.returns-in_ok-push_token-in-Token-clause-further
returns-in_ok-push_token-in-Token-clause-further c = omega (arith, (piece_some c.in-Token.ensures).0)

pub returns-in-Bad-clause-cause : goal.returns-in-Bad-clause-cause
returns-in-Bad-clause-cause c = step_bad c.rest_of-text.result.now c.requires.so_far c.rest_of-text.ensures c.in-Bad.ensures

pub returns-in-TooLarge-clause-cause : goal.returns-in-TooLarge-clause-cause
returns-in-TooLarge-clause-cause c = step_large c.rest_of-text.result.now c.requires.so_far c.rest_of-text.ensures c.in-TooLarge.ensures
