use Rattle.std.proofs.Common.{◌-◌, length}
use Rattle.loop_lex.specs.Lexical.{IsReadTo}
use Rattle.loop_lex.proofs.lexer.lex.Given as goal

abbrev pub invariant-loop-at : goal.invariant-loop-at
invariant-loop-at l = IsReadTo l.source l.at l.place l.tokens.items

abbrev pub decreases-loop-at : goal.decreases-loop-at
decreases-loop-at l = length l.source - l.at
