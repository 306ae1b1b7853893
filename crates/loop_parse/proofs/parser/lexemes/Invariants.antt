use Rattle.std.proofs.Common.{◌≡◌, take, drop}
use Rattle.loop_lex.specs.Lexical.{EachIsTokenOf}
use Rattle.loop_parse.specs.Terms.{seen, tokens_of}
use Rattle.loop_parse.proofs.parser.lexemes.Given as goal

abbrev pub invariant-loop-token : goal.invariant-loop-token
invariant-loop-token l = (seen l.source l.lexemes.items ≡ tokens_of l.source (take l.token-index l.tokens)) × EachIsTokenOf l.source (drop l.token-index l.tokens)
