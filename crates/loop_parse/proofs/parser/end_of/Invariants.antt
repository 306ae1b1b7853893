use Rattle.std.proofs.Common.{◌≡◌, take}
use Rattle.loop_lex.specs.Lexical.{place_of}
use Rattle.loop_parse.proofs.parser.end_of.Given as goal

abbrev pub invariant-loop-byte : goal.invariant-loop-byte
invariant-loop-byte l = l.place ≡ place_of (take l.byte-index l.source)
