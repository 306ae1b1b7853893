use Rattle.std.proofs.Common.{◌≡◌, ◌≤◌, drop}
use Rattle.loop_lex.specs.Lexical.{decimal, decimal_from, greatest}
use Rattle.loop_lex.proofs.lexer.decimal.Given as goal

abbrev pub invariant-loop-byte : goal.invariant-loop-byte
invariant-loop-byte l = (decimal l.digits ≡ decimal_from l.value (drop l.byte-index l.digits)) × (l.value ≤ greatest)
