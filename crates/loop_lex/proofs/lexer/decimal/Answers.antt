use Rattle.std.proofs.Common.{◌+◌, ◌*◌, ◌-◌, drop, get_or, arith}
use Rattle.loop_lex.proofs.Decimals.{decimal_from-grows, decimal_from-drop}
use Rattle.loop_lex.proofs.lexer.decimal.Goals as goal

pub returns-then-value-digit : goal.returns-then-value-digit
returns-then-value-digit c =
    let i = c.loop-byte.byte-index in
    let ds = c.args.digits.now in
    let n = c.loop-byte.value * 10 + (get_or ds i 0 - 48) in
    omega (arith, c.loop-byte.invariant.0, decimal_from-drop c.loop-byte.value i ds c.loop-byte-test.true, decimal_from-grows n (drop (i + 1) ds), c.if-value-digit.true, c.from-digit.ensures)
