use Rattle.std.proofs.Common.{arith}
use Rattle.sum_code.proofs.Codes.{comes, sum_is_code}
use Rattle.sum_code.proofs.code.sum_below.Goals as goal

pub returns-clause-some : goal.returns-clause-some
returns-clause-some c =
    comes c.sum_with.result
    (rw (c.in_ok-main.ensures, c.in_ok-end.ensures, c.in_ok-child.ensures) at c.sum_with.ensures.none)
    (sum_is_code c.args.count (omega (arith, c.ranges.count)))
