use Rattle.sum_code.proofs.Codes.{comes, kept_is_code}
use Rattle.sum_code.proofs.wrong.with_kept_sum.Goals as goal

pub returns-clause-some : goal.returns-clause-some
returns-clause-some c =
    comes c.sum_with.result
    (rw (c.in_ok-main.ensures, c.in_ok-end.ensures, c.in_ok-child.ensures) at c.sum_with.ensures.none)
    kept_is_code
