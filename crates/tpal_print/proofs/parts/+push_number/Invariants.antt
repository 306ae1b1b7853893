use Rattle.tpal_print.proofs.parts.+push_number.Given as goal

-- each call has one digit less
abbrev pub decreases-push_number : goal.decreases-push_number
decreases-push_number l = l.n
