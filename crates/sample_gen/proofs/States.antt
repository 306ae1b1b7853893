-- States after some steps.
use Rattle.std.proofs.Common.{◌≡◌, ℕ, zero, suc, ◌+◌, ap, refl, add-zero, add-suc, add-one}
use Rattle.sample_gen.specs.Cells.{next_state, state_after}

pub after_one_more : (seed steps : ℕ) →
    state_after seed (steps + 1) ≡ next_state (state_after seed steps)
unfolding state_after
after_one_more seed steps = rw add-one refl

pub after_both : (seed first more : ℕ) →
    state_after (state_after seed first) more ≡ state_after seed (first + more)
unfolding state_after
after_both seed first zero = rw add-zero refl
after_both seed first (suc more) = rw (add-suc first more) (ap next_state (after_both seed first more))
