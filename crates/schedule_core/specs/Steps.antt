-- The number of instructions after which a solo run is over.
use Rattle.std.specs.Prelude.{◌≡◌, ℕ, zero, suc, Bool, true, false}
use Rattle.tpal_syntax.specs.Listing.{Listing}
use Rattle.tpal_machine.specs.State.{State}
use Rattle.schedule_core.specs.Solo.{Lane, SoloState, Runs, Over, Lost, next, first_lane}
use mathlib.Core.Bool.{Bool-set, true≢false}
use mathlib.Core.HLevel.{Σ_prop_path}
use mathlib.Core.Path.{refl, ap, sym}

abbrev pub is_over : SoloState → Bool
is_over (Runs lane) = false
is_over (Over outcome tally) = true
is_over Lost = false

-- a stage at which a task runs that passes a test
abbrev pub runs_to : (Lane → Bool) → SoloState → Bool
runs_to test (Runs lane) = test lane
runs_to test (Over outcome tally) = false
runs_to test Lost = false

-- a run goes on for so many instructions, and is over with the next one
unfoldable pub is_last : ℕ → Listing → ℕ → ℕ → Lane → Bool
is_last zero code heartbeat forks lane = is_over (next code heartbeat forks lane)
is_last (suc n) code heartbeat forks lane =
    runs_to (is_last n code heartbeat forks) (next code heartbeat forks lane)

-- a solo run from a task comes to its end
abbrev pub ComesToAnEnd : Listing → ℕ → ℕ → State → Type 0
ComesToAnEnd code heartbeat forks task =
    (n : ℕ) × (is_last n code heartbeat forks (first_lane task) ≡ true)

-- ---- it does so after one number of instructions at most

not_both : (stage : SoloState) (test : Lane → Bool)
    → is_over stage ≡ true
    → runs_to test stage ≡ true
    → ⊥
not_both (Runs lane) test ends goes = true≢false (sym ends)
not_both (Over outcome tally) test ends goes = true≢false (sym goes)
not_both Lost test ends goes = true≢false (sym ends)

goes_both : (stage : SoloState) (n m : ℕ) (p q : Lane → Bool)
    → ((lane : Lane) → p lane ≡ true → q lane ≡ true → n ≡ m)
    → runs_to p stage ≡ true
    → runs_to q stage ≡ true
    → suc n ≡ suc m
goes_both (Runs lane) n m p q same a b = ap suc (same lane a b)
goes_both (Over outcome tally) n m p q same a b = absurd (true≢false (sym a))
goes_both Lost n m p q same a b = absurd (true≢false (sym a))

same_number : (n m : ℕ) (code : Listing) (heartbeat forks : ℕ) (lane : Lane)
    → is_last n code heartbeat forks lane ≡ true
    → is_last m code heartbeat forks lane ≡ true
    → n ≡ m
unfolding is_last
same_number zero zero code heartbeat forks lane a b = refl
same_number zero (suc m) code heartbeat forks lane a b =
    absurd (not_both (next code heartbeat forks lane) (is_last m code heartbeat forks) a b)
same_number (suc n) zero code heartbeat forks lane a b =
    absurd (not_both (next code heartbeat forks lane) (is_last n code heartbeat forks) b a)
same_number (suc n) (suc m) code heartbeat forks lane a b =
    goes_both (next code heartbeat forks lane) n m (is_last n code heartbeat forks)
    (is_last m code heartbeat forks) (same_number n m code heartbeat forks) a b

pub ComesToAnEnd-prop : (code : Listing) (heartbeat forks : ℕ) (task : State)
    → IsProp (ComesToAnEnd code heartbeat forks task)
ComesToAnEnd-prop code heartbeat forks task a b =
    Σ_prop_path (λ n. Bool-set (is_last n code heartbeat forks (first_lane task)) true)
    (same_number a.0 b.0 code heartbeat forks (first_lane task) a.1 b.1)
