-- A turn of at most as many instructions as the heartbeat diverts as the solo run does: a second
-- diversion can't be due in it.
use Rattle.std.proofs.Common.{◌≡◌, ℕ, zero, suc, ◌+◌, ◌<◌, ◌≤◌, ◌⊎◌, inl, inr, Bool, false}
use Rattle.std.proofs.Common.{List, refl, ap, sym, subst, arith}
use Rattle.std.specs.Prelude.{nat_lt}
use Rattle.tpal_syntax.specs.Listing.{Listing}
use Rattle.tpal_machine.specs.State.{State}
use Rattle.tpal_machine.specs.Step.{Step, Goes, Beats, Ends, Asks, Forks, Stuck, Strays, step}
use Rattle.tpal_machine.specs.Turn.{Turned, Pauses, turn_from, turn_of, went_on, ends_here}
use Rattle.schedule_core.specs.declared.lanes.Opened.{Opened}
use Rattle.schedule_core.specs.declared.lanes.Tally.{Tally}
use Rattle.schedule_core.specs.Lanes.{IsTally}
use Rattle.schedule_core.specs.Solo.{Lane, more, turned}
use Rattle.schedule_core.proofs.Turning.{turned_twice, turned_none}
use Rattle.tpal_verify.proofs.Counting.{Counted, step_counted, any_allowed}

-- a step by which a task doesn't go on
abbrev pub IsLast : Step → Type 0
IsLast (Goes after) = ⊥
IsLast (Beats diverted) = ⊥
IsLast (Ends e) = Unit {0}
IsLast (Asks waits) = Unit {0}
IsLast (Forks parts) = Unit {0}
IsLast (Stuck fault) = Unit {0}
IsLast Strays = Unit {0}

-- a turn that ends by such a step, after so many steps and beats
abbrev pub last_turn : Step → ℕ → ℕ → State → Turned
last_turn one steps beats task =
    went_on one steps beats task (λ after. ends_here steps beats (Pauses after)) (λ after. ends_here steps beats (Pauses after))

module _ (code : Listing) (heartbeat forks : ℕ) (opened : List Opened) (tally : Tally) where
  -- the solo run after so many steps and beats of a turn
  abbrev pub lane_at : ℕ → ℕ → State → Lane
  lane_at steps beats task = record { task = task; opened = opened; tally = turned steps beats tally }

  -- its next step
  abbrev pub next_step : ℕ → State → Step
  next_step beats task = step code heartbeat (nat_lt (more tally.beats beats) forks) task

  -- How a turn of at most n steps ends: they are used up, or the task doesn't go on by the next one.
  pub data Way (n : ℕ) (t : Turned) (steps beats : ℕ) (task : State) : Type 0 where
    paused : steps ≡ n → t ≡ ends_here steps beats (Pauses task) → Way n t steps beats task
    leaves : (one : Step)
        → steps < n
        → next_step beats task ≡ one
        → IsLast one
        → t ≡ last_turn one steps beats task
        → Way n t steps beats task

  -- a turn of at most n steps, by steps of the solo run, at each of which P holds
  pub record Turning (P : ℕ → Lane → Type 0) (n : ℕ) (t : Turned) : Type 0 where
    pub steps : ℕ
    pub beats : ℕ
    pub task : State
    pub holds : P steps (lane_at steps beats task)
    pub way : Way n t steps beats task

  module _ (P : ℕ → Lane → Type 0) (n : ℕ) (short : n ≤ heartbeat) (goes : (k b : ℕ) (task after : State) → k < n → P k (lane_at k b task) → next_step b task ≡ Goes after → P (suc k) (record { task = after; opened = opened; tally = turned 1 0 (turned k b tally) })) (diverts : (k b : ℕ) (task after : State) → k < n → P k (lane_at k b task) → next_step b task ≡ Beats after → P (suc k) (record { task = after; opened = opened; tally = turned 1 1 (turned k b tally) })) where
    -- before a beat a diversion is allowed as in the solo run, and after it none can be due
    abbrev Free : Bool → ℕ → ℕ → State → Type 0
    Free allowed m b task = (allowed ≡ nat_lt (more tally.beats b) forks) ⊎ (task.beat.count + m < heartbeat)

    abbrev Turns : ℕ → Type 0
    Turns m = (k b : ℕ) (allowed : Bool) (task : State) → k + m ≡ n → Free allowed m b task → P k (lane_at k b task) → Turning P n (turn_from m code heartbeat allowed k b task)

    same_step : (m b : ℕ) (allowed : Bool) (task : State) → Free allowed (suc m) b task → next_step b task ≡ step code heartbeat allowed task
    same_step m b allowed task (inl same) = ap (λ a. step code heartbeat a task) (sym same)
    same_step m b allowed task (inr few) = any_allowed code heartbeat (nat_lt (more tally.beats b) forks) allowed task (omega (arith, few))

    still_free : (m b : ℕ) (allowed : Bool) (task after : State) → after.beat.count ≤ task.beat.count + 1 → Free allowed (suc m) b task → Free allowed m b after
    still_free m b allowed task after count (inl same) = inl same
    still_free m b allowed task after count (inr few) = inr (omega (arith, few, count))

    free_after : (m b k : ℕ) (allowed : Bool) (task after : State) → k + suc m ≡ n → after.beat.count ≡ 0 → heartbeat ≤ task.beat.count + 1 → Free allowed (suc m) b task → Free false m (b + 1) after
    free_after m b k allowed task after sum none full (inl same) = inr (omega (arith, sum, none, short))
    free_after m b k allowed task after sum none full (inr few) = absurd (omega (arith, full, few))

    moved : (k b l d : ℕ) (task : State) → turned l d (turned k b tally) ≡ turned (k + l) (b + d) tally → P (suc k) (record { task = task; opened = opened; tally = turned l d (turned k b tally) }) → k + l ≡ suc k → P (k + l) (lane_at (k + l) (b + d) task)
    moved k b l d task same holds one =
        subst (λ (j : ℕ). P j (lane_at (k + l) (b + d) task)) (sym one)
        (subst (λ (y : Tally). P (suc k) (record { task = task; opened = opened; tally = y })) same holds)

    by_step : (m : ℕ) → Turns m → (k b : ℕ) (allowed : Bool) (task : State) → k + suc m ≡ n → Free allowed (suc m) b task → P k (lane_at k b task) → (one : Step) → next_step b task ≡ one → Counted heartbeat allowed (task.beat.count + 1) one →
        Turning P n (went_on one k b task (λ after. turn_from m code heartbeat allowed (k + 1) b after) (λ after. turn_from m code heartbeat false (k + 1) (b + 1) after))
    by_step m each k b allowed task sum free holds (Goes after) is count =
        let none : b + 0 ≡ b = omega arith in
        each (k + 1) b allowed after (omega (arith, sum)) (still_free m b allowed task after count free)
        (subst (λ (c : ℕ). P (k + 1) (lane_at (k + 1) c after)) none
        (moved k b 1 0 after (turned_twice k b 1 0 tally) (goes k b task after (omega (arith, sum)) holds is) (omega arith)))
    by_step m each k b allowed task sum free holds (Beats after) is count =
        each (k + 1) (b + 1) false after (omega (arith, sum)) (free_after m b k allowed task after sum count.0 count.1 free)
        (moved k b 1 1 after (turned_twice k b 1 1 tally) (diverts k b task after (omega (arith, sum)) holds is) (omega arith))
    by_step m each k b allowed task sum free holds (Ends e) is count = record { steps = k; beats = b; task = task; holds = holds; way = leaves (Ends e) (omega (arith, sum)) is tt refl }
    by_step m each k b allowed task sum free holds (Asks waits) is count = record { steps = k; beats = b; task = task; holds = holds; way = leaves (Asks waits) (omega (arith, sum)) is tt refl }
    by_step m each k b allowed task sum free holds (Forks parts) is count = record { steps = k; beats = b; task = task; holds = holds; way = leaves (Forks parts) (omega (arith, sum)) is tt refl }
    by_step m each k b allowed task sum free holds (Stuck fault) is count = record { steps = k; beats = b; task = task; holds = holds; way = leaves (Stuck fault) (omega (arith, sum)) is tt refl }
    by_step m each k b allowed task sum free holds Strays is count = record { steps = k; beats = b; task = task; holds = holds; way = leaves Strays (omega (arith, sum)) is tt refl }

    turns : (m : ℕ) → Turns m
    unfolding turn_from
    turns zero k b allowed task sum free holds = record { steps = k; beats = b; task = task; holds = holds; way = paused (omega (arith, sum)) refl }
    turns (suc m) k b allowed task sum free holds =
        by_step m (turns m) k b allowed task sum free holds (step code heartbeat allowed task) (same_step m b allowed task free) (step_counted code heartbeat allowed task)

    -- a turn from a task at which P holds
    pub turning : (task : State) → IsTally tally → P 0 (record { task = task; opened = opened; tally = tally }) → Turning P n (turn_of n code heartbeat (nat_lt tally.beats forks) task)
    turning task small holds =
        let none = turned_none tally small in
        turns n 0 0 (nat_lt tally.beats forks) task (omega arith)
        (inl (ap (λ (y : Tally). nat_lt y.beats forks) (sym none)))
        (subst (λ (y : Tally). P 0 (record { task = task; opened = opened; tally = y })) (sym none) holds)
