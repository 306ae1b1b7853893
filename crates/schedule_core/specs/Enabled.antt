-- Which events are enabled.
use Rattle.std.specs.Prelude.{ℕ, ◌≡◌, ◌≢◌, ◌<◌, Some, None}
use Rattle.schedule_core.specs.Machine.{root, CoreMachine}
use Rattle.schedule_core.specs.Core.{Seat, resting, running, forked, ended, holding, Cell, free}
use Rattle.schedule_core.specs.Core.{taken, opened, met, Config, Event, Step, Open, Claim, Arrive}
use Rattle.schedule_core.specs.Core.{Free, Finish}

module _ {Task Rest Ending : Type 0} where
  -- a worker runs a task
  abbrev pub Runs : Seat Task Rest Ending → Type 0
  Runs resting = ⊥
  Runs (running task due) = Unit {0}
  Runs (forked k on child rest) = ⊥
  Runs (ended e) = ⊥
  Runs (holding k) = ⊥

  -- a worker's task has just forked under one of K records
  abbrev pub HasForked : ℕ → Seat Task Rest Ending → Type 0
  HasForked K resting = ⊥
  HasForked K (running task due) = ⊥
  HasForked K (forked k on child rest) = k < K
  HasForked K (ended e) = ⊥
  HasForked K (holding k) = ⊥

  -- a worker has nothing
  abbrev pub Rests : Seat Task Rest Ending → Type 0
  Rests resting = Unit {0}
  Rests (running task due) = ⊥
  Rests (forked k on child rest) = ⊥
  Rests (ended e) = ⊥
  Rests (holding k) = ⊥

  -- a worker's task ended, with an ending of which this holds
  abbrev pub HasEnded : (Ending → Type 0) → Seat Task Rest Ending → Type 0
  HasEnded P resting = ⊥
  HasEnded P (running task due) = ⊥
  HasEnded P (forked k on child rest) = ⊥
  HasEnded P (ended e) = P e
  HasEnded P (holding k) = ⊥

  -- a record is open, and no worker has claimed its child
  abbrev pub IsUnclaimed : Cell Task Rest Ending → Type 0
  IsUnclaimed free = ⊥
  IsUnclaimed (taken w) = ⊥
  IsUnclaimed (opened rest None p q) = ⊥
  IsUnclaimed (opened rest (Some child) p q) = Unit {0}
  IsUnclaimed (met w rest p q) = ⊥

  -- both sides have met a record, and of its rest and its sides this holds
  abbrev pub MetWith : (Rest → Ending → Ending → Type 0) → Cell Task Rest Ending → Type 0
  MetWith P free = ⊥
  MetWith P (taken w) = ⊥
  MetWith P (opened rest child p q) = ⊥
  MetWith P (met w rest p q) = P rest p q

  -- a worker has met a record, of whose rest and sides this holds
  abbrev pub HasMet : (Rest → Ending → Ending → Type 0)
      → (ℕ → Cell Task Rest Ending)
      → Seat Task Rest Ending
      → Type 0
  HasMet P cells resting = ⊥
  HasMet P cells (running task due) = ⊥
  HasMet P cells (forked k on child rest) = ⊥
  HasMet P cells (ended e) = ⊥
  HasMet P cells (holding k) = MetWith P (cells k)

-- the event can happen, among W workers and K records
abbrev pub Enabled : {Task Rest Ending : Type 0} → CoreMachine Task Rest Ending → ℕ → ℕ
    → Config Task Rest Ending → Event → Type 0
Enabled M K W c (Step w) = (w < W) × Runs (c.seats w)
Enabled M K W c (Open w) = (w < W) × HasForked K (c.seats w)
Enabled M K W c (Claim w k) = (w < W) × Rests (c.seats w) × IsUnclaimed (c.cells k)
Enabled M K W c (Arrive w) = (w < W) × HasEnded (λ e. M.end_of e ≢ root) (c.seats w)
Enabled M K W c (Free w) = (w < W) × HasMet (λ rest p q. Unit {0}) c.cells (c.seats w)
Enabled M K W c (Finish w) = (w < W) × HasEnded (λ e. M.end_of e ≡ root) (c.seats w)
