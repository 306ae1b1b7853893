-- What the workers of a run come to together.
use Rattle.std.specs.Prelude.{◌≡◌, ℕ, ◌+◌, ◌-◌, ◌*◌, ◌^◌, ◌<◌, ◌≤◌, min, List, length, Option}
use Rattle.std.specs.Prelude.{None, Some}
use Rattle.tp_value.specs.declared.values.Outcome.{Outcome}
use Rattle.tpal_machine.specs.declared.ends.Ending.{Ending}
use Rattle.tpal_machine.specs.declared.ends.Ending.TheVariants as ending
use Rattle.tpal_machine.specs.State.{State}
use Rattle.join_records.specs.declared.load.Load.{Ghosts}
use Rattle.join_records.specs.declared.table.Pass.{Pass}
use Rattle.join_records.specs.Passes.{made_in, opens_in, saw_in}
use Rattle.join_records.specs.Views.{total}
use Rattle.steal_pool.specs.declared.desk.Counts.{Counts}
use Rattle.steal_pool.specs.declared.desk.Work.{Work}
use Rattle.steal_pool.specs.declared.desk.Work.TheVariants as work
use Rattle.steal_pool.specs.Facts.{Owed}
use Rattle.steal_pool.specs.Terms.{Terms}

-- the counts of a worker that has yet to begin
abbrev pub no_counts : Counts
no_counts = record { beats = 0; skipped = 0; instructions = 0 }

-- a worker has ended: it made the finish, or saw it made
abbrev pub IsOver : Work → Type 0
IsOver work.Nothing = ⊥
IsOver (work.Runs task) = ⊥
IsOver (work.Ended e) = ⊥
IsOver (work.Finished outcome) = Unit {0}
IsOver work.Saw = Unit {0}
IsOver work.Lost = ⊥

-- the counts of all workers added up. The instructions stay at their type's end
pub record AreSums {A : Type 0} (counts : A → Counts) (workers : List A)
    (beats skipped instructions : ℕ) : Type 0 where
  pub beats_is : beats ≡ total (λ w. (counts w).beats) workers
  pub skipped_is : skipped ≡ total (λ w. (counts w).skipped) workers
  pub instructions_is : instructions
      ≡ min (total (λ w. (counts w).instructions) workers) (2 ^ 64 - 1)

-- the outcome of those before and of one worker that has ended
abbrev pub IsOutcomeWith : Work → Option Outcome → Option Outcome → Type 0
IsOutcomeWith (work.Finished outcome) before out = out ≡ Some outcome
IsOutcomeWith work.Saw before out = out ≡ before
IsOutcomeWith work.Nothing before out = ⊥
IsOutcomeWith (work.Runs task) before out = ⊥
IsOutcomeWith (work.Ended e) before out = ⊥
IsOutcomeWith work.Lost before out = ⊥

module _ {L R D : Type 0} {G : Ghosts L R State D Ending} where
  -- of the passes of workers that have ended: an outcome is what the first task owes, and one of
  -- them made the finish; without one none did, and each of them saw it
  abbrev pub Gathered : Terms → Option Outcome → List (Pass L R State D Ending G) → Type 0
  Gathered terms None ps = (made_in ps ≡ 0) × (0 < length ps → 0 < saw_in ps)
  Gathered terms (Some outcome) ps =
      Owed terms.code terms.heartbeat terms.first (ending.Root outcome) × (0 < made_in ps)

  -- each beat opened a record or was skipped, and what was opened is paid by instructions
  pub record Adds (terms : Terms) (beats skipped instructions : ℕ)
      (ps : List (Pass L R State D Ending G)) : Type 0 where
    pub all : opens_in ps + skipped ≡ beats
    pub few : beats ≤ terms.forks * length ps
    pub paid : opens_in ps * terms.heartbeat ≤ instructions
