-- Over every list of events from the first configuration of a code that meets the rules, what is
-- kept is sound, and no step goes wrong.
use Rattle.std.proofs.Common.{◌≡◌, ℕ, ◌+◌, ◌*◌, ◌<◌, ◌≤◌, List, length, refl, subst, ⊎_elim, arith}
use Rattle.std.specs.Prelude.{Bool, ◌≢◌}
use Rattle.slices.specs.Holding.{Holding}
use Rattle.tpal_syntax.specs.Conditions.{IsCode}
use Rattle.tpal_syntax.specs.Listing.{Listing}
use Rattle.tpal_machine.specs.declared.ends.Ending.{Ending}
use Rattle.tpal_machine.specs.declared.faults.Fault.{Fault}
use Rattle.tpal_machine.specs.RestState.{RestState}
use Rattle.tpal_machine.specs.State.{State, first_state}
use Rattle.tpal_machine.specs.Step.{Stuck, step}
use Rattle.tpal_machine.proofs.Given.{first_of}
use Rattle.schedule_core.specs.Core as core
use Rattle.schedule_core.specs.Core.{top, AnyFree, CoreStep, first, goes, beats, forks, opens, claims, arrives_left, arrives_right, frees}
use Rattle.schedule_core.specs.Run.{CoreRun, here, on}
use Rattle.schedule_core.specs.Sound.{Sound, SeatOwes, total, saved}
use Rattle.schedule_core.specs.Tasks.{tasks}
use Rattle.schedule_core.proofs.Every.{first_sound, every_run}
use Rattle.schedule_core.proofs.View.{sound_of}
use Rattle.tpal_verify.specs.Breaks.{MeetsRules}
use Rattle.tpal_verify.specs.Rounds.{Shapes}
use Rattle.tpal_verify.specs.Safe.{IsAllowed}
use Rattle.tpal_verify.specs.Fits.{Fits, of_run, fitting}
use Rattle.tpal_verify.proofs.FirstTask.{first_knows, stuck_by}
use Rattle.tpal_verify.proofs.Turning.{lawful}

abbrev Config : Type 0
Config = core.Config State RestState Ending

-- the events of the tasks of a code are those of its tasks that fit
module _ (code : Listing) (A : Shapes) (H N K W : ℕ) where
  same_step : (c d : Config) (v : core.Event) → CoreStep (tasks code H) AnyFree N K W c v d → CoreStep (fitting code A H) AnyFree N K W c v d
  same_step c _ _ (goes w t due u lt q st) = goes w t due u lt q st
  same_step c _ _ (beats w t due u lt q st) = beats w t due u lt q st
  same_step c _ _ (core.ends w t due e lt q st) = core.ends w t due e lt q st
  same_step c _ _ (core.asks w t due f o lt q st choice) = core.asks w t due f o lt q st choice
  same_step c _ _ (forks w t due k l x r lt q st) = forks w t due k l x r lt q st
  same_step c _ _ (opens w k l x r lt lk q) = opens w k l x r lt lk q
  same_step c _ _ (claims w k r x p q lt a b) = claims w k r x p q lt a b
  same_step c _ _ (arrives_left w k e lt a b) = arrives_left w k e lt a b
  same_step c _ _ (arrives_right w k e lt a b) = arrives_right w k e lt a b
  same_step c _ _ (frees w k i r p q both lt a b m) = frees w k i r p q both lt a b m
  same_step c _ _ (core.finishes w e lt a b) = core.finishes w e lt a b

  same_run : (c d : Config) (vs : List core.Event) → CoreRun (tasks code H) AnyFree N K W c vs d → CoreRun (fitting code A H) AnyFree N K W c vs d
  same_run c d vs (here _) = here c
  same_run c d _ (on _ b _ v vs st r) = on c b d v vs (same_step c b v st) (same_run b d vs r)

module _ (code : Listing) (A : Shapes) (meets : MeetsRules code A) (right_code : IsCode code.tables code.blocks) (H N K W fuel : ℕ) (held : List Holding) (some : 0 < W) (room : W * N ≤ top) (sizes : length held ≡ length code.tables) where
  first_fits : Fits code A (first_state held fuel) (of_run fuel held)
  first_fits = record {
    knows = first_knows code A meets right_code held fuel;
    keeps = record { runs = first_of code held fuel right_code sizes; number = refl; tables = tt; limit = refl; ticks = omega arith };
  }

  module _ (c : Config) (vs : List core.Event) (run : CoreRun (tasks code H) AnyFree N K W (first (first_state held fuel)) vs c) where
    pub stays_sound : Sound (fitting code A H) H N K W (of_run fuel held) c
    stays_sound =
        let M = fitting code A H in
        let task = first_state held fuel in
        every_run M H K N W (lawful code A meets right_code H K) room (of_run fuel held) (first task) c vs
        (sound_of M H N K W (of_run fuel held) (first task) (first_sound M H K N W (of_run fuel held) task some refl refl refl first_fits))
        (same_run code A H N K W (first task) c vs run)

    pub tasks_paid : c.instructions ≢ top → c.tasks * H ≤ c.instructions
    tasks_paid below =
        let saves = total W (λ w. saved (fitting code A H) H (c.seats w)) in
        ⊎_elim (λ (le : c.tasks * H + saves ≤ c.instructions). let z : c.tasks * H ≤ c.instructions = omega (arith, le) in z) (λ (q : c.instructions ≡ top). absurd (below q)) stays_sound.counts.paid

    pub no_step_wrong : (w : ℕ) (task : State) (due allowed : Bool) (fault : Fault) → c.seats w ≡ core.running task due → step code H allowed task ≡ Stuck fault → IsAllowed fault
    no_step_wrong w task due allowed fault at stuck =
        let sound = stays_sound in
        let fits : Fits code A task (sound.promise ((fitting code A H).home task)) = subst (λ x. SeatOwes (fitting code A H) sound.promise x) at (sound.owed.seats w) in
        stuck_by code A meets right_code H allowed task fault fits.knows fits.keeps.runs stuck
