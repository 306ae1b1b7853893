-- Configurations of a run of a code that lists of events lead to.
use Rattle.std.specs.Prelude.{ℕ, ◌*◌, ◌≡◌, ◌<◌, ◌≤◌, List, length}
use Rattle.slices.specs.Holding.{Holding}
use Rattle.tpal_syntax.specs.Listing.{Listing}
use Rattle.tpal_machine.specs.State.{first_state}
use Rattle.schedule_core.specs.Core as core
use Rattle.schedule_core.specs.Core.{top, AnyFree, first}
use Rattle.schedule_core.specs.Run.{CoreRun}
use Rattle.schedule_core.specs.Standing.{Standing, stands}
use Rattle.schedule_core.specs.Tasks.{tasks}

-- some list of events leads here from the first configuration of a run
pub record IsLed (code : Listing) (s : Standing) : Type 0 where
  pub held : List Holding
  pub fuel : ℕ
  pub events : List core.Event
  pub sizes : length held ≡ length code.tables
  pub some : 0 < length s.workers
  pub room : length s.workers * s.forks ≤ top
  pub run : CoreRun (tasks code s.heartbeat) AnyFree s.forks (length s.cells) (length s.workers)
      (first (first_state held fuel)) events (stands s)
