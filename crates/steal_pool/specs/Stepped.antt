-- What is said of what a turn came to.
use Rattle.std.specs.Prelude.{◌≡◌, ◌≢◌, ◌⊎◌, ℕ, ◌+◌, ◌-◌, ◌^◌, min, nat_lt, Option}
use Rattle.tpal_machine.specs.Effect.{answered}
use Rattle.tpal_machine.specs.State.{State}
use Rattle.tpal_machine.specs.Turn.{Turned, turn_of}
use Rattle.join_records.specs.declared.table.Taken.{Taken}
use Rattle.join_records.specs.Answers.{NoneFree, Unclaimable}
use Rattle.join_records.specs.Views.{read}
use Rattle.steal_pool.specs.declared.desk.Counts.{Counts}
use Rattle.steal_pool.specs.declared.desk.Work.{Work}
use Rattle.steal_pool.specs.declared.desk.Work.TheVariants as work
use Rattle.steal_pool.specs.declared.turn.Step.{Step}
use Rattle.steal_pool.specs.declared.turn.Step.TheVariants.{Worked, Idle, Again, Over}
use Rattle.steal_pool.specs.Has.{Knows, number_in}
use Rattle.steal_pool.specs.Terms.{Terms}

-- the finish word was read as unset
abbrev pub SeesUnset : Knows → Knows → Type 0
SeesUnset v w = (x : ℕ) × (x ≢ 1) × (w ≡ read v 0 x)

-- a claim was answered with no child
abbrev pub ClaimsNone : Knows → Knows → Type 0
ClaimsNone v w = (record_number : ℕ) × Unclaimable v record_number w

-- a task that asked for a record goes on with the one that was taken, or with none
abbrev pub goes_on : Option Taken → State → Work
goes_on taken waits = work.Runs (answered (number_in taken) waits)

abbrev pub WhereIdle : Step → Type 0 → Type 0
WhereIdle Worked P = Unit {0}
WhereIdle Idle P = P
WhereIdle Again P = Unit {0}
WhereIdle Over P = Unit {0}

abbrev pub WhereAgain : Step → Type 0 → Type 0
WhereAgain Worked P = Unit {0}
WhereAgain Idle P = Unit {0}
WhereAgain Again P = P
WhereAgain Over P = Unit {0}

-- ---- what is counted

-- one question more was answered with none, and then each record was read as not free, each at a
-- step of its own
abbrev pub SkipsFairly : ℕ → Knows → Counts → Knows → Counts → Type 0
SkipsFairly records v c w d =
    (d.skipped ≡ c.skipped) ⊎ ((d.skipped ≡ c.skipped + 1) × NoneFree 0 records v w)

-- the turn that the machine makes of a worker's task: 4,096 instructions at most, and a diversion
-- only while the worker has had fewer than it may have
abbrev pub turn_in : Terms → Counts → State → Turned
turn_in terms c task = turn_of 4096 terms.code terms.heartbeat (nat_lt c.beats terms.forks) task

-- the diversions and the instructions of that turn were counted, no more and no less; the
-- instructions stay at their type's end
pub record CountsTask (terms : Terms) (task : State) (c d : Counts) : Type 0 where
  pub beats : d.beats ≡ c.beats + (turn_in terms c task).beats
  pub instructions : d.instructions
      ≡ min (c.instructions + (turn_in terms c task).steps) (2 ^ 64 - 1)

abbrev pub UnlessLost : Work → Type 0 → Type 0
UnlessLost work.Nothing P = P
UnlessLost (work.Runs task) P = P
UnlessLost (work.Ended e) P = P
UnlessLost (work.Finished outcome) P = P
UnlessLost work.Saw P = P
UnlessLost work.Lost P = Unit {0}

-- what a worker with this to do counts in a turn
abbrev pub CountsTurn : Terms → Work → Counts → Work → Counts → Type 0
CountsTurn terms work.Nothing c after d = d ≡ c
CountsTurn terms (work.Runs task) c after d = UnlessLost after (CountsTask terms task c d)
CountsTurn terms (work.Ended e) c after d = d ≡ c
CountsTurn terms (work.Finished outcome) c after d = d ≡ c
CountsTurn terms work.Saw c after d = d ≡ c
CountsTurn terms work.Lost c after d = d ≡ c
