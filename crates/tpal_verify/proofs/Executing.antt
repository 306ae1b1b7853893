-- What a turn of accepted code's run by one worker comes to, and what is told of the run from there.
use Rattle.std.proofs.Common.{◌≡◌, ℕ, zero, suc, ◌+◌, ◌-◌, ◌<◌, ◌≤◌, Option, None}
use Rattle.std.proofs.Common.{Some, List, [], refl, ap, sym, subst, ◌∙◌, arith}
use Rattle.std.specs.Prelude.{nat_lt}
use Rattle.tp_value.specs.declared.values.Outcome.{Outcome}
use Rattle.tpal_syntax.specs.Listing.{Listing}
use Rattle.tpal_machine.specs.declared.ends.Ending.TheVariants as ending
use Rattle.tpal_machine.specs.declared.faults.Fault.{Fault}
use Rattle.tpal_machine.specs.declared.turn.Ran.{Ran}
use Rattle.tpal_machine.specs.declared.turn.Turn.{Turn}
use Rattle.tpal_machine.specs.declared.turn.Turn.TheVariants as turn
use Rattle.tpal_machine.specs.declared.ends.Goal.TheVariants as goal
use Rattle.tpal_machine.specs.Answer.{IsRan, IsTurn, HadMemory}
use Rattle.tpal_machine.specs.Belonging.{RunsOn}
use Rattle.tpal_machine.specs.Keeping.{TurnKeeps}
use Rattle.tpal_machine.specs.State.{State}
use Rattle.tpal_machine.specs.Step.{Step, Goes, Beats, Ends, Asks, Forks, Stuck, Strays, step}
use Rattle.tpal_machine.specs.Turn.{Stopped, Turned, Pauses, Waits, Parts, Comes, Sticks, turn_of}
use Rattle.tpal_machine.proofs.Keeping.{turn_keeps}
use Rattle.schedule_core.specs.declared.lanes.Opened.{Opened}
use Rattle.schedule_core.specs.declared.lanes.Tally.{Tally}
use Rattle.schedule_core.specs.Lanes.{IsTally, TurnFits, after_stopped, after_turn}
use Rattle.schedule_core.specs.Core as core
use Rattle.schedule_core.specs.Run as running
use Rattle.schedule_core.specs.Solo.{Lane, SoloState, Runs, Over, Lost, after_step, turned, more}
use Rattle.schedule_core.specs.Solo.{first_lane}
use Rattle.schedule_core.proofs.Reaching.{stands_first}
use Rattle.schedule_core.proofs.Turning.{StoppedFits, turn_fits, turned_twice}
use Rattle.tpal_verify.specs.declared.report.ExecEnd.TheVariants as how
use Rattle.tpal_verify.specs.declared.report.ExecReport.{ExecReport}
use Rattle.tpal_verify.specs.Exec.{exec_from, on_step, report_of, stuck_at}
use Rattle.tpal_verify.proofs.Budgets.{IsLast, Way, lane_at, next_step, last_turn, turning}
use Rattle.tpal_verify.proofs.Budgets.{paused, leaves}
use Rattle.tpal_verify.proofs.Reached.{IsSafeFrom, IsTaken, Reached, StepArrives, strays_not, runs_on}
use Rattle.tpal_verify.proofs.Reached.{step_arrives, step_reached}

-- ---- one instruction

module _ (code : Listing) (heartbeat forks : ℕ) where
  taken_on : (lane : Lane) (go : SoloState → Option ExecReport) (one : Step) → IsTaken one → on_step code lane go one ≡ go (after_step code one lane.opened lane.tally)
  taken_on lane go (Goes after) taken = refl
  taken_on lane go (Beats after) taken = refl
  taken_on lane go (Ends e) taken = refl
  taken_on lane go (Asks waits) taken = refl
  taken_on lane go (Forks parts) taken = refl
  taken_on lane go (Stuck fault) taken = absurd taken
  taken_on lane go Strays taken = absurd taken

  -- a run goes on by an instruction that is executed
  pub exec_on : (left : ℕ) (lane : Lane) (one : Step) → step code heartbeat (nat_lt lane.tally.beats forks) lane.task ≡ one → IsTaken one → exec_from (suc left) code heartbeat forks (Runs lane) ≡ exec_from left code heartbeat forks (after_step code one lane.opened lane.tally)
  unfolding exec_from
  exec_on left lane one is taken =
      ap (on_step code lane (λ next. exec_from left code heartbeat forks next)) is
      ∙ taken_on lane (λ next. exec_from left code heartbeat forks next) one taken

  -- it is told where it is stuck
  pub exec_stuck : (left : ℕ) (lane : Lane) (fault : Fault) → step code heartbeat (nat_lt lane.tally.beats forks) lane.task ≡ Stuck fault → exec_from (suc left) code heartbeat forks (Runs lane) ≡ Some (stuck_at fault lane)
  unfolding exec_from
  exec_stuck left lane fault is = ap (on_step code lane (λ next. exec_from left code heartbeat forks next)) is

  -- where it is over
  pub exec_over : (left : ℕ) (outcome : Outcome) (tally : Tally) → exec_from left code heartbeat forks (Over outcome tally) ≡ Some (report_of (how.Ended outcome) tally)
  unfolding exec_from
  exec_over zero outcome tally = refl
  exec_over (suc left) outcome tally = refl

  -- and where nothing is left to it
  pub exec_spent : (lane : Lane) → exec_from 0 code heartbeat forks (Runs lane) ≡ Some (report_of how.Spent lane.tally)
  unfolding exec_from
  exec_spent lane = refl

-- ---- one turn

-- a turn that isn't stuck
abbrev pub IsNotStuck : Turn → Type 0
IsNotStuck u = (fault : Fault) (block place : ℕ) → u ≡ turn.Stuck fault block place → ⊥

module _ (code : Listing) (heartbeat forks : ℕ) (first : State) (safe : IsSafeFrom code heartbeat forks first) where
  -- a run that is told as a stage is, with so many instructions left, is told so from a later stage on
  abbrev pub ToldAs : ℕ → Lane → ℕ → SoloState → Type 0
  ToldAs left lane more_left stage = exec_from left code heartbeat forks (Runs lane) ≡ exec_from more_left code heartbeat forks stage

  module _ (opened : List Opened) (tally : Tally) (start : Lane) (n left : ℕ) (some : 1 ≤ n) (enough : n ≤ left) where
    -- how a turn ends: with a stage of the run, or where it is stuck
    pub record GoesOn (steps : ℕ) (stopped : Stopped) (stage : SoloState) : Type 0 where
      pub fits : StoppedFits code stopped opened
      pub some_steps : 1 ≤ steps
      pub few_steps : steps ≤ n
      pub reached : Reached code heartbeat forks first safe stage
      pub told : (later : ℕ) → left ≡ steps + later → ToldAs left start later stage

    abbrev pub EndsSo : Stopped → ℕ → ℕ → Type 0
    EndsSo (Pauses task) steps beats = GoesOn steps (Pauses task) (after_stopped code (Pauses task) opened (turned steps beats tally))
    EndsSo (Waits task) steps beats = GoesOn steps (Waits task) (after_stopped code (Waits task) opened (turned steps beats tally))
    EndsSo (Parts parts) steps beats = GoesOn steps (Parts parts) (after_stopped code (Parts parts) opened (turned steps beats tally))
    EndsSo (Comes e) steps beats = GoesOn steps (Comes e) (after_stopped code (Comes e) opened (turned steps beats tally))
    EndsSo (Sticks fault block at) steps beats = exec_from left code heartbeat forks (Runs start) ≡ Some (report_of (how.Stuck fault block at) (turned steps beats tally))

    -- what holds after so many steps of the turn
    pub record Along (steps : ℕ) (lane : Lane) : Type 0 where
      pub reached : Reached code heartbeat forks first safe (Runs lane)
      pub told : (later : ℕ) → left ≡ steps + later → ToldAs left start later (Runs lane)

    abbrev There : ℕ → ℕ → State → Lane
    There steps beats task = lane_at code heartbeat forks opened tally steps beats task

    -- one step more
    along_on : (k : ℕ) (lane : Lane) (one : Step) → k < n → Along k lane → step code heartbeat (nat_lt lane.tally.beats forks) lane.task ≡ one → IsTaken one → (later : ℕ) → left ≡ suc k + later → ToldAs left start later (after_step code one lane.opened lane.tally)
    along_on k lane one few at is taken later sum =
        at.told (suc later) (omega (arith, sum)) ∙ exec_on code heartbeat forks later lane one is taken

    along_goes : (k b : ℕ) (task after : State) → k < n → Along k (There k b task) → next_step code heartbeat forks opened tally b task ≡ Goes after → Along (suc k) (record { task = after; opened = opened; tally = turned 1 0 (turned k b tally) })
    along_goes k b task after few at is = record {
      reached = step_reached code heartbeat forks first safe (There k b task) at.reached (Goes after) is tt;
      told = λ later sum. along_on k (There k b task) (Goes after) few at is tt later sum;
    }

    along_beats : (k b : ℕ) (task after : State) → k < n → Along k (There k b task) → next_step code heartbeat forks opened tally b task ≡ Beats after → Along (suc k) (record { task = after; opened = opened; tally = turned 1 1 (turned k b tally) })
    along_beats k b task after few at is = record {
      reached = step_reached code heartbeat forks first safe (There k b task) at.reached (Beats after) is tt;
      told = λ later sum. along_on k (There k b task) (Beats after) few at is tt later sum;
    }

    one_more : (k b : ℕ) → turned 1 0 (turned k b tally) ≡ turned (k + 1) b tally
    one_more k b = let none : b + 0 ≡ b = omega arith in turned_twice k b 1 0 tally ∙ ap (λ (c : ℕ). turned (k + 1) c tally) none

    -- the last step of a turn, by which the task doesn't go on
    last_step : (k b : ℕ) (task : State) (one : Step) (stopped : Stopped) (stage : Tally → SoloState) → k < n → Along k (There k b task) → next_step code heartbeat forks opened tally b task ≡ one → IsTaken one → after_step code one opened (turned k b tally) ≡ stage (turned 1 0 (turned k b tally)) → StoppedFits code stopped opened → GoesOn (k + 1) stopped (stage (turned (k + 1) b tally))
    last_step k b task one stopped stage few at is taken same fits = record {
      fits = fits;
      some_steps = omega arith;
      few_steps = omega (arith, few);
      reached = subst (λ s. Reached code heartbeat forks first safe s) whole (step_reached code heartbeat forks first safe (There k b task) at.reached one is taken);
      told = λ later sum. along_on k (There k b task) one few at is taken later (omega (arith, sum)) ∙ ap (λ s. exec_from later code heartbeat forks s) whole;
    }
      where
        whole : after_step code one opened (turned k b tally) ≡ stage (turned (k + 1) b tally)
        whole = same ∙ ap stage (one_more k b)

    by_last : (k b : ℕ) (task : State) (one : Step) → k < n → Along k (There k b task) → next_step code heartbeat forks opened tally b task ≡ one → IsLast one → StepArrives code opened one → EndsSo (last_turn one k b task).stopped (last_turn one k b task).steps (last_turn one k b task).beats
    by_last k b task (Goes after) few at is last can = absurd last
    by_last k b task (Beats after) few at is last can = absurd last
    by_last k b task (Ends e) few at is last can = last_step k b task (Ends e) (Comes e) (λ y. after_stopped code (Comes e) opened y) few at is tt refl can
    by_last k b task (Asks waits) few at is last can = last_step k b task (Asks waits) (Waits waits) (λ y. after_stopped code (Waits waits) opened y) few at is tt refl tt
    by_last k b task (Forks parts) few at is last can = last_step k b task (Forks parts) (Parts parts) (λ y. after_stopped code (Parts parts) opened y) few at is tt refl tt
    by_last k b task (Stuck fault) few at is last can =
        let sum : left ≡ k + suc (left - suc k) = omega (arith, few, enough) in
        at.told (suc (left - suc k)) sum ∙ exec_stuck code heartbeat forks (left - suc k) (There k b task) fault is
    by_last k b task Strays few at is last can = absurd (strays_not code heartbeat forks first safe (nat_lt (more tally.beats b) forks) (There k b task) at.reached is)

    by_way : (t : Turned) (k b : ℕ) (task : State) → Along k (There k b task) → Way code heartbeat forks opened tally n t k b task → EndsSo t.stopped t.steps t.beats
    by_way t k b task at (paused all is) =
        subst (λ (u : Turned). EndsSo u.stopped u.steps u.beats) (sym is) (record { fits = tt; some_steps = omega (arith, all, some); few_steps = omega (arith, all); reached = at.reached; told = at.told })
    by_way t k b task at (leaves one few is last same) =
        subst (λ (u : Turned). EndsSo u.stopped u.steps u.beats) (sym same)
        (by_last k b task one few at is last (subst (StepArrives code opened) is (step_arrives code heartbeat forks first safe (There k b task) at.reached)))

    -- what a turn from there comes to
    pub turn_ends : (task : State) → n ≤ heartbeat → IsTally tally → Along 0 (record { task = task; opened = opened; tally = tally }) → EndsSo (turn_of n code heartbeat (nat_lt tally.beats forks) task).stopped (turn_of n code heartbeat (nat_lt tally.beats forks) task).steps (turn_of n code heartbeat (nat_lt tally.beats forks) task).beats
    turn_ends task short small at =
        let all = turning code heartbeat forks opened tally Along n short along_goes along_beats task small at in
        by_way (turn_of n code heartbeat (nat_lt tally.beats forks) task) all.steps all.beats all.task all.holds all.way

    -- the same of the turn that is answered
    abbrev pub AnsweredSo : Turn → ℕ → ℕ → Type 0
    AnsweredSo (turn.Pause task) steps beats = GoesOn steps (Pauses task) (after_turn code (turn.Pause task) opened (turned steps beats tally))
    AnsweredSo (turn.NeedRecord task) steps beats = GoesOn steps (Waits task) (after_turn code (turn.NeedRecord task) opened (turned steps beats tally))
    AnsweredSo (turn.Forked on rest child rec) steps beats = GoesOn steps (Parts (record { rec = rec; left = on; rest = rest; child = child })) (after_turn code (turn.Forked on rest child rec) opened (turned steps beats tally))
    AnsweredSo (turn.Arrived rec side out) steps beats = GoesOn steps (Comes (ending.At rec side out)) (after_turn code (turn.Arrived rec side out) opened (turned steps beats tally))
    AnsweredSo (turn.Halted outcome) steps beats = GoesOn steps (Comes (ending.Root outcome)) (after_turn code (turn.Halted outcome) opened (turned steps beats tally))
    AnsweredSo (turn.Stuck fault block at) steps beats = exec_from left code heartbeat forks (Runs start) ≡ Some (report_of (how.Stuck fault block at) (turned steps beats tally))
    AnsweredSo turn.NoMemory steps beats = Unit {0}

    moved : (t : Turned) (steps beats : ℕ) (so : Stopped) → EndsSo t.stopped t.steps t.beats → t.stopped ≡ so → steps ≡ t.steps → beats ≡ t.beats → EndsSo so steps beats
    moved t steps beats so ends is s b =
        subst (λ x. EndsSo x steps beats) is
        (subst (λ (k : ℕ). EndsSo t.stopped k beats) (sym s)
        (subst (λ (k : ℕ). EndsSo t.stopped t.steps k) (sym b) ends))

    pub answered_by : (t : Turned) (u : Turn) (steps beats : ℕ) → EndsSo t.stopped t.steps t.beats → IsTurn t.stopped u → HadMemory u (steps ≡ t.steps) → HadMemory u (beats ≡ t.beats) → AnsweredSo u steps beats
    answered_by t (turn.Pause task) steps beats so is s b = moved t steps beats (Pauses task) so is s b
    answered_by t (turn.NeedRecord task) steps beats so is s b = moved t steps beats (Waits task) so is s b
    answered_by t (turn.Forked on rest child rec) steps beats so is s b = moved t steps beats (Parts (record { rec = rec; left = on; rest = rest; child = child })) so is s b
    answered_by t (turn.Arrived rec side out) steps beats so is s b = moved t steps beats (Comes (ending.At rec side out)) so is s b
    answered_by t (turn.Halted outcome) steps beats so is s b = moved t steps beats (Comes (ending.Root outcome)) so is s b
    answered_by t (turn.Stuck fault block at) steps beats so is s b = moved t steps beats (Sticks fault block at) so is s b
    answered_by t turn.NoMemory steps beats so is s b = tt

  module _ (lane : Lane) (n left : ℕ) (some : 1 ≤ n) (enough : n ≤ left) (short : n ≤ heartbeat) (small : IsTally lane.tally) (at : Reached code heartbeat forks first safe (Runs lane)) (ran : Ran) (is : IsRan (turn_of n code heartbeat (nat_lt lane.tally.beats forks) lane.task) ran) where
    abbrev Whole : Turned
    Whole = turn_of n code heartbeat (nat_lt lane.tally.beats forks) lane.task

    whole_ends : EndsSo lane.opened lane.tally lane n left some enough Whole.stopped Whole.steps Whole.beats
    whole_ends = turn_ends lane.opened lane.tally lane n left some enough lane.task short small (record { reached = at; told = λ later sum. ap (λ (k : ℕ). exec_from k code heartbeat forks (Runs lane)) (omega (arith, sum)) })

    answered : AnsweredSo lane.opened lane.tally lane n left some enough ran.turn ran.steps ran.beats
    answered = answered_by lane.opened lane.tally lane n left some enough Whole ran.turn ran.steps ran.beats whole_ends is.turn is.steps is.beats

    -- a turn that is stuck is told
    pub turn_stuck : (fault : Fault) (block place : ℕ) → ran.turn ≡ turn.Stuck fault block place → exec_from left code heartbeat forks (Runs lane) ≡ Some (report_of (how.Stuck fault block place) (turned ran.steps ran.beats lane.tally))
    turn_stuck fault block place same = subst (λ u. AnsweredSo lane.opened lane.tally lane n left some enough u ran.steps ran.beats) same answered

    -- the run can go on with a turn that isn't
    pub turn_goes_on : IsNotStuck ran.turn → TurnFits code ran.turn lane.opened
    turn_goes_on free = by_turn ran.turn is.turn answered free
      where
        kept : TurnKeeps heartbeat lane.task Whole
        kept = turn_keeps n heartbeat code (nat_lt lane.tally.beats forks) lane.task

        fit : (u : Turn) → IsTurn Whole.stopped u → (so : Stopped) → Whole.stopped ≡ so → StoppedFits code so lane.opened → TurnFits code u lane.opened
        fit u turn_is so same fits = turn_fits code heartbeat Whole.steps lane.task lane.opened Whole.stopped u turn_is kept (subst (λ x. StoppedFits code x lane.opened) (sym same) fits)

        by_turn : (u : Turn) → IsTurn Whole.stopped u → AnsweredSo lane.opened lane.tally lane n left some enough u ran.steps ran.beats → IsNotStuck u → TurnFits code u lane.opened
        by_turn (turn.Pause after) turn_is so other = tt
        by_turn (turn.NeedRecord waits) turn_is so other = fit (turn.NeedRecord waits) turn_is (Waits waits) turn_is so.fits
        by_turn (turn.Forked on rest child rec) turn_is so other = tt
        by_turn (turn.Arrived rec side out) turn_is so other = so.fits
        by_turn (turn.Halted outcome) turn_is so other = tt
        by_turn (turn.Stuck fault block place) turn_is so other = absurd (other fault block place refl)
        by_turn turn.NoMemory turn_is so other = tt

    -- what the run comes to by it
    pub record Onward (stage : SoloState) : Type 0 where
      pub some_steps : 1 ≤ ran.steps
      pub few_steps : ran.steps ≤ n
      pub reached : Reached code heartbeat forks first safe stage
      pub told : ToldAs left lane (left - ran.steps) stage

    onward_by : (so : Stopped) (stage other : SoloState) → GoesOn lane.opened lane.tally lane n left some enough ran.steps so stage → stage ≡ other → Onward other
    onward_by so stage other on same =
        let few = on.few_steps in
        record {
          some_steps = on.some_steps;
          few_steps = on.few_steps;
          reached = subst (λ x. Reached code heartbeat forks first safe x) same on.reached;
          told = on.told (left - ran.steps) (omega (arith, few, enough)) ∙ ap (λ x. exec_from (left - ran.steps) code heartbeat forks x) same;
        }

    pub onward : (other : SoloState) → IsNotStuck ran.turn → (other ≡ Lost → ⊥) → after_turn code ran.turn lane.opened (turned ran.steps ran.beats lane.tally) ≡ other → Onward other
    onward other free found same = by_turn ran.turn answered free same
      where
        by_turn : (u : Turn) → AnsweredSo lane.opened lane.tally lane n left some enough u ran.steps ran.beats → IsNotStuck u → after_turn code u lane.opened (turned ran.steps ran.beats lane.tally) ≡ other → Onward other
        by_turn (turn.Pause after) so not_stuck there = onward_by (Pauses after) _ other so there
        by_turn (turn.NeedRecord waits) so not_stuck there = onward_by (Waits waits) _ other so there
        by_turn (turn.Forked on rest child rec) so not_stuck there = onward_by (Parts (record { rec = rec; left = on; rest = rest; child = child })) _ other so there
        by_turn (turn.Arrived rec side out) so not_stuck there = onward_by (Comes (ending.At rec side out)) _ other so there
        by_turn (turn.Halted outcome) so not_stuck there = onward_by (Comes (ending.Root outcome)) _ other so there
        by_turn (turn.Stuck fault block place) so not_stuck there = absurd (not_stuck fault block place refl)
        by_turn turn.NoMemory so not_stuck there = absurd (found (sym there))

-- ---- the loop

-- A run that began with this task is at this one, with so many instructions left to it.
pub record Going (code : Listing) (heartbeat forks steps : ℕ) (first : State) (left : ℕ) (lane : Lane) : Type 0 where
  pub safe : IsSafeFrom code heartbeat forks first
  pub reached : Reached code heartbeat forks first safe (Runs lane)
  pub told : exec_from steps code heartbeat forks (Runs (first_lane first)) ≡ exec_from left code heartbeat forks (Runs lane)

-- so it is told
abbrev pub ToldOf : Listing → ℕ → ℕ → ℕ → State → ExecReport → Type 0
ToldOf code heartbeat forks steps first report = exec_from steps code heartbeat forks (Runs (first_lane first)) ≡ Some report

module _ (code : Listing) (heartbeat forks steps : ℕ) (first : State) (left : ℕ) (lane : Lane) (going : Going code heartbeat forks steps first left lane) where
  -- its task can be run
  pub going_runs : RunsOn code lane.task
  going_runs = runs_on code heartbeat forks first going.safe lane going.reached

  -- nothing is left to it
  pub going_spent : left ≡ 0 → ToldOf code heartbeat forks steps first (report_of how.Spent lane.tally)
  going_spent none = going.told ∙ ap (λ (k : ℕ). exec_from k code heartbeat forks (Runs lane)) none ∙ exec_spent code heartbeat forks lane

  module _ (n : ℕ) (some : 1 ≤ n) (enough : n ≤ left) (short : n ≤ heartbeat) (small : IsTally lane.tally) (ran : Ran) (is : IsRan (turn_of n code heartbeat (nat_lt lane.tally.beats forks) lane.task) ran) where
    abbrev pub Reaching : SoloState
    Reaching = after_turn code ran.turn lane.opened (turned ran.steps ran.beats lane.tally)

    -- its turn is stuck
    pub going_stuck : (fault : Fault) (block place : ℕ) → ran.turn ≡ turn.Stuck fault block place → ToldOf code heartbeat forks steps first (report_of (how.Stuck fault block place) (turned ran.steps ran.beats lane.tally))
    going_stuck fault block place same = going.told ∙ turn_stuck code heartbeat forks first going.safe lane n left some enough short small going.reached ran is fault block place same

    -- or the run goes on with it
    pub going_fits : IsNotStuck ran.turn → TurnFits code ran.turn lane.opened
    going_fits free = turn_goes_on code heartbeat forks first going.safe lane n left some enough short small going.reached ran is free

    onward_to : (stage : SoloState) → IsNotStuck ran.turn → (stage ≡ Lost → ⊥) → Reaching ≡ stage → Onward code heartbeat forks first going.safe lane n left some enough short small going.reached ran is stage
    onward_to stage free found same = onward code heartbeat forks first going.safe lane n left some enough short small going.reached ran is stage free found same

    runs_found : (after : Lane) → Runs after ≡ Lost → ⊥
    runs_found after never = cc

    over_found : (outcome : Outcome) (tally : Tally) → Over outcome tally ≡ Lost → ⊥
    over_found outcome tally never = cc

    pub going_on : (after : Lane) → IsNotStuck ran.turn → Reaching ≡ Runs after → Going code heartbeat forks steps first (left - ran.steps) after
    going_on after free to =
        let next = onward_to (Runs after) free (runs_found after) to in
        record { safe = going.safe; reached = next.reached; told = going.told ∙ next.told }

    -- with fewer instructions left
    pub going_less : (after : Lane) → IsNotStuck ran.turn → Reaching ≡ Runs after → left - ran.steps < left
    going_less after free to =
        let next = onward_to (Runs after) free (runs_found after) to in
        let more = next.some_steps in
        let few = next.few_steps in
        omega (arith, more, few, enough)

    -- or is over
    pub going_over : (outcome : Outcome) (tally : Tally) → IsNotStuck ran.turn → Reaching ≡ Over outcome tally → ToldOf code heartbeat forks steps first (report_of (how.Ended outcome) tally)
    going_over outcome tally free to =
        let next = onward_to (Over outcome tally) free (over_found outcome tally) to in
        going.told ∙ next.told ∙ exec_over code heartbeat forks (left - ran.steps) outcome tally

-- a run that begins
pub going_first : (code : Listing) (heartbeat forks steps : ℕ) (first : State) → first.goal ≡ goal.Root → first.pending ≡ None → IsSafeFrom code heartbeat forks first → Going code heartbeat forks steps first steps (first_lane first)
going_first code heartbeat forks steps first root none safe = record {
  safe = safe;
  reached = record { events = []; last = core.first first; run = running.here (core.first first); claims = tt; at = stands_first first root none };
  told = refl;
}
