-- A solo run on its way from its first task to its end.
use Rattle.std.proofs.Common.{◌≡◌, ℕ, zero, suc, ◌<◌, ◌≤◌, inl, true, false, None, [], refl, ap}
use Rattle.std.proofs.Common.{sym, subst, ◌∙◌, arith}
use Rattle.std.specs.Prelude.{nat_lt}
use Rattle.tp_value.specs.declared.values.Outcome.{Outcome}
use Rattle.tpal_syntax.specs.Conditions.{IsCode}
use Rattle.tpal_syntax.specs.Listing.{Listing}
use Rattle.tpal_machine.specs.declared.ends.Ending.{Ending}
use Rattle.tpal_machine.specs.declared.ends.Ending.TheVariants as ending
use Rattle.tpal_machine.specs.declared.ends.Goal.TheVariants as goal
use Rattle.tpal_machine.specs.Keeping.{number_of}
use Rattle.tpal_machine.specs.Owes.{Owes}
use Rattle.tpal_machine.specs.RestState.{end_of}
use Rattle.tpal_machine.specs.State.{State}
use Rattle.tpal_machine.proofs.Owing as machine
use Rattle.schedule_core.specs.declared.lanes.Tally.{Tally}
use Rattle.schedule_core.specs.Lanes.{Placed, LaneOwed, SoloStateOwed, TurnFits, IsTally, after_stopped}
use Rattle.schedule_core.specs.Lanes.{after_turn}
use Rattle.schedule_core.specs.Solo.{Lane, SoloState, Runs, Over, Lost, Comes, over, on, next, turned}
use Rattle.schedule_core.specs.Solo.{no_tally, SoloRun, first_lane}
use Rattle.schedule_core.specs.Steps.{is_over, runs_to, is_last, ComesToAnEnd, ComesToAnEnd-prop}
use Rattle.schedule_core.proofs.Finishing.{Finishes, finishes}
use Rattle.schedule_core.proofs.Turning.{TurnNearer, turn_nearer, turn_fits, owed_fits, turn_stage}
use Rattle.schedule_core.proofs.Turning.{stopped_owed}
use Rattle.tpal_machine.specs.declared.turn.Ran.{Ran}
use Rattle.tpal_machine.specs.declared.turn.Turn.{Turn}
use Rattle.tpal_machine.specs.declared.turn.Turn.TheVariants as turn
use Rattle.tpal_machine.specs.Answer.{IsRan, HadMemory}
use Rattle.tpal_machine.specs.Keeping.{TurnKeeps}
use Rattle.tpal_machine.specs.Owed.{owing, TurnOwes, due_after}
use Rattle.tpal_machine.specs.Turn.{turn_of}
use Rattle.tpal_machine.proofs.Keeping.{turn_keeps}
use Rattle.tpal_machine.proofs.Owed as owed

-- one instruction more, where a task runs
abbrev more_of : (Lane → ℕ) → SoloState → ℕ
more_of later (Runs lane) = suc (later lane)
more_of later (Over outcome tally) = 0
more_of later Lost = 0

-- how many instructions a run goes on for, at most so many
unfoldable pub left : ℕ → Listing → ℕ → ℕ → Lane → ℕ
left zero code heartbeat forks lane = 0
left (suc n) code heartbeat forks lane = more_of (left n code heartbeat forks) (next code heartbeat forks lane)

module _ (code : Listing) (heartbeat forks : ℕ) where
  stage_last : (n : ℕ) (stage : SoloState) (outcome : Outcome) (tally : Tally) → Comes code heartbeat forks (suc n) stage outcome tally → runs_to (is_last n code heartbeat forks) stage ≡ true
  unfolding is_last
  stage_last zero stage outcome tally (on _ lane _ _ comes) = now (next code heartbeat forks lane) comes
    where
      now : (s : SoloState) → Comes code heartbeat forks 0 s outcome tally → is_over s ≡ true
      now s (over _ _) = refl
  stage_last (suc n) stage outcome tally (on _ lane _ _ comes) = stage_last n (next code heartbeat forks lane) outcome tally comes

  -- a run that comes to its end has a last instruction
  pub lane_last : (n : ℕ) (lane : Lane) (outcome : Outcome) (tally : Tally) → Comes code heartbeat forks (suc n) (Runs lane) outcome tally → is_last n code heartbeat forks lane ≡ true
  lane_last n lane outcome tally comes = stage_last n (Runs lane) outcome tally comes

  stage_left : (m n : ℕ) (stage : SoloState) (outcome : Outcome) (tally : Tally) → m ≤ suc n → Comes code heartbeat forks m stage outcome tally → more_of (left n code heartbeat forks) stage ≡ m
  unfolding left
  stage_left m n stage outcome tally few (over _ _) = refl
  stage_left m zero stage outcome tally few (on k lane _ _ comes) = let none : 0 ≡ k = omega (arith, few) in ap suc none
  stage_left m (suc n) stage outcome tally few (on k lane _ _ comes) = ap suc (stage_left k n (next code heartbeat forks lane) outcome tally (omega (arith, few)) comes)

  -- and so many instructions left
  pub lane_left : (m n : ℕ) (lane : Lane) (outcome : Outcome) (tally : Tally) → m ≤ suc n → Comes code heartbeat forks m (Runs lane) outcome tally → suc (left n code heartbeat forks lane) ≡ m
  lane_left m n lane outcome tally few comes = stage_left m n (Runs lane) outcome tally few comes

  one_end : (n : ℕ) (outcome other : Outcome) (tally last : Tally) → Comes code heartbeat forks n (Over outcome tally) other last → (outcome ≡ other) × (tally ≡ last)
  one_end n outcome other tally last (over _ _) = (refl, refl)

  had_memory : (t : Turn) (P : Type 0) → (t ≡ turn.NoMemory → ⊥) → HadMemory t P → P
  had_memory (turn.Pause task) P had p = p
  had_memory (turn.NeedRecord task) P had p = p
  had_memory (turn.Forked a b c d) P had p = p
  had_memory (turn.Arrived rec side out) P had p = p
  had_memory (turn.Halted outcome) P had p = p
  had_memory (turn.Stuck fault block at) P had p = p
  had_memory turn.NoMemory P had p = absurd (had refl)

  -- a run that began with the first task and is at this one
  pub record Running (limit : ℕ) (first : State) (lane : Lane) : Type 0 where
    pub count : ℕ
    pub outcome : Outcome
    pub last : Tally
    pub comes : Comes code heartbeat forks count (Runs lane) outcome last
    pub few : count ≤ suc limit
    pub owed : LaneOwed code heartbeat lane outcome
    pub whole : SoloRun code heartbeat forks first outcome last
    pub one : (e : Ending) → Owes code heartbeat false 0 first e → e ≡ ending.Root outcome

  first_placed : (task : State) → task.pending ≡ None → task.goal ≡ goal.Root → Placed task []
  first_placed task none root = record { place = ap end_of root; given = inl (ap number_of none) }

  first_finishes : (task : State) (out : Outcome) → task.pending ≡ None → task.goal ≡ goal.Root → Owes code heartbeat false 0 task (ending.Root out) → Finishes code heartbeat forks out (Runs (first_lane task))
  first_finishes task out none root owes =
      finishes code heartbeat forks out false 0 task (ending.Root out) owes.bound [] no_tally (first_placed task none root) (λ later. record { instructions = 0; tally = later; comes = over out later })

  record Counted (stage : SoloState) (out : Outcome) (tally : Tally) (instructions : ℕ) : Type 0 where
    before : ℕ
    is : instructions ≡ suc before
    comes : Comes code heartbeat forks (suc before) stage out tally

  counted : (lane : Lane) (out : Outcome) (tally : Tally) (n : ℕ) → Comes code heartbeat forks n (Runs lane) out tally → Counted (Runs lane) out tally n
  counted lane out tally n (on k _ _ _ comes) = record { before = k; is = refl; comes = on k lane out tally comes }

  -- a task that owes an outcome has a solo run that comes to its end
  pub owes_ends : (task : State) → task.pending ≡ None → task.goal ≡ goal.Root → (out : Outcome) × Owes code heartbeat false 0 task (ending.Root out) → ComesToAnEnd code heartbeat forks task
  owes_ends task none root (out, owes) =
      let f = first_finishes task out none root owes in
      let c = counted (first_lane task) out f.tally f.instructions f.comes in
      (c.before, lane_last c.before (first_lane task) out f.tally c.comes)

  pub running_first : (task : State) (ends : ComesToAnEnd code heartbeat forks task) → task.pending ≡ None → task.goal ≡ goal.Root → (out : Outcome) × Owes code heartbeat false 0 task (ending.Root out) → Running ends.0 task (first_lane task)
  running_first task ends none root (out, owes) =
      let f = first_finishes task out none root owes in
      let c = counted (first_lane task) out f.tally f.instructions f.comes in
      let same : ends.0 ≡ c.before = ap (λ x. x.0) (ComesToAnEnd-prop code heartbeat forks task ends (c.before, lane_last c.before (first_lane task) out f.tally c.comes)) in
      record {
        count = suc c.before;
        outcome = out;
        last = f.tally;
        comes = c.comes;
        few = omega (arith, same);
        owed = record { due = false; ending = ending.Root out; task = record { owes = owes; placed = first_placed task none root }; more = refl };
        whole = record { instructions = f.instructions; comes = f.comes };
        one = λ e other. machine.one_ending code heartbeat false 0 0 task e (ending.Root out) other.bound owes.bound;
      }

  -- ---- one turn

  module _ (right : IsCode code.tables code.blocks) (limit budget : ℕ) (some : 1 ≤ budget) (first : State) (lane : Lane) (run : Running limit first lane) (small : IsTally lane.tally) (ran : Ran) (is : IsRan (turn_of budget code heartbeat (nat_lt lane.tally.beats forks) lane.task) ran) where
    owes_turn : TurnOwes code (owing code heartbeat) run.owed.due run.owed.ending (turn_of budget code heartbeat (nat_lt lane.tally.beats forks) lane.task)
    owes_turn = owed.after_turn code heartbeat right budget 0 (nat_lt lane.tally.beats forks) run.owed.due lane.task run.owed.ending run.owed.task.owes

    keeps_turn : TurnKeeps heartbeat lane.task (turn_of budget code heartbeat (nat_lt lane.tally.beats forks) lane.task)
    keeps_turn = turn_keeps budget heartbeat code (nat_lt lane.tally.beats forks) lane.task

    -- the turn is one that a run goes on with
    pub running_fits : TurnFits code ran.turn lane.opened
    running_fits =
        let whole = turn_of budget code heartbeat (nat_lt lane.tally.beats forks) lane.task in
        turn_fits code heartbeat whole.steps lane.task lane.opened whole.stopped ran.turn is.turn keeps_turn
        (owed_fits code heartbeat (due_after run.owed.due whole.beats) lane.opened run.outcome run.owed.ending whole.stopped run.owed.more owes_turn.stopped)

    abbrev pub Reached : SoloState
    Reached = after_turn code ran.turn lane.opened (turned ran.steps ran.beats lane.tally)

    -- what it comes to
    reached : (ran.turn ≡ turn.NoMemory → ⊥) → after_stopped code (turn_of budget code heartbeat (nat_lt lane.tally.beats forks) lane.task).stopped lane.opened (turned (turn_of budget code heartbeat (nat_lt lane.tally.beats forks) lane.task).steps (turn_of budget code heartbeat (nat_lt lane.tally.beats forks) lane.task).beats lane.tally) ≡ Reached
    reached had =
        let steps = had_memory ran.turn (ran.steps ≡ (turn_of budget code heartbeat (nat_lt lane.tally.beats forks) lane.task).steps) had is.steps in
        let beats = had_memory ran.turn (ran.beats ≡ (turn_of budget code heartbeat (nat_lt lane.tally.beats forks) lane.task).beats) had is.beats in
        (λ i. after_stopped code (turn_of budget code heartbeat (nat_lt lane.tally.beats forks) lane.task).stopped lane.opened (turned (sym steps i) (sym beats i) lane.tally))
        ∙ turn_stage code heartbeat (turn_of budget code heartbeat (nat_lt lane.tally.beats forks) lane.task).stopped ran.turn lane.opened (turned ran.steps ran.beats lane.tally) is.turn had

    nearer_turn : TurnNearer code heartbeat forks right run.count (after_stopped code (turn_of budget code heartbeat (nat_lt lane.tally.beats forks) lane.task).stopped lane.opened (turned (turn_of budget code heartbeat (nat_lt lane.tally.beats forks) lane.task).steps (turn_of budget code heartbeat (nat_lt lane.tally.beats forks) lane.task).beats lane.tally)) run.outcome run.last
    nearer_turn = turn_nearer code heartbeat forks right budget run.owed.due lane.task lane.opened lane.tally run.owed.ending run.count run.outcome run.last some small run.owed.task.owes run.comes

    owed_turn : SoloStateOwed code heartbeat run.outcome (after_stopped code (turn_of budget code heartbeat (nat_lt lane.tally.beats forks) lane.task).stopped lane.opened (turned (turn_of budget code heartbeat (nat_lt lane.tally.beats forks) lane.task).steps (turn_of budget code heartbeat (nat_lt lane.tally.beats forks) lane.task).beats lane.tally))
    owed_turn = stopped_owed code heartbeat (due_after run.owed.due (turn_of budget code heartbeat (nat_lt lane.tally.beats forks) lane.task).beats) (turn_of budget code heartbeat (nat_lt lane.tally.beats forks) lane.task).steps lane.task lane.opened run.outcome (turned (turn_of budget code heartbeat (nat_lt lane.tally.beats forks) lane.task).steps (turn_of budget code heartbeat (nat_lt lane.tally.beats forks) lane.task).beats lane.tally) run.owed.ending (turn_of budget code heartbeat (nat_lt lane.tally.beats forks) lane.task).stopped run.owed.task.placed run.owed.more keeps_turn owes_turn.stopped

    -- it comes to another task, with fewer instructions left
    pub running_on : (after : Lane) → Reached ≡ Runs after → Running limit first after
    running_on after to =
        let all = reached (λ none. lost_runs ran.turn after none to) ∙ to in
        let bound = nearer_turn.few in
        let few = run.few in
        record {
          count = nearer_turn.less;
          outcome = run.outcome;
          last = run.last;
          comes = subst (λ s. Comes code heartbeat forks nearer_turn.less s run.outcome run.last) all nearer_turn.comes;
          few = omega (arith, bound, few);
          owed = subst (SoloStateOwed code heartbeat run.outcome) all owed_turn;
          whole = run.whole;
          one = run.one;
        }
      where
        lost_runs : (t : Turn) (after : Lane) → t ≡ turn.NoMemory → after_turn code t lane.opened (turned ran.steps ran.beats lane.tally) ≡ Runs after → ⊥
        lost_runs t after none to = is_lost (subst (λ u. after_turn code u lane.opened (turned ran.steps ran.beats lane.tally) ≡ Runs after) none to)
          where
            is_lost : Lost ≡ Runs after → ⊥
            is_lost never = cc

    pub running_less : (after : Lane) → Reached ≡ Runs after → left limit code heartbeat forks after < left limit code heartbeat forks lane
    unfolding running_on
    running_less after to =
        let next_run = running_on after to in
        let bound = nearer_turn.few in
        let same : next_run.count ≡ nearer_turn.less = refl in
        let here = lane_left run.count limit lane run.outcome run.last run.few run.comes in
        let there = lane_left next_run.count limit after next_run.outcome next_run.last next_run.few next_run.comes in
        omega (arith, bound, here, there, same)

    -- or it is over
    pub running_over : (outcome : Outcome) (tally : Tally) → Reached ≡ Over outcome tally → (outcome ≡ run.outcome) × (tally ≡ run.last)
    running_over outcome tally to =
        let all = reached (λ none. lost_over ran.turn none to) ∙ to in
        one_end nearer_turn.less outcome run.outcome tally run.last (subst (λ s. Comes code heartbeat forks nearer_turn.less s run.outcome run.last) all nearer_turn.comes)
      where
        lost_over : (t : Turn) → t ≡ turn.NoMemory → after_turn code t lane.opened (turned ran.steps ran.beats lane.tally) ≡ Over outcome tally → ⊥
        lost_over t none to = is_lost (subst (λ u. after_turn code u lane.opened (turned ran.steps ran.beats lane.tally) ≡ Over outcome tally) none to)
          where
            is_lost : Lost ≡ Over outcome tally → ⊥
            is_lost never = cc
