use Rattle.std.specs.Prelude.{nat_lt}
use Rattle.std.proofs.Common.{ℕ, ◌<◌, ◌∙◌, List, Some, reverse, ap, sym, subst, arith}
use Rattle.tpal_machine.specs.Answer.{IsRan}
use Rattle.tpal_machine.specs.State.{State}
use Rattle.tpal_machine.specs.Turn.{turn_of}
use Rattle.schedule_core.specs.declared.lanes.Opened.{Opened}
use Rattle.schedule_core.specs.declared.lanes.Tally.{Tally}
use Rattle.schedule_core.specs.Lanes.{IsSoloState, after_turn}
use Rattle.tpal_verify.specs.declared.report.ExecEnd.TheVariants as how
use Rattle.tpal_verify.specs.Exec.{report_of}
use Rattle.tpal_verify.proofs.Beginning.{safe_from}
use Rattle.tpal_verify.proofs.Executing.{Going, going_first, going_runs, going_spent, going_stuck}
use Rattle.tpal_verify.proofs.Executing.{going_fits, going_on, going_less, going_over}
use Rattle.tpal_verify.proofs.Reached.{IsSafeFrom}
use Rattle.tpal_verify.proofs.exec.run_turns.Goals as goal

pub turns-init : goal.turns-init
turns-init c =
    let held = c.requires.first.0 in
    let fuel = c.requires.first.1 in
    let sizes = c.requires.first.2 in
    let is = c.requires.first.3 in
    subst (λ (o : List Opened). Going c.args.start.code.now c.args.start.heartbeat c.args.start.forks c.args.start.steps c.args.start.task c.args.start.steps (record { task = c.args.start.task; opened = o; tally = record { tasks = 0; beats = 0; skipped = 0; instructions = 0 } }))
    (sym (ap reverse c.new-opened.ensures.items))
    (going_first c.args.start.code.now c.args.start.heartbeat c.args.start.forks c.args.start.steps c.args.start.task (ap (λ (s : State). s.goal) is) (ap (λ (s : State). s.pending) is)
    (subst (λ (s : State). IsSafeFrom c.args.start.code.now c.args.start.heartbeat c.args.start.forks s) (sym is)
    (safe_from c.args.start.code.now c.blocks-blocks.ensures.right c.requires.accepted c.args.start.heartbeat c.args.start.forks fuel held c.requires.forks sizes)))

pub run_task-ran-requires-clause-belongs : goal.run_task-ran-requires-clause-belongs
run_task-ran-requires-clause-belongs c = (going_runs c.args.start.code.now c.args.start.heartbeat c.args.start.forks c.args.start.steps c.args.start.task c.turns.left (record { task = c.turns.task; opened = reverse c.turns.opened.items; tally = c.turns.tally }) c.turns.invariant).belongs

pub run_task-ran-requires-clause-answered : goal.run_task-ran-requires-clause-answered
run_task-ran-requires-clause-answered c = (going_runs c.args.start.code.now c.args.start.heartbeat c.args.start.forks c.args.start.steps c.args.start.task c.turns.left (record { task = c.turns.task; opened = reverse c.turns.opened.items; tally = c.turns.tally }) c.turns.invariant).waits_not

pub returns-in-Stuck : goal.returns-in-Stuck
returns-in-Stuck c =
    going_stuck c.args.start.code.now c.args.start.heartbeat c.args.start.forks c.args.start.steps c.args.start.task c.turns.left (record { task = c.turns.task; opened = reverse c.turns.opened.items; tally = c.turns.tally }) c.turns.invariant c.turn_steps.result c.turn_steps.ensures.some c.turn_steps.ensures.enough c.turn_steps.ensures.short c.in_range.ensures c.run_task-ran.result
    (subst (λ (f : ℕ). IsRan (turn_of c.turn_steps.result c.args.start.code.now c.args.start.heartbeat (nat_lt c.turns.tally.beats f) c.turns.task) c.run_task-ran.result) c.from.ensures c.run_task-ran.ensures.ran)
    c.in-Stuck.fault c.in-Stuck.block c.in-Stuck.at c.in-Stuck.is
    ∙ ap (λ (y : Tally). Some (report_of (how.Stuck c.in-Stuck.fault c.in-Stuck.block c.in-Stuck.at) y)) (sym c.turned-tally.ensures)
    ∙ ap Some (sym c.report.ensures)

pub go_on-requires : goal.go_on-requires
go_on-requires c =
    going_fits c.args.start.code.now c.args.start.heartbeat c.args.start.forks c.args.start.steps c.args.start.task c.turns.left (record { task = c.turns.task; opened = reverse c.turns.opened.items; tally = c.turns.tally }) c.turns.invariant c.turn_steps.result c.turn_steps.ensures.some c.turn_steps.ensures.enough c.turn_steps.ensures.short c.in_range.ensures c.run_task-ran.result
    (subst (λ (f : ℕ). IsRan (turn_of c.turn_steps.result c.args.start.code.now c.args.start.heartbeat (nat_lt c.turns.tally.beats f) c.turns.task) c.run_task-ran.result) c.from.ensures c.run_task-ran.ensures.ran)
    c.in_default.not-Stuck

pub turns-smaller : goal.turns-smaller
turns-smaller c =
    let stage = subst (λ s. IsSoloState (after_turn c.args.start.code.now c.run_task-ran.result.turn (reverse c.turns.opened.items) c.turned-tally.result) s (reverse c.go_on.new.opened.items) c.go_on.new.tally) c.in-Runs.is c.in_ok-next-in_default.ensures in
    let to = ap (λ (y : Tally). after_turn c.args.start.code.now c.run_task-ran.result.turn (reverse c.turns.opened.items) y) (sym c.turned-tally.ensures) ∙ stage in
    subst (λ (k : ℕ). k < c.turns.left) (sym c.saturating_sub-left.ensures)
    (going_less c.args.start.code.now c.args.start.heartbeat c.args.start.forks c.args.start.steps c.args.start.task c.turns.left (record { task = c.turns.task; opened = reverse c.turns.opened.items; tally = c.turns.tally }) c.turns.invariant c.turn_steps.result c.turn_steps.ensures.some c.turn_steps.ensures.enough c.turn_steps.ensures.short c.in_range.ensures c.run_task-ran.result
    (subst (λ (f : ℕ). IsRan (turn_of c.turn_steps.result c.args.start.code.now c.args.start.heartbeat (nat_lt c.turns.tally.beats f) c.turns.task) c.run_task-ran.result) c.from.ensures c.run_task-ran.ensures.ran)
    (record { task = c.in-Runs.next; opened = reverse c.go_on.new.opened.items; tally = c.go_on.new.tally }) c.in_default.not-Stuck to)

pub turns-preserved : goal.turns-preserved
turns-preserved c =
    let stage = subst (λ s. IsSoloState (after_turn c.args.start.code.now c.run_task-ran.result.turn (reverse c.turns.opened.items) c.turned-tally.result) s (reverse c.go_on.new.opened.items) c.go_on.new.tally) c.in-Runs.is c.in_ok-next-in_default.ensures in
    let to = ap (λ (y : Tally). after_turn c.args.start.code.now c.run_task-ran.result.turn (reverse c.turns.opened.items) y) (sym c.turned-tally.ensures) ∙ stage in
    subst (λ (k : ℕ). Going c.args.start.code.now c.args.start.heartbeat c.args.start.forks c.args.start.steps c.args.start.task k (record { task = c.in-Runs.next; opened = reverse c.go_on.new.opened.items; tally = c.go_on.new.tally })) (sym c.saturating_sub-left.ensures)
    (going_on c.args.start.code.now c.args.start.heartbeat c.args.start.forks c.args.start.steps c.args.start.task c.turns.left (record { task = c.turns.task; opened = reverse c.turns.opened.items; tally = c.turns.tally }) c.turns.invariant c.turn_steps.result c.turn_steps.ensures.some c.turn_steps.ensures.enough c.turn_steps.ensures.short c.in_range.ensures c.run_task-ran.result
    (subst (λ (f : ℕ). IsRan (turn_of c.turn_steps.result c.args.start.code.now c.args.start.heartbeat (nat_lt c.turns.tally.beats f) c.turns.task) c.run_task-ran.result) c.from.ensures c.run_task-ran.ensures.ran)
    (record { task = c.in-Runs.next; opened = reverse c.go_on.new.opened.items; tally = c.go_on.new.tally }) c.in_default.not-Stuck to)

pub returns-in-Over : goal.returns-in-Over
returns-in-Over c =
    let stage = subst (λ s. IsSoloState (after_turn c.args.start.code.now c.run_task-ran.result.turn (reverse c.turns.opened.items) c.turned-tally.result) s (reverse c.go_on.new.opened.items) c.go_on.new.tally) c.in-Over.is c.in_ok-next-in_default.ensures in
    let to = ap (λ (y : Tally). after_turn c.args.start.code.now c.run_task-ran.result.turn (reverse c.turns.opened.items) y) (sym c.turned-tally.ensures) ∙ stage in
    going_over c.args.start.code.now c.args.start.heartbeat c.args.start.forks c.args.start.steps c.args.start.task c.turns.left (record { task = c.turns.task; opened = reverse c.turns.opened.items; tally = c.turns.tally }) c.turns.invariant c.turn_steps.result c.turn_steps.ensures.some c.turn_steps.ensures.enough c.turn_steps.ensures.short c.in_range.ensures c.run_task-ran.result
    (subst (λ (f : ℕ). IsRan (turn_of c.turn_steps.result c.args.start.code.now c.args.start.heartbeat (nat_lt c.turns.tally.beats f) c.turns.task) c.run_task-ran.result) c.from.ensures c.run_task-ran.ensures.ran)
    c.in-Over.outcome c.go_on.new.tally c.in_default.not-Stuck to
    ∙ ap Some (sym c.report-in-Over.ensures)

pub returns : goal.returns
returns c =
    let none = c.turns-test.false in
    going_spent c.args.start.code.now c.args.start.heartbeat c.args.start.forks c.args.start.steps c.args.start.task c.turns.left (record { task = c.turns.task; opened = reverse c.turns.opened.items; tally = c.turns.tally }) c.turns.invariant (omega (arith, none)) ∙ ap Some (sym c.report-2.ensures)
