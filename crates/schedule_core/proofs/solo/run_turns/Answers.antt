use Rattle.std.specs.Prelude.{nat_lt}
use Rattle.tpal_machine.specs.Answer.{IsRan}
use Rattle.tpal_machine.specs.Turn.{turn_of}
use Rattle.std.proofs.Common.{ℕ, ◌∙◌, List, reverse, ap, sym, subst, arith}
use Rattle.tp_value.specs.declared.values.Outcome.{Outcome}
use Rattle.tpal_machine.specs.declared.ends.Ending.TheVariants.{Root}
use Rattle.schedule_core.specs.declared.lanes.Opened.{Opened}
use Rattle.schedule_core.specs.declared.lanes.Tally.{Tally}
use Rattle.schedule_core.specs.Lanes.{IsSoloState, after_turn}
use Rattle.schedule_core.specs.Solo.{SoloRun}
use Rattle.schedule_core.proofs.Soloing.{Running, running_first, running_fits, running_on}
use Rattle.schedule_core.proofs.Soloing.{running_less, running_over}
use Rattle.schedule_core.proofs.solo.run_turns.Goals as goal

pub turns-init : goal.turns-init
turns-init c =
    subst (λ (o : List Opened). Running c.args.start.code.now c.args.start.heartbeat c.args.start.forks c.args.start.ends.0 c.args.start.task (record { task = c.args.start.task; opened = o; tally = record { tasks = 0; beats = 0; skipped = 0; instructions = 0 } }))
    (sym (ap reverse c.new-opened.ensures.items))
    (running_first c.args.start.code.now c.args.start.heartbeat c.args.start.forks c.args.start.task c.args.start.ends c.requires.no_record c.requires.root c.requires.owes)

pub go_on-requires : goal.go_on-requires
go_on-requires c = running_fits c.args.start.code.now c.args.start.heartbeat c.args.start.forks c.blocks-blocks.ensures.right _ 4294967295 (omega arith) c.args.start.task (record { task = c.turns.task; opened = reverse c.turns.opened.items; tally = c.turns.tally }) c.turns.invariant c.in_range.ensures c.run_task-ran.result (subst (λ (f : ℕ). IsRan (turn_of 4294967295 c.args.start.code.now c.args.start.heartbeat (nat_lt c.turns.tally.beats f) c.turns.task) c.run_task-ran.result) c.from.ensures c.run_task-ran.ensures.ran)

pub turns-smaller : goal.turns-smaller
turns-smaller c =
    let stage = subst (λ s. IsSoloState (after_turn c.args.start.code.now c.run_task-ran.result.turn (reverse c.turns.opened.items) c.turned-tally.result) s (reverse c.go_on.new.opened.items) c.go_on.new.tally) c.in-Runs.is c.in_ok-next.ensures in
    let to = ap (λ (y : Tally). after_turn c.args.start.code.now c.run_task-ran.result.turn (reverse c.turns.opened.items) y) (sym c.turned-tally.ensures) ∙ stage in
    running_less c.args.start.code.now c.args.start.heartbeat c.args.start.forks c.blocks-blocks.ensures.right _ 4294967295 (omega arith) c.args.start.task (record { task = c.turns.task; opened = reverse c.turns.opened.items; tally = c.turns.tally }) c.turns.invariant c.in_range.ensures c.run_task-ran.result (subst (λ (f : ℕ). IsRan (turn_of 4294967295 c.args.start.code.now c.args.start.heartbeat (nat_lt c.turns.tally.beats f) c.turns.task) c.run_task-ran.result) c.from.ensures c.run_task-ran.ensures.ran) (record { task = c.in-Runs.next; opened = reverse c.go_on.new.opened.items; tally = c.go_on.new.tally }) to

pub turns-preserved : goal.turns-preserved
turns-preserved c =
    let stage = subst (λ s. IsSoloState (after_turn c.args.start.code.now c.run_task-ran.result.turn (reverse c.turns.opened.items) c.turned-tally.result) s (reverse c.go_on.new.opened.items) c.go_on.new.tally) c.in-Runs.is c.in_ok-next.ensures in
    let to = ap (λ (y : Tally). after_turn c.args.start.code.now c.run_task-ran.result.turn (reverse c.turns.opened.items) y) (sym c.turned-tally.ensures) ∙ stage in
    running_on c.args.start.code.now c.args.start.heartbeat c.args.start.forks c.blocks-blocks.ensures.right _ 4294967295 (omega arith) c.args.start.task (record { task = c.turns.task; opened = reverse c.turns.opened.items; tally = c.turns.tally }) c.turns.invariant c.in_range.ensures c.run_task-ran.result (subst (λ (f : ℕ). IsRan (turn_of 4294967295 c.args.start.code.now c.args.start.heartbeat (nat_lt c.turns.tally.beats f) c.turns.task) c.run_task-ran.result) c.from.ensures c.run_task-ran.ensures.ran) (record { task = c.in-Runs.next; opened = reverse c.go_on.new.opened.items; tally = c.go_on.new.tally }) to

pub returns-in-Over-clause-run : goal.returns-in-Over-clause-run
returns-in-Over-clause-run c =
    let stage = subst (λ s. IsSoloState (after_turn c.args.start.code.now c.run_task-ran.result.turn (reverse c.turns.opened.items) c.turned-tally.result) s (reverse c.go_on.new.opened.items) c.go_on.new.tally) c.in-Over.is c.in_ok-next.ensures in
    let to = ap (λ (y : Tally). after_turn c.args.start.code.now c.run_task-ran.result.turn (reverse c.turns.opened.items) y) (sym c.turned-tally.ensures) ∙ stage in
    let same = running_over c.args.start.code.now c.args.start.heartbeat c.args.start.forks c.blocks-blocks.ensures.right _ 4294967295 (omega arith) c.args.start.task (record { task = c.turns.task; opened = reverse c.turns.opened.items; tally = c.turns.tally }) c.turns.invariant c.in_range.ensures c.run_task-ran.result (subst (λ (f : ℕ). IsRan (turn_of 4294967295 c.args.start.code.now c.args.start.heartbeat (nat_lt c.turns.tally.beats f) c.turns.task) c.run_task-ran.result) c.from.ensures c.run_task-ran.ensures.ran) c.in-Over.outcome c.go_on.new.tally to in
    subst (λ (o : Outcome). SoloRun c.args.start.code.now c.args.start.heartbeat c.args.start.forks c.args.start.task o c.go_on.new.tally) (sym same.0) (subst (λ (y : Tally). SoloRun c.args.start.code.now c.args.start.heartbeat c.args.start.forks c.args.start.task c.turns.invariant.outcome y) (sym same.1) c.turns.invariant.whole)

pub returns-in-Over-clause-owed : goal.returns-in-Over-clause-owed
returns-in-Over-clause-owed c = λ e owes.
    let stage = subst (λ s. IsSoloState (after_turn c.args.start.code.now c.run_task-ran.result.turn (reverse c.turns.opened.items) c.turned-tally.result) s (reverse c.go_on.new.opened.items) c.go_on.new.tally) c.in-Over.is c.in_ok-next.ensures in
    let to = ap (λ (y : Tally). after_turn c.args.start.code.now c.run_task-ran.result.turn (reverse c.turns.opened.items) y) (sym c.turned-tally.ensures) ∙ stage in
    let same = running_over c.args.start.code.now c.args.start.heartbeat c.args.start.forks c.blocks-blocks.ensures.right _ 4294967295 (omega arith) c.args.start.task (record { task = c.turns.task; opened = reverse c.turns.opened.items; tally = c.turns.tally }) c.turns.invariant c.in_range.ensures c.run_task-ran.result (subst (λ (f : ℕ). IsRan (turn_of 4294967295 c.args.start.code.now c.args.start.heartbeat (nat_lt c.turns.tally.beats f) c.turns.task) c.run_task-ran.result) c.from.ensures c.run_task-ran.ensures.ran) c.in-Over.outcome c.go_on.new.tally to in
    c.turns.invariant.one e owes ∙ ap Root (sym same.0)
