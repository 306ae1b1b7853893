use Rattle.schedule_core.proofs.Once.{told_pause, told_beat, told_asks, told_forks, told_arrived}
use Rattle.schedule_core.proofs.Once.{told_halted, told_stuck}
use Rattle.schedule_core.proofs.stepping.step_once.Goals as goal

pub returns-then-beats-eq0-clause-step : goal.returns-then-beats-eq0-clause-step
returns-then-beats-eq0-clause-step c = told_pause c.args.code.now c.args.pace.heartbeat c.args.pace.allowed c.args.task c.run_task-turn.result c.run_task-turn.ensures.ran c.requires.right c.requires.runs c.in-Pause.task c.in-Pause.is c.if-beats-eq0.true

pub returns-else-beats-eq0-clause-step : goal.returns-else-beats-eq0-clause-step
returns-else-beats-eq0-clause-step c = told_beat c.args.code.now c.args.pace.heartbeat c.args.pace.allowed c.args.task c.run_task-turn.result c.run_task-turn.ensures.ran c.requires.right c.requires.runs c.in-Pause.task c.in-Pause.is c.if-beats-eq0.false

pub returns-in-NeedRecord-clause-step : goal.returns-in-NeedRecord-clause-step
returns-in-NeedRecord-clause-step c = told_asks c.args.code.now c.args.pace.heartbeat c.args.pace.allowed c.args.task c.run_task-turn.result c.run_task-turn.ensures.ran c.requires.right c.requires.runs c.in-NeedRecord.task c.in-NeedRecord.is

pub returns-in-Forked-clause-step : goal.returns-in-Forked-clause-step
returns-in-Forked-clause-step c = told_forks c.args.code.now c.args.pace.heartbeat c.args.pace.allowed c.args.task c.run_task-turn.result c.run_task-turn.ensures.ran c.requires.right c.requires.runs c.in-Forked.left c.in-Forked.rest c.in-Forked.child c.in-Forked.rec c.in-Forked.is

pub returns-in-Arrived-clause-step : goal.returns-in-Arrived-clause-step
returns-in-Arrived-clause-step c = told_arrived c.args.code.now c.args.pace.heartbeat c.args.pace.allowed c.args.task c.run_task-turn.result c.run_task-turn.ensures.ran c.requires.right c.requires.runs c.in-Arrived.rec c.in-Arrived.side c.in-Arrived.out c.in-Arrived.is

pub returns-in-Halted-clause-step : goal.returns-in-Halted-clause-step
returns-in-Halted-clause-step c = told_halted c.args.code.now c.args.pace.heartbeat c.args.pace.allowed c.args.task c.run_task-turn.result c.run_task-turn.ensures.ran c.requires.right c.requires.runs c.in-Halted.outcome c.in-Halted.is

pub returns-in-Stuck-clause-step : goal.returns-in-Stuck-clause-step
returns-in-Stuck-clause-step c = told_stuck c.args.code.now c.args.pace.heartbeat c.args.pace.allowed c.args.task c.run_task-turn.result c.run_task-turn.ensures.ran c.requires.right c.requires.runs c.in-Stuck.fault c.in-Stuck.block c.in-Stuck.at c.in-Stuck.is
