use Rattle.std.proofs.Common.{ℕ, ◌+◌, ap, sym, subst, ◌∙◌}
use Rattle.beat_count.specs.BeatState.{BeatState}
use Rattle.tpal_machine.specs.Answer.{IsFlow}
use Rattle.tpal_machine.specs.Fit.{IsInstr}
use Rattle.tpal_machine.specs.Seen.{state_of}
use Rattle.tpal_machine.specs.Step.{Step, executed}
use Rattle.tpal_machine.proofs.Fits.{instr_fits, term_fits}
use Rattle.tpal_machine.proofs.Steps.{step_of_instr, step_of_term}
use Rattle.tpal_machine.proofs.execute.step.Goals as goal

pub execute-requires-clause-fits : goal.execute-requires-clause-fits
execute-requires-clause-fits c =
    subst (λ (n : ℕ). IsInstr n c.in-Some.instr.now) (sym c.requires.tables)
    (instr_fits c.args.code.now.tables c.args.code.now.blocks c.args.machine.now.block c.args.machine.now.at c.args.block.now c.in-Some.instr.now c.requires.right c.requires.block c.in-Some.ensures.found)

pub finish-requires : goal.finish-requires
finish-requires c = record { fits = term_fits c.args.code.now.tables c.args.code.now.blocks c.args.machine.now.block c.args.block.now c.requires.right c.requires.block }

pub returns-in-Some-clause-flow : goal.returns-in-Some-clause-flow
returns-in-Some-clause-flow c =
    let before = state_of c.args.machine.now in
    subst (λ (s : Step). IsFlow c.args.code.now s c.execute.result (state_of c.execute.new.machine))
    (sym (step_of_instr c.args.code.now c.args.pace.heartbeat c.args.pace.allowed before c.args.block.now c.in-Some.instr.now c.requires.block c.in-Some.ensures.found
    ∙ ap (λ (b : BeatState). executed c.args.code.now c.args.pace.heartbeat c.args.pace.allowed c.in-Some.instr.now (record before { beat = b; at = c.args.machine.now.at + 1 })) (sym c.count_one.ensures)))
    c.execute.ensures.flow

pub returns-in-None-clause-flow : goal.returns-in-None-clause-flow
returns-in-None-clause-flow c =
    let before = state_of c.args.machine.now in
    subst (λ (s : Step). IsFlow c.args.code.now s c.finish.result (state_of c.finish.new.machine))
    (sym (step_of_term c.args.code.now c.args.pace.heartbeat c.args.pace.allowed before (record before { beat = c.count_one.new.self }) c.args.block.now c.requires.block c.in-None.ensures.found
    (λ i. record before { beat = sym c.count_one.ensures i; at = c.args.machine.now.at + 1 })))
    c.finish.ensures.flow
