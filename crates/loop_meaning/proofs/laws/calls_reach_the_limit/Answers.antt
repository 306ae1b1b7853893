use Rattle.std.proofs.Common.{◌-◌}
use Rattle.tp_value.specs.declared.limits.TheConstants.{MAX_CALL_DEPTH}
use Rattle.loop_meaning.proofs.Depth.{call_enters, call_traps, call_spends}
use Rattle.loop_meaning.proofs.laws.calls_reach_the_limit.Goals as goal

pub returns-clause-enters : goal.returns-clause-enters
returns-clause-enters c = λ depth rs f place ns begin s h t. call_enters c.args.program.now c.args.fuel rs f place ns begin s depth h t

pub returns-clause-traps : goal.returns-clause-traps
returns-clause-traps c = λ rs f place ns begin s t. call_traps c.args.program.now c.args.fuel rs f place ns begin s t

pub returns-clause-spent : goal.returns-clause-spent
returns-clause-spent c = λ depth rs f place ns begin s h. call_spends c.args.program.now.funcs.items c.args.fuel f place ns begin s (MAX_CALL_DEPTH - depth) h
