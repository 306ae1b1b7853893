use Rattle.std.proofs.Common.{◌-◌, ap}
use Rattle.tp_value.specs.declared.limits.TheConstants.{MAX_CALL_DEPTH}
use Rattle.loop_meaning.specs.Statements.{Called}
use Rattle.loop_meaning.proofs.Blind.{call_vars}
use Rattle.loop_meaning.proofs.laws.calls_see_no_variables.Goals as goal

pub returns-clause-kept : goal.returns-clause-kept
returns-clause-kept c =
    λ depth rs f place ns begin s.
    ap (λ (d : Called). d.ran.state.vars) (call_vars c.args.program.now.funcs.items c.args.fuel (MAX_CALL_DEPTH - depth) f place ns begin s s.vars)

pub returns-clause-unseen : goal.returns-clause-unseen
returns-clause-unseen c = λ depth rs f place ns begin s vs. call_vars c.args.program.now.funcs.items c.args.fuel (MAX_CALL_DEPTH - depth) f place ns begin s vs
