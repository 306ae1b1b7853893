use Rattle.std.proofs.Common.{◌≡◌, rules, List, None, subst}
use Rattle.tp_value.specs.declared.values.Table.{Table}
use Rattle.tpal_syntax.specs.declared.blocks.CodeTable.{CodeTable}
use Rattle.tpal_tool.specs.Answering.{IsFaultOf, OwesRefusal, RefusesMissingInput}
use Rattle.tpal_tool.specs.Asking.{exec_options_seen}
use Rattle.tpal_tool.specs.CodeInputs.{AreCodeHeld, first_missing_input}
use Rattle.tpal_tool.specs.ExecOwed.{ExecRunOwes}
use Rattle.tpal_tool.proofs.CodeDeclarations.{as_many_held}
use Rattle.tpal_tool.proofs.ExecFinishing.{exec_owes}
use Rattle.tpal_tool.proofs.CallFaults.{fault_more, refuses_exec_missing, refuses_exec_tables}
use Rattle.tpal_tool.proofs.exec_preparing.prepare_code_run.Goals as goal

pub returns-in_err-given-clause-fault : goal.returns-in_err-given-clause-fault
returns-in_err-given-clause-fault c =
    let is_fault : IsFaultOf (OwesRefusal (ExecRunOwes c.args.code c.args.tables.now (exec_options_seen c.args.options))) ⊥ c.in_err-given.field-0.0 =
    fault_more c.in_err-given.field-0.0 (refuses_exec_tables c.args.code c.args.tables.now (exec_options_seen c.args.options)) (λ never. never) c.in_err-given.ensures.fault in
    search rules

pub returns-in_err-have_inputs-clause-fault : goal.returns-in_err-have_inputs-clause-fault
returns-in_err-have_inputs-clause-fault c =
    let here : c.tables.result.now ≡ c.args.code.tables = search rules in
    let lacks : IsFaultOf (RefusesMissingInput c.args.code.tables c.in_ok-given.given.items) ⊥ c.in_err-have_inputs.field-0.0 =
    subst (λ (ts : List CodeTable). IsFaultOf (RefusesMissingInput ts c.in_ok-given.given.items) ⊥ c.in_err-have_inputs.field-0.0) here
    (subst (λ (ts : List Table). IsFaultOf (RefusesMissingInput c.tables.result.now ts) ⊥ c.in_err-have_inputs.field-0.0) c.deref.ensures.value c.in_err-have_inputs.ensures.fault) in
    let is_fault : IsFaultOf (OwesRefusal (ExecRunOwes c.args.code c.args.tables.now (exec_options_seen c.args.options))) ⊥ c.in_err-have_inputs.field-0.0 =
    fault_more c.in_err-have_inputs.field-0.0 (refuses_exec_missing c.args.code c.args.tables.now (exec_options_seen c.args.options) c.in_ok-given.given.items c.in_ok-given.ensures.are) (λ never. never) lacks in
    search rules

pub returns-clause-prepared : goal.returns-clause-prepared
returns-clause-prepared c =
    let given : List Table = c.in_ok-given.given.items in
    let complete : first_missing_input c.args.code.tables given ≡ None = search rules in
    let are_held : AreCodeHeld c.args.code.tables given c.in_ok-held.held.items = search rules in
    record {
      as_many = as_many_held c.args.code.tables given c.in_ok-held.held.items are_held;
      done = exec_owes c.args.code c.args.tables.now (exec_options_seen c.args.options) given c.in_ok-held.held.items c.in_ok-given.ensures.are complete are_held;
    }
