use Rattle.std.proofs.Common.{◌≡◌, rules, List, None, ap, ◌∙◌, subst}
use Rattle.tp_value.specs.declared.values.Table.{Table}
use Rattle.loop_syntax.specs.declared.program.Program.{Program}
use Rattle.loop_syntax.specs.declared.program.TableDecl.{TableDecl}
use Rattle.tpal_tool.specs.Answering.{IsFaultOf, OwesRefusal, RefusesMissing}
use Rattle.tpal_tool.specs.Asking.{options_seen}
use Rattle.tpal_tool.specs.Inputs.{first_missing}
use Rattle.tpal_tool.specs.Owed.{RunOwes}
use Rattle.tpal_tool.proofs.Declarations.{are_named, as_declared, missing_input}
use Rattle.tpal_tool.proofs.Finishing.{run_owes}
use Rattle.tpal_tool.proofs.CallFaults.{fault_more, refuses_missing, refuses_tables}
use Rattle.tpal_tool.proofs.preparing.prepare_run.Goals as goal

pub returns-in_err-given-clause-fault : goal.returns-in_err-given-clause-fault
returns-in_err-given-clause-fault c =
    let is_fault : IsFaultOf (OwesRefusal (RunOwes c.args.program.now c.args.tables.now (options_seen c.args.options))) ⊥ c.in_err-given.field-0.0 =
    fault_more c.in_err-given.field-0.0 (refuses_tables c.args.program.now c.args.tables.now (options_seen c.args.options)) (λ never. never) c.in_err-given.ensures.fault in
    search rules

pub returns-in_err-have_all-clause-fault : goal.returns-in_err-have_all-clause-fault
returns-in_err-have_all-clause-fault c =
    let here : c.deref.result.now ≡ c.args.program.now.tables.items = c.deref.ensures.value ∙ ap (λ (p : Program). p.tables.items) c.program.ensures.program in
    let lacks : IsFaultOf (RefusesMissing c.args.program.now.tables.items c.in_ok-given.given.items) ⊥ c.in_err-have_all.field-0.0 =
    subst (λ (ds : List TableDecl). IsFaultOf (RefusesMissing ds c.in_ok-given.given.items) ⊥ c.in_err-have_all.field-0.0) here
    (subst (λ (ts : List Table). IsFaultOf (RefusesMissing c.deref.result.now ts) ⊥ c.in_err-have_all.field-0.0) c.deref-2.ensures.value c.in_err-have_all.ensures.fault) in
    let is_fault : IsFaultOf (OwesRefusal (RunOwes c.args.program.now c.args.tables.now (options_seen c.args.options))) ⊥ c.in_err-have_all.field-0.0 =
    fault_more c.in_err-have_all.field-0.0 (refuses_missing c.args.program.now c.args.tables.now (options_seen c.args.options) c.in_ok-given.given.items c.in_ok-given.ensures.are) (λ never. never) lacks in
    search rules

pub hold_inputs-requires-clause-complete : goal.hold_inputs-requires-clause-complete
hold_inputs-requires-clause-complete c =
    let complete : first_missing c.args.program.now.tables.items c.in_ok-given.given.items ≡ None = search rules in
    missing_input c.args.program.now.tables.items c.in_ok-code.code.tables c.in_ok-given.given.items c.in_ok-code.ensures.declared ∙ complete

pub returns-clause-prepared : goal.returns-clause-prepared
returns-clause-prepared c =
    let given : List Table = c.in_ok-given.given.items in
    let complete : first_missing c.args.program.now.tables.items given ≡ None = search rules in
    record {
      program = c.args.program.now;
      inputs = given;
      first = record {
        owes = c.in_ok-code.ensures;
        tables = c.in_ok-given.ensures.tables;
        named = are_named c.args.program.now.tables.items given complete;
        are_held = as_declared c.args.program.now.tables.items c.in_ok-code.code.tables given c.in_ok-held.held.items c.in_ok-code.ensures.declared c.in_ok-held.ensures;
      };
      done = run_owes c.args.program.now c.args.tables.now (options_seen c.args.options) given c.in_ok-given.ensures.are complete;
    }
