use Rattle.std.proofs.Common.{◌≡◌, rules, Bor, ℕ, List, length, ◌≤◌, sym, subst}
use Rattle.std.specs.Prelude.{Option, option_map, IfSome, IsSomeAnd}
use Rattle.tp_value.specs.declared.limits.TheConstants.{MAX_TABLES_BYTES}
use Rattle.tpal_tool.specs.Answering.{IsFaultOf, OwesRefusal}
use Rattle.tpal_tool.specs.Asking.{exec_options_seen}
use Rattle.tpal_tool.specs.ExecOwed.{NamedExecOwes, fits}
use Rattle.tpal_tool.specs.Shelf.{HasRisen}
use Rattle.tpal_tool.specs.Told.{text_over}
use Rattle.tpal_tool.proofs.Endings.{ok_map}
use Rattle.tpal_tool.proofs.ExecFinishing.{prepared_exec_more}
use Rattle.tpal_tool.proofs.CallFaults.{err_map, fault_more, refuses_exec_over}
use Rattle.tpal_tool.proofs.exec_preparing.prepare_named_code_run.Goals as goal

pub returns-in_err-tables-clause-fault : goal.returns-in_err-tables-clause-fault
returns-in_err-tables-clause-fault g c =
    let over : Option (List ℕ) = option_map {T = Bor (List ℕ)} {U = List ℕ} (λ t. t.now) c.args.exec.tables in
    let is_fault : IsFaultOf (OwesRefusal (NamedExecOwes c.args.code (g.S.Shelf.text c.args.shelf.now) over (exec_options_seen c.args.exec.options))) (IsSomeAnd over (λ name. HasRisen (g.S.Shelf.faults c.args.shelf.now name) (g.S.Shelf.faults c.fetched_tables.new.shelf name))) c.in_err-tables.field-0.0 =
    fault_more c.in_err-tables.field-0.0 (refuses_exec_over c.args.code (g.S.Shelf.text c.args.shelf.now) over (exec_options_seen c.args.exec.options)) (λ risen. risen) c.in_err-tables.ensures.fault in
    search rules

pub returns-clause-prepared : goal.returns-clause-prepared
returns-clause-prepared g c =
    let over : Option (List ℕ) = option_map {T = Bor (List ℕ)} {U = List ℕ} (λ t. t.now) c.args.exec.tables in
    let told : IfSome (text_over (g.S.Shelf.text c.args.shelf.now) over) (λ text. text ≡ c.deref.result.now) = subst (λ (t : List ℕ). IfSome (text_over (g.S.Shelf.text c.args.shelf.now) over) (λ text. text ≡ t)) (sym c.deref.ensures.value) c.in_ok-tables.ensures.told in
    let within : length c.deref.result.now ≤ MAX_TABLES_BYTES = subst (λ (t : List ℕ). length t ≤ MAX_TABLES_BYTES) (sym c.deref.ensures.value) c.in_ok-tables.ensures.within in
    ok_map c.prepare_code_run.result (λ run is. prepared_exec_more run.code run.held.items (exec_options_seen run.options) (λ status text owes. fits c.deref.result.now told within owes) is) c.prepare_code_run.ensures.prepared

pub returns-clause-fault : goal.returns-clause-fault
returns-clause-fault g c =
    let over : Option (List ℕ) = option_map {T = Bor (List ℕ)} {U = List ℕ} (λ t. t.now) c.args.exec.tables in
    let told : IfSome (text_over (g.S.Shelf.text c.args.shelf.now) over) (λ text. text ≡ c.deref.result.now) = subst (λ (t : List ℕ). IfSome (text_over (g.S.Shelf.text c.args.shelf.now) over) (λ text. text ≡ t)) (sym c.deref.ensures.value) c.in_ok-tables.ensures.told in
    let within : length c.deref.result.now ≤ MAX_TABLES_BYTES = subst (λ (t : List ℕ). length t ≤ MAX_TABLES_BYTES) (sym c.deref.ensures.value) c.in_ok-tables.ensures.within in
    err_map c.prepare_code_run.result (λ h. fault_more h (λ r owes. fits c.deref.result.now told within owes) (λ never. absurd never)) c.prepare_code_run.ensures.fault
