use Rattle.std.proofs.Common.{◌≡◌, rules, Bor, ℕ, List, refl, subst}
use Rattle.std.specs.Prelude.{Option, Some, IsSomeAnd, option_map}
use Rattle.tpal_syntax.specs.Listing.{Listing}
use Rattle.tpal_tool.specs.declared.refusal.CallFault.{CallFault}
use Rattle.tpal_tool.specs.Answering.{IsFaultOf, OwesRefusal, status_with}
use Rattle.tpal_tool.specs.Asking.{exec_options_seen}
use Rattle.tpal_tool.specs.ExecOwed.{NamedExecOwes}
use Rattle.tpal_tool.specs.Lines.{line_of}
use Rattle.tpal_tool.specs.Owed.{Owed, ReadFailed, code_failed}
use Rattle.tpal_tool.specs.Preparing.{IsPreparedExec}
use Rattle.tpal_tool.specs.Shelf.{HasRisen}
use Rattle.tpal_tool.specs.Told.{IsCodeOf}
use Rattle.tpal_tool.specs.Words.{Exec, ExecOptions}
use Rattle.tpal_tool.proofs.Endings.{exec-owed, exec-tables-failed, later-failed, ok_map}
use Rattle.tpal_tool.proofs.ExecFinishing.{prepared_exec_more}
use Rattle.tpal_tool.proofs.CallFaults.{err_map, fault_more}
use Rattle.tpal_tool.proofs.exec_preparing.prepare_exec.Goals as goal

pub returns-in_err-code-clause-fault : goal.returns-in_err-code-clause-fault
returns-in_err-code-clause-fault g c =
    let told : List ℕ → Option (List ℕ) = g.S.Shelf.text c.args.shelf.now in
    let old : List ℕ → ℕ = g.S.Shelf.faults c.args.shelf.now in
    let new : List ℕ → ℕ = g.S.Shelf.faults c.named_code.new.shelf in
    let name : List ℕ = c.args.exec.code.now in
    let over : Option (List ℕ) = option_map {T = Bor (List ℕ)} {U = List ℕ} (λ t. t.now) c.args.exec.tables in
    let options : ExecOptions = exec_options_seen c.args.exec.options in
    let e : CallFault = c.in_err-code.field-0.0 in
    let is_fault : IsFaultOf (OwesRefusal (Owed (Some (Exec name over options)) told)) (ReadFailed (Some (Exec name over options)) told old new) e =
    fault_more e (λ r owed. owed) (λ risen. code_failed {command = Exec name over options} {name = name} refl refl risen) (c.in_err-code.ensures.fault over options) in
    search rules

pub returns-clause-prepared : goal.returns-clause-prepared
returns-clause-prepared g c =
    let told : List ℕ → Option (List ℕ) = g.S.Shelf.text c.args.shelf.now in
    let name : List ℕ = c.args.exec.code.now in
    let over : Option (List ℕ) = option_map {T = Bor (List ℕ)} {U = List ℕ} (λ t. t.now) c.args.exec.tables in
    let options : ExecOptions = exec_options_seen c.args.exec.options in
    let code : Listing = c.in_ok-code.code in
    let p : IsCodeOf (told name) code = c.in_ok-code.ensures.code in
    let same : g.S.Shelf.text c.named_code.new.shelf ≡ told = λ i other. c.named_code.ensures.texts other i in
    ok_map c.prepare_named_code_run.result
    (λ run is. prepared_exec_more run.code run.held.items (exec_options_seen run.options) (λ status text owes. exec-owed told name over options code status text p owes)
    (subst (λ (texts : List ℕ → Option (List ℕ)). IsPreparedExec (NamedExecOwes code texts over options) run.code run.held.items (exec_options_seen run.options)) same is))
    c.prepare_named_code_run.ensures.prepared

pub returns-clause-fault : goal.returns-clause-fault
returns-clause-fault g c =
    let told : List ℕ → Option (List ℕ) = g.S.Shelf.text c.args.shelf.now in
    let name : List ℕ = c.args.exec.code.now in
    let over : Option (List ℕ) = option_map {T = Bor (List ℕ)} {U = List ℕ} (λ t. t.now) c.args.exec.tables in
    let options : ExecOptions = exec_options_seen c.args.exec.options in
    let code : Listing = c.in_ok-code.code in
    let p : IsCodeOf (told name) code = c.in_ok-code.ensures.code in
    let same : g.S.Shelf.text c.named_code.new.shelf ≡ told = λ i other. c.named_code.ensures.texts other i in
    let old : List ℕ → ℕ = g.S.Shelf.faults c.args.shelf.now in
    let mid : List ℕ → ℕ = g.S.Shelf.faults c.named_code.new.shelf in
    let new : List ℕ → ℕ = g.S.Shelf.faults c.prepare_named_code_run.new.shelf in
    err_map c.prepare_named_code_run.result
    (λ e part. fault_more e
    (λ r owed. exec-owed told name over options code (status_with r) (line_of r) p owed)
    (λ risen. later-failed (Some (Exec name over options)) told told old mid new (λ n. refl) c.named_code.ensures.counts (exec-tables-failed told name over options code mid new p risen))
    (subst (λ (texts : List ℕ → Option (List ℕ)). IsFaultOf (OwesRefusal (NamedExecOwes code texts over options)) (IsSomeAnd over (λ n. HasRisen (mid n) (new n))) e) same part))
    c.prepare_named_code_run.ensures.fault
