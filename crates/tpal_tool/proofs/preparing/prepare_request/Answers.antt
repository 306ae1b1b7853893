use Rattle.std.proofs.Common.{◌≡◌, rules, Bor, ℕ, List, refl, sym, subst}
use Rattle.std.specs.Prelude.{Option, Some, IsSomeAnd, option_map}
use Rattle.loop_syntax.specs.declared.program.Program.{Program}
use Rattle.tpal_syntax.specs.Listing.{Listing}
use Rattle.tpal_syntax.specs.declared.versions.Version.TheVariants.{Two}
use Rattle.tpal_syntax.specs.Text.{CodeTextIn}
use Rattle.tpal_tool.specs.declared.prepared.PreparedExec.{PreparedExec}
use Rattle.tpal_tool.specs.declared.prepared.PreparedRun.{PreparedRun}
use Rattle.tpal_tool.specs.declared.refusal.CallFault.{CallFault}
use Rattle.tpal_tool.specs.declared.request.Request.{Request}
use Rattle.tpal_tool.specs.declared.status.Status.TheVariants.{Done}
use Rattle.tpal_tool.specs.Answering.{IsFaultOf, OwesRefusal, status_with}
use Rattle.tpal_tool.specs.Asking.{command_of, exec_options_seen, options_seen}
use Rattle.tpal_tool.specs.Lines.{line_of}
use Rattle.tpal_tool.specs.Owed.{NamedRunOwes, Owed, ReadFailed, program_failed}
use Rattle.tpal_tool.specs.Shelf.{HasRisen}
use Rattle.tpal_tool.specs.Told.{IsProgramOf}
use Rattle.tpal_tool.specs.Words.{Compile, Options, Run}
use Rattle.tpal_tool.specs.Preparing.{IsPreparedExec, IsPreparedFor}
use Rattle.tpal_tool.proofs.Endings.{compiled-owed, later-failed, run-owed, tables-failed}
use Rattle.tpal_tool.proofs.Finishing.{prepared_more}
use Rattle.tpal_tool.proofs.CallFaults.{fault_more}
use Rattle.tpal_tool.proofs.preparing.prepare_request.Goals as goal

pub returns-in_err-program-in-Run-clause-fault : goal.returns-in_err-program-in-Run-clause-fault
returns-in_err-program-in-Run-clause-fault g c =
    let told : List ℕ → Option (List ℕ) = g.S.Shelf.text c.args.shelf.now in
    let old : List ℕ → ℕ = g.S.Shelf.faults c.args.shelf.now in
    let new : List ℕ → ℕ = g.S.Shelf.faults c.named_program.new.shelf in
    let name : List ℕ = c.in-Run.run'.program.now in
    let over : Option (List ℕ) = option_map {T = Bor (List ℕ)} {U = List ℕ} (λ t. t.now) c.in-Run.run'.tables in
    let options : Options = options_seen c.in-Run.run'.options in
    let e : CallFault = c.in_err-program-in-Run.field-0.0 in
    let is_fault : IsFaultOf (OwesRefusal (Owed (Some (command_of c.args.request)) told)) (ReadFailed (Some (command_of c.args.request)) told old new) e =
    subst (λ (r : Request). IsFaultOf (OwesRefusal (Owed (Some (command_of r)) told)) (ReadFailed (Some (command_of r)) told old new) e) (sym c.in-Run.is)
    (fault_more e (λ r owed. owed) (λ risen. program_failed {command = Run name over options} {name = name} refl refl risen) (c.in_err-program-in-Run.ensures.fault (Run name over options) refl)) in
    search rules

pub returns-in_err-prepare_named_run-in-Run-clause-fault : goal.returns-in_err-prepare_named_run-in-Run-clause-fault
returns-in_err-prepare_named_run-in-Run-clause-fault g c =
    let told : List ℕ → Option (List ℕ) = g.S.Shelf.text c.args.shelf.now in
    let name : List ℕ = c.in-Run.run'.program.now in
    let over : Option (List ℕ) = option_map {T = Bor (List ℕ)} {U = List ℕ} (λ t. t.now) c.in-Run.run'.tables in
    let options : Options = options_seen c.in-Run.run'.options in
    let program : Program = c.in_ok-program-in-Run.program in
    let p : IsProgramOf (told name) program = c.in_ok-program-in-Run.ensures.program in
    let same : g.S.Shelf.text c.named_program.new.shelf ≡ told = λ i other. c.named_program.ensures.texts other i in
    let old : List ℕ → ℕ = g.S.Shelf.faults c.args.shelf.now in
    let mid : List ℕ → ℕ = g.S.Shelf.faults c.named_program.new.shelf in
    let new : List ℕ → ℕ = g.S.Shelf.faults c.prepare_named_run.new.shelf in
    let e : CallFault = c.in_err-prepare_named_run-in-Run.field-0.0 in
    let part : IsFaultOf (OwesRefusal (NamedRunOwes program told over options)) (IsSomeAnd over (λ n. HasRisen (mid n) (new n))) e =
    subst (λ (texts : List ℕ → Option (List ℕ)). IsFaultOf (OwesRefusal (NamedRunOwes program texts over options)) (IsSomeAnd over (λ n. HasRisen (mid n) (new n))) e) same c.in_err-prepare_named_run-in-Run.ensures.fault in
    let is_fault : IsFaultOf (OwesRefusal (Owed (Some (command_of c.args.request)) told)) (ReadFailed (Some (command_of c.args.request)) told old new) e =
    subst (λ (r : Request). IsFaultOf (OwesRefusal (Owed (Some (command_of r)) told)) (ReadFailed (Some (command_of r)) told old new) e) (sym c.in-Run.is)
    (fault_more e
    (λ r owed. run-owed told name over options program (status_with r) (line_of r) p owed)
    (λ risen. later-failed (Some (Run name over options)) told told old mid new (λ n. refl) c.named_program.ensures.counts (tables-failed told name over options program mid new p risen))
    part) in
    search rules

pub returns-in_ok-prepare_named_run-in-Run-clause-prepared : goal.returns-in_ok-prepare_named_run-in-Run-clause-prepared
returns-in_ok-prepare_named_run-in-Run-clause-prepared g c =
    let told : List ℕ → Option (List ℕ) = g.S.Shelf.text c.args.shelf.now in
    let name : List ℕ = c.in-Run.run'.program.now in
    let over : Option (List ℕ) = option_map {T = Bor (List ℕ)} {U = List ℕ} (λ t. t.now) c.in-Run.run'.tables in
    let options : Options = options_seen c.in-Run.run'.options in
    let program : Program = c.in_ok-program-in-Run.program in
    let p : IsProgramOf (told name) program = c.in_ok-program-in-Run.ensures.program in
    let same : g.S.Shelf.text c.named_program.new.shelf ≡ told = λ i other. c.named_program.ensures.texts other i in
    let run : PreparedRun = c.in_ok-prepare_named_run-in-Run.field-0 in
    let prepared : IsPreparedFor (NamedRunOwes program told over options) run.code run.held.items (options_seen run.options) =
    subst (λ (texts : List ℕ → Option (List ℕ)). IsPreparedFor (NamedRunOwes program texts over options) run.code run.held.items (options_seen run.options)) same c.in_ok-prepare_named_run-in-Run.ensures.prepared in
    subst (λ (r : Request). IsPreparedFor (Owed (Some (command_of r)) told) run.code run.held.items (options_seen run.options)) (sym c.in-Run.is)
    (prepared_more run.code run.held.items (options_seen run.options) (λ status text owes. run-owed told name over options program status text p owes) prepared)

pub returns-in_err-program-in-Compile-clause-fault : goal.returns-in_err-program-in-Compile-clause-fault
returns-in_err-program-in-Compile-clause-fault g c =
    let told : List ℕ → Option (List ℕ) = g.S.Shelf.text c.args.shelf.now in
    let old : List ℕ → ℕ = g.S.Shelf.faults c.args.shelf.now in
    let new : List ℕ → ℕ = g.S.Shelf.faults c.named_program-in-Compile.new.shelf in
    let name : List ℕ = c.in-Compile.name.now in
    let e : CallFault = c.in_err-program-in-Compile.field-0.0 in
    let is_fault : IsFaultOf (OwesRefusal (Owed (Some (command_of c.args.request)) told)) (ReadFailed (Some (command_of c.args.request)) told old new) e =
    subst (λ (r : Request). IsFaultOf (OwesRefusal (Owed (Some (command_of r)) told)) (ReadFailed (Some (command_of r)) told old new) e) (sym c.in-Compile.is)
    (fault_more e (λ r owed. owed) (λ risen. program_failed {command = Compile name} {name = name} refl refl risen) (c.in_err-program-in-Compile.ensures.fault (Compile name) refl)) in
    search rules

pub returns-in_ok-code_of-in-Compile-clause-prepared : goal.returns-in_ok-code_of-in-Compile-clause-prepared
returns-in_ok-code_of-in-Compile-clause-prepared g c =
    let told : List ℕ → Option (List ℕ) = g.S.Shelf.text c.args.shelf.now in
    let name : List ℕ = c.in-Compile.name.now in
    let code : Listing = c.in_ok-code_of-in-Compile.field-0 in
    let program : Program = c.in_ok-program-in-Compile.program in
    subst (λ (r : Request). (text : List ℕ) → CodeTextIn Two text code.tables code.blocks → Owed (Some (command_of r)) told Done text) (sym c.in-Compile.is)
    (λ text is_text. compiled-owed told name program Done text c.in_ok-program-in-Compile.ensures.program refl
    (record { code = code; code_text = is_text; owes = c.in_ok-code_of-in-Compile.ensures }))

pub returns-in_err-prepare_sample_run-in-Sample-clause-fault : goal.returns-in_err-prepare_sample_run-in-Sample-clause-fault
returns-in_err-prepare_sample_run-in-Sample-clause-fault g c =
    let told : List ℕ → Option (List ℕ) = g.S.Shelf.text c.args.shelf.now in
    let old : List ℕ → ℕ = g.S.Shelf.faults c.args.shelf.now in
    let e : CallFault = c.in_err-prepare_sample_run-in-Sample.field-0.0 in
    let is_fault : IsFaultOf (OwesRefusal (Owed (Some (command_of c.args.request)) told)) (ReadFailed (Some (command_of c.args.request)) told old old) e =
    subst (λ (r : Request). IsFaultOf (OwesRefusal (Owed (Some (command_of r)) told)) (ReadFailed (Some (command_of r)) told old old) e) (sym c.in-Sample.is)
    (fault_more e (λ r owed. owed) (λ never. absurd never) (c.in_err-prepare_sample_run-in-Sample.ensures.fault told)) in
    search rules

pub returns-in_ok-prepare_sample_run-in-Sample-clause-prepared : goal.returns-in_ok-prepare_sample_run-in-Sample-clause-prepared
returns-in_ok-prepare_sample_run-in-Sample-clause-prepared g c =
    let told : List ℕ → Option (List ℕ) = g.S.Shelf.text c.args.shelf.now in
    let run : PreparedRun = c.in_ok-prepare_sample_run-in-Sample.field-0 in
    subst (λ (r : Request). IsPreparedFor (Owed (Some (command_of r)) told) run.code run.held.items (options_seen run.options)) (sym c.in-Sample.is)
    (c.in_ok-prepare_sample_run-in-Sample.ensures.prepared told)

pub returns-in_err-prepare_exec-in-Exec-clause-fault : goal.returns-in_err-prepare_exec-in-Exec-clause-fault
returns-in_err-prepare_exec-in-Exec-clause-fault g c =
    let told : List ℕ → Option (List ℕ) = g.S.Shelf.text c.args.shelf.now in
    let old : List ℕ → ℕ = g.S.Shelf.faults c.args.shelf.now in
    let new : List ℕ → ℕ = g.S.Shelf.faults c.prepare_exec.new.shelf in
    let e : CallFault = c.in_err-prepare_exec-in-Exec.field-0.0 in
    let is_fault : IsFaultOf (OwesRefusal (Owed (Some (command_of c.args.request)) told)) (ReadFailed (Some (command_of c.args.request)) told old new) e =
    subst (λ (r : Request). IsFaultOf (OwesRefusal (Owed (Some (command_of r)) told)) (ReadFailed (Some (command_of r)) told old new) e) (sym c.in-Exec.is) c.in_err-prepare_exec-in-Exec.ensures.fault in
    search rules

pub returns-in_ok-prepare_exec-in-Exec-clause-prepared : goal.returns-in_ok-prepare_exec-in-Exec-clause-prepared
returns-in_ok-prepare_exec-in-Exec-clause-prepared g c =
    let told : List ℕ → Option (List ℕ) = g.S.Shelf.text c.args.shelf.now in
    let run : PreparedExec = c.in_ok-prepare_exec-in-Exec.field-0 in
    subst (λ (r : Request). IsPreparedExec (Owed (Some (command_of r)) told) run.code run.held.items (exec_options_seen run.options)) (sym c.in-Exec.is)
    c.in_ok-prepare_exec-in-Exec.ensures.prepared
