use Rattle.std.proofs.Common.{◌≡◌, ◌≤◌, rules, ℕ, List, length, refl, sym, subst, ◌∙◌}
use Rattle.std.specs.Prelude.{Some}
use Rattle.tp_value.specs.declared.limits.TheConstants.{MAX_SOURCE_BYTES, MAX_TABLES_BYTES}
use Rattle.sample_gen.specs.Texts.{sample_source, sample_tables}
use Rattle.tpal_tool.specs.Answering.{IsFaultOf, OwesRefusal, status_with}
use Rattle.tpal_tool.specs.Asking.{options_seen}
use Rattle.tpal_tool.specs.Lines.{line_of}
use Rattle.tpal_tool.specs.Owed.{Owed}
use Rattle.tpal_tool.specs.Words.{Options, Sample}
use Rattle.tpal_tool.proofs.Endings.{ok_map, sample-owed}
use Rattle.tpal_tool.proofs.Finishing.{prepared_more}
use Rattle.tpal_tool.proofs.CallFaults.{err_map, fault_more, refuses_source}
use Rattle.tpal_tool.proofs.preparing.prepare_sample_run.Goals as goal

pub returns-in_err-program-clause-fault : goal.returns-in_err-program-clause-fault
returns-in_err-program-clause-fault c = λ told.
    let options : Options = options_seen c.args.request.options in
    let source : List ℕ = c.deref.result.now in
    let is_source : sample_source ≡ source = sym (c.deref.ensures.value ∙ c.in_ok-sample.ensures.source) in
    let low : length source ≤ MAX_SOURCE_BYTES = subst (λ (s : List ℕ). length s ≤ MAX_SOURCE_BYTES) (sym c.deref.ensures.value) c.in_ok-sample.ensures.source_fits in
    let is_fault : IsFaultOf (OwesRefusal (Owed (Some (Sample c.args.request.seed options)) told)) ⊥ c.in_err-program.field-0.0 =
    fault_more c.in_err-program.field-0.0 (refuses_source told (Sample c.args.request.seed options) source refl is_source low) (λ never. never) c.in_err-program.ensures.fault in
    search rules

pub returns-clause-prepared : goal.returns-clause-prepared
returns-clause-prepared c = λ told.
    let options : Options = options_seen c.args.request.options in
    let source : List ℕ = c.deref.result.now in
    let tables : List ℕ = c.deref-2.result.now in
    let is_source : sample_source ≡ source = sym (c.deref.ensures.value ∙ c.in_ok-sample.ensures.source) in
    let low : length source ≤ MAX_SOURCE_BYTES = subst (λ (s : List ℕ). length s ≤ MAX_SOURCE_BYTES) (sym c.deref.ensures.value) c.in_ok-sample.ensures.source_fits in
    let is_tables : sample_tables c.args.request.seed 1000 1000 ≡ tables = sym (c.deref-2.ensures.value ∙ c.in_ok-sample.ensures.tables) in
    let few : length tables ≤ MAX_TABLES_BYTES = subst (λ (t : List ℕ). length t ≤ MAX_TABLES_BYTES) (sym c.deref-2.ensures.value) c.in_ok-sample.ensures.tables_fit in
    ok_map c.prepare_run.result (λ run is. prepared_more run.code run.held.items (options_seen run.options) (λ status text owes. sample-owed told c.args.request.seed options c.in_ok-program.program source tables status text is_source low c.in_ok-program.ensures.accepted is_tables few owes) is) c.prepare_run.ensures.prepared

pub returns-clause-fault : goal.returns-clause-fault
returns-clause-fault c = λ told.
    let options : Options = options_seen c.args.request.options in
    let source : List ℕ = c.deref.result.now in
    let tables : List ℕ = c.deref-2.result.now in
    let is_source : sample_source ≡ source = sym (c.deref.ensures.value ∙ c.in_ok-sample.ensures.source) in
    let low : length source ≤ MAX_SOURCE_BYTES = subst (λ (s : List ℕ). length s ≤ MAX_SOURCE_BYTES) (sym c.deref.ensures.value) c.in_ok-sample.ensures.source_fits in
    let is_tables : sample_tables c.args.request.seed 1000 1000 ≡ tables = sym (c.deref-2.ensures.value ∙ c.in_ok-sample.ensures.tables) in
    let few : length tables ≤ MAX_TABLES_BYTES = subst (λ (t : List ℕ). length t ≤ MAX_TABLES_BYTES) (sym c.deref-2.ensures.value) c.in_ok-sample.ensures.tables_fit in
    err_map c.prepare_run.result (λ h. fault_more h (λ r owes. sample-owed told c.args.request.seed options c.in_ok-program.program source tables (status_with r) (line_of r) is_source low c.in_ok-program.ensures.accepted is_tables few owes) (λ never. never)) c.prepare_run.ensures.fault
