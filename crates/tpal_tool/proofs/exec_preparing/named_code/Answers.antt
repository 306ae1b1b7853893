use Rattle.std.proofs.Common.{◌≡◌, ◌≤◌, rules, ℕ, List, length, sym, subst}
use Rattle.std.specs.Prelude.{Option, Some, IfSome}
use Rattle.tpal_tool.specs.declared.fetching.TheConstants.{MAX_CODE_BYTES}
use Rattle.tpal_tool.specs.Answering.{IsFaultOf, OwesRefusal}
use Rattle.tpal_tool.specs.Owed.{Owed}
use Rattle.tpal_tool.specs.Shelf.{HasRisen}
use Rattle.tpal_tool.specs.Words.{Exec}
use Rattle.tpal_tool.proofs.Endings.{ok_map, turned}
use Rattle.tpal_tool.proofs.CallFaults.{err_map, fault_more, refuses_code, refuses_long_code}
use Rattle.tpal_tool.proofs.exec_preparing.named_code.Goals as goal

pub returns-in_err-source-clause-fault : goal.returns-in_err-source-clause-fault
returns-in_err-source-clause-fault g c = λ over options.
    let name : List ℕ = c.args.name.now in
    let told : List ℕ → Option (List ℕ) = g.S.Shelf.text c.args.shelf.now in
    let is_fault : IsFaultOf (OwesRefusal (Owed (Some (Exec name over options)) told)) (HasRisen (g.S.Shelf.faults c.args.shelf.now name) (g.S.Shelf.faults c.fetched.new.shelf name)) c.in_err-source.field-0.0 =
    fault_more c.in_err-source.field-0.0 (refuses_long_code told name over options) (λ risen. risen) c.in_err-source.ensures.fault in
    search rules

pub returns-clause-code : goal.returns-clause-code
returns-clause-code g c =
    let told : Option (List ℕ) = g.S.Shelf.text c.args.shelf.now c.args.name.now in
    let source : List ℕ = c.deref.result.now in
    let is_source : IfSome told (λ t. source ≡ t) = subst (λ (s : List ℕ). IfSome told (λ t. s ≡ t)) (sym c.deref.ensures.value) c.in_ok-source.ensures.told in
    let low : length source ≤ MAX_CODE_BYTES = subst (λ (s : List ℕ). length s ≤ MAX_CODE_BYTES) (sym c.deref.ensures.value) c.in_ok-source.ensures.within in
    ok_map c.judge_code.result (λ code accepts. record { source = source; is_source = turned told source is_source; low = low; accepts = accepts }) c.judge_code.ensures.accepted

pub returns-clause-fault : goal.returns-clause-fault
returns-clause-fault g c over options =
    let told : List ℕ → Option (List ℕ) = g.S.Shelf.text c.args.shelf.now in
    let name : List ℕ = c.args.name.now in
    let source : List ℕ = c.deref.result.now in
    let is_source : IfSome (told name) (λ t. source ≡ t) = subst (λ (s : List ℕ). IfSome (told name) (λ t. s ≡ t)) (sym c.deref.ensures.value) c.in_ok-source.ensures.told in
    let low : length source ≤ MAX_CODE_BYTES = subst (λ (s : List ℕ). length s ≤ MAX_CODE_BYTES) (sym c.deref.ensures.value) c.in_ok-source.ensures.within in
    err_map c.judge_code.result (λ h. fault_more h (refuses_code told name over options source (turned (told name) source is_source) low) (λ never. absurd never)) c.judge_code.ensures.fault
