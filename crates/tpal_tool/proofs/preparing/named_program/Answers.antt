use Rattle.std.proofs.Common.{◌≡◌, ◌≤◌, rules, ℕ, List, length, sym, subst}
use Rattle.std.specs.Prelude.{Option, Some, IfSome}
use Rattle.tp_value.specs.declared.limits.TheConstants.{MAX_SOURCE_BYTES}
use Rattle.tpal_tool.specs.Answering.{IsFaultOf, OwesRefusal}
use Rattle.tpal_tool.specs.Owed.{Owed}
use Rattle.tpal_tool.specs.Shelf.{HasRisen}
use Rattle.tpal_tool.specs.Told.{told_source}
use Rattle.tpal_tool.proofs.Endings.{ok_map, no_code_named, told_named, turned}
use Rattle.tpal_tool.proofs.CallFaults.{err_map, fault_more, refuses_long, refuses_source}
use Rattle.tpal_tool.proofs.preparing.named_program.Goals as goal

pub returns-in_err-source-clause-fault : goal.returns-in_err-source-clause-fault
returns-in_err-source-clause-fault g c = λ command named.
    let name : List ℕ = c.args.name.now in
    let told : List ℕ → Option (List ℕ) = g.S.Shelf.text c.args.shelf.now in
    let is_fault : IsFaultOf (OwesRefusal (Owed (Some command) told)) (HasRisen (g.S.Shelf.faults c.args.shelf.now name) (g.S.Shelf.faults c.fetched.new.shelf name)) c.in_err-source.field-0.0 =
    fault_more c.in_err-source.field-0.0 (refuses_long told command name named) (λ risen. risen) c.in_err-source.ensures.fault in
    search rules

pub returns-clause-program : goal.returns-clause-program
returns-clause-program g c =
    let told : Option (List ℕ) = g.S.Shelf.text c.args.shelf.now c.args.name.now in
    let source : List ℕ = c.deref.result.now in
    let is_source : IfSome told (λ t. source ≡ t) = subst (λ (s : List ℕ). IfSome told (λ t. s ≡ t)) (sym c.deref.ensures.value) c.in_ok-source.ensures.told in
    let low : length source ≤ MAX_SOURCE_BYTES = subst (λ (s : List ℕ). length s ≤ MAX_SOURCE_BYTES) (sym c.deref.ensures.value) c.in_ok-source.ensures.within in
    ok_map c.judge.result (λ program only. record { source = source; is_source = turned told source is_source; low = low; accepts = only }) c.judge.ensures.accepted

pub returns-clause-fault : goal.returns-clause-fault
returns-clause-fault g c command named =
    let told : List ℕ → Option (List ℕ) = g.S.Shelf.text c.args.shelf.now in
    let name : List ℕ = c.args.name.now in
    let source : List ℕ = c.deref.result.now in
    let is_source : IfSome (told name) (λ t. source ≡ t) = subst (λ (s : List ℕ). IfSome (told name) (λ t. s ≡ t)) (sym c.deref.ensures.value) c.in_ok-source.ensures.told in
    let here : IfSome (told_source told command) (λ t. t ≡ source) =
    subst (λ (o : Option (List ℕ)). IfSome o (λ t. t ≡ source)) (sym (told_named told command name named)) (turned (told name) source is_source) in
    let low : length source ≤ MAX_SOURCE_BYTES = subst (λ (s : List ℕ). length s ≤ MAX_SOURCE_BYTES) (sym c.deref.ensures.value) c.in_ok-source.ensures.within in
    err_map c.judge.result (λ h. fault_more h (refuses_source told command source (no_code_named command name named) here low) (λ never. absurd never)) c.judge.ensures.fault
