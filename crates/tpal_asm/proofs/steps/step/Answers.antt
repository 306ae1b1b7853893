use Rattle.std.proofs.Common.{◌≡◌, ℕ, List, ◌∷◌, [], ◌++◌, Option, IfErr, sym, subst}
use Rattle.tpal_asm.specs.declared.drafts.Begun.{Begun}
use Rattle.tpal_asm.specs.Labels.{heads}
use Rattle.tpal_asm.specs.Faults.{IsWrong, OnWrong}
use Rattle.tpal_asm.specs.Steps.{seen_with}
use Rattle.tpal_asm.proofs.steps.step.Goals as goal

pub returns-in-Some-clause-wrong : goal.returns-in-Some-clause-wrong
returns-in-Some-clause-wrong c =
    let a = c.args in
    let P : Option Begun → Type 0 = λ b. IfErr c.inside.result (λ w. OnWrong w ((bytes : List ℕ) → a.line.now ≡ bytes ++ 10 ∷ [] → IsWrong a.labels.now.version (heads a.labels.now.places) (seen_with a.draft.tables.items a.draft.blocks.items b) bytes w)) in
    subst P (sym c.in-Some.is) c.inside.ensures.wrong

pub returns-in-None-clause-wrong : goal.returns-in-None-clause-wrong
returns-in-None-clause-wrong c =
    let a = c.args in
    let P : Option Begun → Type 0 = λ b. IfErr c.outside.result (λ w. OnWrong w ((bytes : List ℕ) → a.line.now ≡ bytes ++ 10 ∷ [] → IsWrong a.labels.now.version (heads a.labels.now.places) (seen_with a.draft.tables.items a.draft.blocks.items b) bytes w)) in
    subst P (sym c.in-None.is) c.outside.ensures.wrong
