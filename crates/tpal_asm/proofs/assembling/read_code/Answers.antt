use Rattle.std.proofs.Common.{◌≡◌, ◌+◌, ℕ, List, [], ◌∷◌, ◌++◌, length, refl, sym, ap, subst, ◌∙◌}
use Rattle.std.proofs.Common.{eq-eqb, arith}
use Rattle.std.proofs.lemmas.Bool.{eqb-true, false≢true}
use Rattle.tpal_syntax.specs.declared.blocks.Block.{Block}
use Rattle.tpal_syntax.specs.declared.blocks.CodeTable.{CodeTable}
use Rattle.tpal_syntax.specs.Conditions.{IsCode, block_names}
use Rattle.tpal_asm.specs.Lines.{AreLines}
use Rattle.tpal_asm.specs.declared.fault.AsmFault.{AsmFault}
use Rattle.tpal_asm.specs.Labels.{heads}
use Rattle.tpal_asm.specs.Drafts.{Outside, IsWhole}
use Rattle.tpal_asm.specs.Faults.{FirstFaultIn, OnFault, IsWrong}
use Rattle.tpal_asm.specs.Steps.{seen}
use Rattle.tpal_asm.proofs.Loops.{led-start, led-step, led-front, led-fault, led-missing, led-right}
use Rattle.tpal_asm.proofs.Loops.{led-code, blocks-seen, one_line, if_both, end_fault}
use Rattle.tpal_asm.proofs.assembling.read_code.Goals as goal

empty : (rest : List ℕ) → length rest ≡ 0 → rest ≡ []
empty [] e = refl
empty (b ∷ rest) e = absurd (omega arith)

pub loop-first-init : goal.loop-first-init
loop-first-init c =
    let tables : c.new.result.items ≡ [] = cc in
    let blocks : c.new-2.result.items ≡ [] = cc in
    led-start c.args.labels.now.version c.args.text.now (heads c.args.labels.now.places) (Outside c.new.result.items c.new-2.result.items) c.first_number-line.result
    (ap (λ (ts : List CodeTable). Outside ts c.new-2.result.items) tables ∙ ap (λ (bs : List Block). Outside [] bs) blocks) c.first_number-line.ensures

pub step-requires-clause-front : goal.step-requires-clause-front
step-requires-clause-front c =
    let l = c.loop-first in
    let k = c.in-Some.ensures.cases in
    let f = led-front c.args.labels.now.version c.args.text.now l.rest.now k.0 c.in-Some.others.now (heads c.args.labels.now.places) (seen l.draft) l.line l.invariant k.2 c.requires.named c.args.labels.now.words in
    (f.0, f.1 ∙ ap (λ (bs : List Block). block_names bs ++ f.0) (blocks-seen l.draft.tables.items l.draft.blocks.items l.draft.begun))

pub returns-in-Err-clause-fault : goal.returns-in-Err-clause-fault
returns-in-Err-clause-fault c =
    let l = c.loop-first in
    let k = c.in-Some.ensures.cases in
    let hs = heads c.args.labels.now.places in
    let w = c.in-Err.wrong in
    let P : AsmFault → Type 0 = λ f. OnFault f (FirstFaultIn c.args.labels.now.version c.args.text.now f) in
    subst P (sym c.at_line.ensures) (
    led-fault c.args.labels.now.version c.args.text.now l.rest.now k.0 c.in-Some.others.now hs (seen l.draft) l.line l.invariant k.2 c.requires.named w
    (one_line w c.in-Some.first.now k.0 (λ bytes. IsWrong c.args.labels.now.version hs (seen l.draft) bytes w) k.1 c.in-Err.ensures.wrong))

pub loop-first-preserved : goal.loop-first-preserved
loop-first-preserved c =
    let l = c.loop-first in
    let k = c.in-Some.ensures.cases in
    led-step c.args.labels.now.version c.args.text.now l.rest.now k.0 c.in-Some.others.now (heads c.args.labels.now.places) (seen l.draft) (seen c.in-Ok.next) l.line (l.line + 1) l.invariant k.2 c.in-Some.ensures.shorter
    (c.in-Ok.ensures.right k.0 k.1) c.in-Ok.ensures.new c.in-Ok.ensures.within refl

pub returns-then-not-is_empty-clause-fault : goal.returns-then-not-is_empty-clause-fault
returns-then-not-is_empty-clause-fault c =
    let l = c.loop-first in
    led-missing c.args.labels.now.version c.args.text.now l.rest.now (heads c.args.labels.now.places) (seen l.draft) l.line l.invariant c.in_default.ensures.cases c.requires.named (λ p.
    false≢true (c.if-not-is_empty.ensures ∙ eq-eqb (length l.rest.now) 0 (ap (length {A = ℕ}) p.0)))

pub end-requires : goal.end-requires
end-requires c =
    let l = c.loop-first in
    record { right = λ whole. led-right c.args.labels.now.version c.args.text.now l.rest.now (heads c.args.labels.now.places) l.draft.tables.items l.draft.blocks.items l.draft.begun l.line l.invariant c.in_default.ensures.cases c.requires.named c.args.labels.now.words whole }

pub returns-clause-code : goal.returns-clause-code
returns-clause-code c =
    let l = c.loop-first in
    let none_left : l.rest.now ≡ [] = empty l.rest.now (eqb-true (length l.rest.now) 0 (sym c.if-not-is_empty.ensures)) in
    if_both c.end.result (λ code. IsCode code.tables code.blocks) (λ code. seen l.draft ≡ Outside code.tables code.blocks) (λ code. AreLines c.args.labels.now.version c.args.text.now code.tables code.blocks)
    (λ code right last. led-code c.args.labels.now.version c.args.text.now l.rest.now (heads c.args.labels.now.places) (seen l.draft) code.tables code.blocks l.line l.invariant c.in_default.ensures.cases none_left c.requires.named c.args.labels.now.words last right)
    c.end.ensures.code c.end.ensures.last

pub returns-clause-fault : goal.returns-clause-fault
returns-clause-fault c =
    let l = c.loop-first in
    end_fault c.args.labels.now.version c.args.text.now l.line (IsWhole (seen l.draft)) c.end.result
    (λ bad. led-missing c.args.labels.now.version c.args.text.now l.rest.now (heads c.args.labels.now.places) (seen l.draft) l.line l.invariant c.in_default.ensures.cases c.requires.named (λ p. bad p.1))
    c.end.ensures.fault
