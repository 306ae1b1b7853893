use Rattle.std.proofs.Common.{◌≡◌, List, [], ◌∷◌, length, refl, sym, ap, ◌∙◌, subst, vec_len}
use Rattle.std.proofs.Common.{eq-eqb, arith}
use Rattle.std.proofs.lemmas.Bool.{eqb-true, false≢true}
use Rattle.tpal_syntax.specs.declared.blocks.Block.{Block}
use Rattle.tpal_asm.specs.Labels.{heads}
use Rattle.tpal_asm.proofs.OutsideSteps.{table_goes, table_fails, table_late, Goes, Fails}
use Rattle.tpal_asm.proofs.steps.outside.Goals as goal

empty : (xs : List Block) → length xs ≡ 0 → [] ≡ xs
empty [] e = refl
empty (x ∷ xs) e = absurd (omega arith)

pub returns-then-is_empty-clause-right : goal.returns-then-is_empty-clause-right
returns-then-is_empty-clause-right c =
    let a = c.args in
    let z : length a.blocks.items ≡ 0 = omega (arith, a.blocks.ok.0, eqb-true (vec_len a.blocks) 0 (sym c.if-is_empty.ensures)) in
    let P : List Block → Type 0 = λ bs. Goes a.labels.now.version (heads a.labels.now.places) a.tables.items a.line.now bs c.table.result in
    subst P (empty a.blocks.items z) (table_goes a.labels.now.version (heads a.labels.now.places) a.tables.items c.requires.few a.line.now c.in-Some.rest.now c.in-Some.ensures c.table.result c.table.ensures.read)

pub returns-then-is_empty-clause-wrong : goal.returns-then-is_empty-clause-wrong
returns-then-is_empty-clause-wrong c =
    let a = c.args in
    let z : length a.blocks.items ≡ 0 = omega (arith, a.blocks.ok.0, eqb-true (vec_len a.blocks) 0 (sym c.if-is_empty.ensures)) in
    let P : List Block → Type 0 = λ bs. Fails a.labels.now.version (heads a.labels.now.places) a.tables.items a.line.now bs c.table.result in
    subst P (empty a.blocks.items z) (table_fails a.labels.now.version (heads a.labels.now.places) a.tables.items c.requires.few a.line.now c.in-Some.rest.now c.in-Some.ensures c.table.result c.table.ensures.wrong)

pub returns-else-is_empty-clause-wrong : goal.returns-else-is_empty-clause-wrong
returns-else-is_empty-clause-wrong c =
    let a = c.args in
    table_late a.labels.now.version (heads a.labels.now.places) a.tables.items c.requires.few a.line.now c.in-Some.rest.now c.in-Some.ensures a.blocks.items (λ e.
    false≢true (c.if-is_empty.ensures ∙ eq-eqb (vec_len a.blocks) 0 (omega (arith, a.blocks.ok.0, ap (length {A = Block}) e))))
