use Rattle.std.proofs.Common.{◌≡◌, ◌≤◌, ◌&&◌, nat_le, true, false, length, take, ap, sym}
use Rattle.std.proofs.Common.{length-take, Ok, Err, arith, ◌∙◌}
use Rattle.loop_syntax.specs.Tree.{tree_of}
use Rattle.loop_parse.specs.Terms.{seen}
use Rattle.loop_parse.specs.Reading.{Form, Deep, expr, window, is_empty}
use Rattle.loop_parse.proofs.Windows.{outer_deep_ok, outer_ok, outer_deep_fault, outer_fault}
use Rattle.loop_parse.proofs.Windows.{outer_deep}
use Rattle.loop_parse.proofs.expression.outer.Goals as goal

pub returns-then-is_beyond-clause-reads : goal.returns-then-is_beyond-clause-reads
returns-then-is_beyond-clause-reads c = λ n h.
    let l : length (seen c.args.source.now c.looked_at.result.now) ≤ n = omega (arith, length-take 257 (seen c.args.source.now c.args.tokens.now), ap length c.looked_at.ensures) in
    let e : expr n (take window (seen c.args.source.now c.args.tokens.now)) ≡ Ok (tree_of c.in-Ok.found.value, (seen c.args.source.now c.in-Ok.left.now)) = ap (expr n) (sym c.looked_at.ensures) ∙ c.in-Ok.ensures.reads n l in
    let k : (nat_le window (length (seen c.args.source.now c.args.tokens.now)) && is_empty (seen c.args.source.now c.in-Ok.left.now)) ≡ true = sym c.is_beyond.ensures ∙ c.if-is_beyond.true in
    outer_deep_ok n (seen c.args.source.now c.args.tokens.now) (seen c.args.source.now c.in-Ok.left.now) (tree_of c.in-Ok.found.value) e k ∙ ap (λ us. Err (Deep us)) (sym c.last_looked_at.ensures)

pub returns-else-is_beyond-clause-reads : goal.returns-else-is_beyond-clause-reads
returns-else-is_beyond-clause-reads c = λ n h.
    let l : length (seen c.args.source.now c.looked_at.result.now) ≤ n = omega (arith, length-take 257 (seen c.args.source.now c.args.tokens.now), ap length c.looked_at.ensures) in
    let e : expr n (take window (seen c.args.source.now c.args.tokens.now)) ≡ Ok (tree_of c.in-Ok.found.value, (seen c.args.source.now c.in-Ok.left.now)) = ap (expr n) (sym c.looked_at.ensures) ∙ c.in-Ok.ensures.reads n l in
    let k : (nat_le window (length (seen c.args.source.now c.args.tokens.now)) && is_empty (seen c.args.source.now c.in-Ok.left.now)) ≡ false = sym c.is_beyond.ensures ∙ c.if-is_beyond.false in
    rw c.into_inner.ensures (outer_ok n (seen c.args.source.now c.args.tokens.now) (seen c.args.source.now c.in-Ok.left.now) (tree_of c.in-Ok.found.value) e k ∙ ap (λ us. Ok (tree_of c.in-Ok.found.value, us)) (sym c.widened.ensures))

pub returns-then-is_beyond-2-clause-reads : goal.returns-then-is_beyond-2-clause-reads
returns-then-is_beyond-2-clause-reads c = λ n h.
    let l : length (seen c.args.source.now c.looked_at.result.now) ≤ n = omega (arith, length-take 257 (seen c.args.source.now c.args.tokens.now), ap length c.looked_at.ensures) in
    let e : expr n (take window (seen c.args.source.now c.args.tokens.now)) ≡ Err (Form (seen c.args.source.now c.in-Err-Form.left.now)) = ap (expr n) (sym c.looked_at.ensures) ∙ (rw c.in-Err-Form.field-0-is at (c.in-Err-Form.ensures.reads n l)) in
    let k : (nat_le window (length (seen c.args.source.now c.args.tokens.now)) && is_empty (seen c.args.source.now c.in-Err-Form.left.now)) ≡ true = sym c.is_beyond-in-Err-Form.ensures ∙ c.if-is_beyond-2.true in
    outer_deep_fault n (seen c.args.source.now c.args.tokens.now) (seen c.args.source.now c.in-Err-Form.left.now) e k ∙ ap (λ us. Err (Deep us)) (sym c.last_looked_at-then-is_beyond-2.ensures)

pub returns-else-is_beyond-2-clause-reads : goal.returns-else-is_beyond-2-clause-reads
returns-else-is_beyond-2-clause-reads c = λ n h.
    let l : length (seen c.args.source.now c.looked_at.result.now) ≤ n = omega (arith, length-take 257 (seen c.args.source.now c.args.tokens.now), ap length c.looked_at.ensures) in
    let e : expr n (take window (seen c.args.source.now c.args.tokens.now)) ≡ Err (Form (seen c.args.source.now c.in-Err-Form.left.now)) = ap (expr n) (sym c.looked_at.ensures) ∙ (rw c.in-Err-Form.field-0-is at (c.in-Err-Form.ensures.reads n l)) in
    let k : (nat_le window (length (seen c.args.source.now c.args.tokens.now)) && is_empty (seen c.args.source.now c.in-Err-Form.left.now)) ≡ false = sym c.is_beyond-in-Err-Form.ensures ∙ c.if-is_beyond-2.false in
    outer_fault n (seen c.args.source.now c.args.tokens.now) (seen c.args.source.now c.in-Err-Form.left.now) e k ∙ ap (λ us. Err (Form us)) (sym c.widened-in-Err-Form.ensures)

pub returns-in-Err-Deep-clause-reads : goal.returns-in-Err-Deep-clause-reads
returns-in-Err-Deep-clause-reads c = λ n h.
    let l : length (seen c.args.source.now c.looked_at.result.now) ≤ n = omega (arith, length-take 257 (seen c.args.source.now c.args.tokens.now), ap length c.looked_at.ensures) in
    outer_deep n (seen c.args.source.now c.args.tokens.now) (seen c.args.source.now c.in-Err-Deep.left.now) (ap (expr n) (sym c.looked_at.ensures) ∙ (rw c.in-Err-Deep.field-0-is at (c.in-Err-Deep.ensures.reads n l)))
