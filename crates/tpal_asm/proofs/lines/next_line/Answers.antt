use Rattle.std.proofs.Common.{◌≡◌, ℕ, List, ◌∷◌, take, drop, get_or, sym, ap, ◌∙◌, add-one, arith}
use Rattle.std.proofs.Common.{eq-eqb}
use Rattle.tpal_asm.specs.Lines.{pieces}
use Rattle.tpal_asm.proofs.Pieces.{pieces-at, pieces-none, take-line}
use Rattle.tpal_asm.proofs.lines.next_line.Goals as goal

pub returns-then-b-eq10-clause-cases : goal.returns-then-b-eq10-clause-cases
returns-then-b-eq10-clause-cases c =
    let text = c.args.text.now in
    let at = c.loop-at.at in
    let is : get_or text at 0 ≡ 10 = c.if-b-eq10.true in
    let first = take-line text at (omega arith) is in
    let all = pieces-at text at (omega arith) c.loop-at.invariant (eq-eqb (get_or text at 0) 10 is) in (
      take at text,
      c.split_at.ensures.front ∙ ap (λ (n : ℕ). take n text) (add-one at) ∙ first,
      all ∙ ap (λ (n : ℕ). take at text ∷ pieces (drop n text)) (sym (add-one at)) ∙ ap (λ (x : List ℕ). take at text ∷ pieces x) (sym c.split_at.ensures.back),
    )

pub returns-clause-cases : goal.returns-clause-cases
returns-clause-cases c = pieces-none c.args.text.now (λ k lt. c.loop-at.invariant k (omega arith))
