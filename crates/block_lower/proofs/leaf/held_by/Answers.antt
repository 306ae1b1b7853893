use Rattle.std.specs.declared.alloc.Global.{Global}
use Rattle.std.proofs.Common.{ℕ, Vec, ◌+◌, [], ◌∷◌, ◌++◌, List, take, subst, sym, ◌∙◌, arith}
use Rattle.std.proofs.lemmas.List.{length-take-le}
use Rattle.loop_syntax.specs.declared.Reduce.{Reduce}
use Rattle.block_lower.specs.Lowering.{AreHeld, held_from}
use Rattle.block_lower.proofs.Written.Stepping.{first_more}
use Rattle.block_lower.proofs.Written.Held.{held_more}
use Rattle.block_lower.proofs.leaf.held_by.Goals as goal

pub loop-before-preserved : goal.loop-before-preserved
loop-before-preserved c =
    let l = c.args.l.now in
    let i = c.loop-before.before in
    let x = c.reduce-item.result in
    let below = rw c.deref-reduce-items.ensures.value at c.loop-before-test.true in
    let is = rw c.deref-reduce-items.ensures.value at c.reduce-item.is in
    let long = length-take-le i l.reduces.items (omega (arith, below)) in
    let held : Vec ℕ Global × ℕ = (c.in_ok-target.target, 26 + i) in
    rw c.in_ok-push-2.ensures.items
    (subst
    (λ (xs : List Reduce).
    AreHeld (c.loop-before.regs.items ++ held ∷ []) ((l.var.text.items, 24) ∷ held_from 26 xs))
    (sym (first_more l.reduces.items i x below is))
    (held_more l.var.text.items (take i l.reduces.items) x c.loop-before.regs.items held
    (c.in_ok-target.ensures.items ∙ c.deref-in-loop-before.ensures.value) (omega (arith, long))
    c.loop-before.invariant))
