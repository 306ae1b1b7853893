use Rattle.std.proofs.Common.{◌≡◌, ℕ, suc, ◌+◌, sym, ap, ◌∙◌, arith}
use Rattle.block_lower.specs.Bodies.{activation}
use Rattle.scene_laws.specs.Layout.{Activation}
use Rattle.scene_laws.specs.Pairs.{kept_from}
use Rattle.block_lower.proofs.Written.LoweredPairs.{more_kept}
use Rattle.block_lower.proofs.lowering.Lowering.kept_arguments.Goals as goal

pub loop-i-preserved : goal.loop-i-preserved
loop-i-preserved c = λ tables.
    let i = c.loop-i.i in
    let act : Activation = activation c.args.self.now.on tables in
    let next : suc i ≡ i + 1 = omega arith in
    let pushed = rw (c.kept_argument.ensures, c.loop-i.invariant tables) at
    c.in_ok-push.ensures.items in
    pushed ∙ sym (more_kept act i) ∙ ap (λ (n : ℕ). kept_from act n 0) next
