use Rattle.std.proofs.Common.{◌++◌, ◌∷◌, [], ◌∙◌, ap, ℤ, pos, get_or, to_z, of_z}
use Rattle.std.specs.Int.{w64}
use Rattle.std.proofs.lemmas.Int.{to_z-of_z}
use Rattle.tp_value.specs.declared.Op.{Op}
use Rattle.tp_value.specs.declared.Op.TheVariants.{Add}
use Rattle.reduce_ops.specs.Reduction.{combine}
use Rattle.frame_machine.specs.Splitting.{merged}
use Rattle.frame_machine.proofs.Merging.{merged_step}
use Rattle.frame_machine.proofs.frame.merge_frames.Goals as goal

pub loop-i-preserved : goal.loop-i-preserved
loop-i-preserved c =
    let op : Op = get_or c.args.ops.now c.loop-i.i Add in
    let left : ℤ = get_or c.args.left.now c.loop-i.i (pos 0) in
    let right : ℤ = get_or c.args.right.now c.loop-i.i (pos 0) in
    merged_step (merged c.args.ops.now c.args.left.now c.args.right.now) c.loop-i.both.items c.push.new.self.items c.combine.result c.args.ops.now c.args.left.now c.args.right.now c.loop-i.i Add (pos 0) (pos 0)
    c.loop-i-test.true c.requires.left_long c.requires.right_long
    (c.in_ok-push.ensures.items ∙ ap (λ (n : ℤ). c.loop-i.both.items ++ n ∷ []) (to_z-of_z w64 c.combine.result (search)))
    (c.combine.ensures ∙ ap (λ (n : ℤ). combine op n (to_z w64 (of_z w64 right))) (to_z-of_z w64 left (search)) ∙ ap (combine op left) (to_z-of_z w64 right (search))) c.loop-i.invariant
