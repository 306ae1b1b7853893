use Rattle.std.proofs.Common.{arith, ◌≡◌, ◌+◌, ◌∙◌, refl, length, ◌-◌, ◌/◌}
use Rattle.std.specs.Prelude.{pos}
use Rattle.slices.proofs.Slots.{part_at, length-part}
use Rattle.slices.proofs.Places.{filled_more, filled}
use Rattle.slices.proofs.chunks.Chunks.of.Goals as goal

pub returns : goal.returns
returns c = λ i. filled c.args.start c.args.end i c.loop-done.list.items c.args.cells.now c.requires (λ h k. c.loop-done.invariant.cells i h (omega (arith, k, c.requires, c.loop-done-test.false, c.loop-done.invariant.below)))

pub loop-done-preserved : goal.loop-done-preserved
loop-done-preserved c =
    let len : length c.loop-done.list.items ≡ (c.args.start + c.loop-done.done) / 256 - c.args.start / 256 = omega (arith, c.loop-done.invariant.len c.loop-done-test.true) in
    record {
      below = omega (arith, c.min-n.ensures, c.loop-done-test.true);
      cells = λ i h k. rw c.in_ok-push.ensures.items
          (filled_more c.args.start c.loop-done.done c.min-n.result i c.loop-done.list.items c.in_ok-chunk.chunk c.args.cells.now len (λ p. c.loop-done.invariant.aligned p c.loop-done-test.true) (omega (arith, c.min-n.ensures))
          (λ j m. c.in_ok-chunk.ensures j (omega (arith, m, length-part c.args.cells.now c.loop-done.done (c.loop-done.done + c.min-n.result) (length c.args.cells.now) refl (omega (arith, c.min-n.ensures, c.loop-done-test.true))))
          ∙ part_at c.args.cells.now c.loop-done.done (c.loop-done.done + c.min-n.result) j (pos 0) (omega (arith, m)))
          (λ l. c.loop-done.invariant.cells i h l) h k);
      len = λ h. omega (arith, c.in_ok-push.ensures.len, c.loop-done.invariant.len c.loop-done-test.true, c.min-n.ensures, h);
      aligned = λ p h. omega (arith, c.min-n.ensures, h);
    }
