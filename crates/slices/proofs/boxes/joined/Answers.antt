use Rattle.std.proofs.Common.{arith}
use Rattle.slices.proofs.Places.{next_below, next_above}
use Rattle.slices.proofs.boxes.joined.Goals as goal

pub returns-in-Ok-clause-below : goal.returns-in-Ok-clause-below
returns-in-Ok-clause-below c = λ i h k. rw (c.append.ensures.items, c.in-Ok.is) (next_below c.args.start c.args.end i c.args.lower.now.items c.args.upper.now.items h k (omega (arith, c.requires.len, c.requires.order)))

pub returns-in-Ok-clause-above : goal.returns-in-Ok-clause-above
returns-in-Ok-clause-above c = λ i h. rw (c.append.ensures.items, c.in-Ok.is) (next_above c.args.start c.args.end i c.args.lower.now.items c.args.upper.now.items (omega (arith, c.requires.order)) h (omega (arith, c.requires.len, c.requires.order)))
