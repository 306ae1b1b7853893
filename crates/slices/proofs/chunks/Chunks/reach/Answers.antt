use Rattle.std.proofs.Common.{arith, ap, ◌∙◌}
use Rattle.slices.specs.Spans.{between}
use Rattle.slices.proofs.Slots.{between_none}
use Rattle.slices.proofs.Places.{chunks_some, in_list_none}
use Rattle.slices.proofs.chunks.Chunks.reach.Goals as goal

pub returns-then-self-first-clause-here : goal.returns-then-self-first-clause-here
returns-then-self-first-clause-here c = λ i h k. chunks_some c.args.self.now.start c.args.self.now.end i c.args.self.now.list.items (omega (arith, h)) (omega (arith, k)) (omega (arith, h, k))

pub returns-then-at-first-clause-here : goal.returns-then-at-first-clause-here
returns-then-at-first-clause-here c = λ i h k. chunks_some c.args.self.now.start c.args.self.now.end i c.args.self.now.list.items (omega (arith, h)) (omega (arith, k)) (omega (arith, h, k))

pub returns-clause-none : goal.returns-clause-none
returns-clause-none c = λ _. ap (between c.args.self.now.start c.args.self.now.end c.args.at) (in_list_none c.args.self.now.start c.args.self.now.list.items c.args.at (omega arith)) ∙ between_none c.args.self.now.start c.args.self.now.end c.args.at
