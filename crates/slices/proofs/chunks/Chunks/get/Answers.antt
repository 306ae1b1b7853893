use Rattle.std.proofs.Common.{arith, sym, ◌∙◌, ap, rules}
use Rattle.slices.specs.Spans.{between}
use Rattle.slices.proofs.Slots.{between_in, between_none}
use Rattle.slices.proofs.Places.{in_list_some, in_list_none}
use Rattle.slices.proofs.chunks.Chunks.get.Goals as goal

pub returns-then-index-len : goal.returns-then-index-len
returns-then-index-len c =
    rw (between_in c.args.self.now.start c.args.self.now.end c.args.at _ c.if-at-self.false c.if-at-self-2.false, in_list_some c.args.self.now.start c.args.self.now.list.items c.args.at c.index.result.now (omega (arith, c.if-index-len.true, c.len.ensures))) (search rules)

pub returns-else-index-len : goal.returns-else-index-len
returns-else-index-len c =
    sym (ap (between c.args.self.now.start c.args.self.now.end c.args.at) (in_list_none c.args.self.now.start c.args.self.now.list.items c.args.at (omega (arith, c.if-index-len.false, c.len.ensures))) ∙ between_none c.args.self.now.start c.args.self.now.end c.args.at)
