use Rattle.std.proofs.Common.{arith, ◌∙◌, ap, ◌-◌, take, drop}
use Rattle.slices.specs.Spans.{slot}
use Rattle.slices.proofs.Slots.{slot_upper}
use Rattle.slices.proofs.spans.upper_of.Goals as goal

pub returns : goal.returns
returns c = λ i.
    c.in_ok-of.ensures i ∙ ap (λ xs. slot c.args.at (take (c.len-len.result - c.min.result) (drop c.min.result xs)) i) c.deref.ensures.value
    ∙ slot_upper c.args.flat.now.start c.args.at c.min.result c.len-len.result i c.args.flat.now.cells.items c.requires (omega (arith, c.min.ensures)) (omega (arith, c.len-len.ensures))

pub returns-2 : goal.returns-2
returns-2 c = λ i.
    ap (λ xs. slot c.args.at xs i) (c.in_ok-from_slice.ensures.items ∙ ap (λ xs. take (c.len-len.result - c.min.result) (drop c.min.result xs)) c.deref.ensures.value)
    ∙ slot_upper c.args.flat.now.start c.args.at c.min.result c.len-len.result i c.args.flat.now.cells.items c.requires (omega (arith, c.min.ensures)) (omega (arith, c.len-len.ensures))
