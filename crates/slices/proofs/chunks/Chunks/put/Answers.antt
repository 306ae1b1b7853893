use Rattle.std.proofs.Common.{arith, sym, ◌∙◌, ap, ◌%◌, is_some, refl, cond, to_z-of_z}
use Rattle.std.specs.Prelude.{nat_eq}
use Rattle.slices.specs.Spans.{number, between}
use Rattle.slices.proofs.Slots.{between_in, between_none}
use Rattle.slices.proofs.Places.{in_list_some, in_list_none, put_between, set_in_list}
use Rattle.slices.proofs.chunks.Chunks.put.Goals as goal

pub returns-then-index-len-clause-found : goal.returns-then-index-len-clause-found
returns-then-index-len-clause-found c =
    sym (ap is_some (ap (between c.args.self.now.start c.args.self.now.end c.args.at) (in_list_none c.args.self.now.start c.args.self.now.list.items c.args.at (omega (arith, c.if-index-len.true, c.len.ensures))) ∙ between_none c.args.self.now.start c.args.self.now.end c.args.at))

pub returns-clause-found : goal.returns-clause-found
returns-clause-found c =
    rw (between_in c.args.self.now.start c.args.self.now.end c.args.at _ c.if-at-self.false c.if-at-self-2.false, in_list_some c.args.self.now.start c.args.self.now.list.items c.args.at c.index_mut.result.now (omega (arith, c.if-index-len.false, c.len.ensures))) refl

pub returns-clause-cells : goal.returns-clause-cells
returns-clause-cells c = λ i.
    put_between c.args.self.now.start c.args.self.now.end c.args.at i _ _ c.args.value c.if-at-self.false c.if-at-self-2.false
    (λ l. set_in_list c.args.self.now.start c.args.at i c.args.self.now.list.items c.index_mut.result.now _ c.args.value c.if-at-self.false l (omega (arith, c.if-index-len.false, c.len.ensures))
    (λ j. (rw (to_z-of_z c.ranges.value) at (c.write.ensures j)) ∙ ap (λ xs. cond (nat_eq j (c.args.at % 256)) c.args.value (number xs j)) (c.deref_mut.ensures.value ∙ ap (λ b. b.value) c.index_mut.ensures.value)))
