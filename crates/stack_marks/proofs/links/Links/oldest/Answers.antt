use Rattle.std.proofs.Common.{◌≡◌, ◌-◌, arith, subst, ap, sym, ◌∙◌, get_or}
use Rattle.std.specs.Prelude.{Some, slice_get}
use Rattle.stack_marks.specs.declared.links.Link.{Link}
use Rattle.stack_marks.proofs.Following.{opened}
use Rattle.stack_marks.proofs.Chains.{oldest_stands, link_any}
use Rattle.stack_marks.specs.Linked.{mark_of, bare, AreLinked}
use Rattle.stack_marks.proofs.links.Links.oldest.Goals as goal

pub overflow_sub-ends : goal.overflow_sub-ends
overflow_sub-ends c = (oldest_stands c.self.inside.lowest c.self.inside.links.items c.in-Some.ends (opened c.self.inside.lowest c.self.inside.links.items c.in-Some.ends (subst (AreLinked c.self.inside.lowest c.self.inside.links.items) c.in-Some.is c.self.invariant))).low

pub index-link-requires : goal.index-link-requires
index-link-requires c =
    let o = oldest_stands c.self.inside.lowest c.self.inside.links.items c.in-Some.ends (opened c.self.inside.lowest c.self.inside.links.items c.in-Some.ends (subst (AreLinked c.self.inside.lowest c.self.inside.links.items) c.in-Some.is c.self.invariant)) in
    omega (arith, o.high, c.self.inside.links.ok.0)

pub returns-in-Some : goal.returns-in-Some
returns-in-Some c =
    let ls = c.self.inside.links.items in
    let o = oldest_stands c.self.inside.lowest ls c.in-Some.ends (opened c.self.inside.lowest ls c.in-Some.ends (subst (AreLinked c.self.inside.lowest ls) c.in-Some.is c.self.invariant)) in
    let read : c.index-link.result.now ≡ get_or ls (c.in-Some.ends.oldest - c.self.inside.lowest) bare = c.index-link.ensures ∙ link_any ls (c.in-Some.ends.oldest - c.self.inside.lowest) c.index-link.result.now bare o.high in
    ap (λ (z : Link). Some (mark_of c.in-Some.ends.oldest z)) read ∙ sym o.first ∙ ap (λ v. slice_get v.marks 0) c.self.view_is
