use Rattle.std.proofs.Common.{◌≡◌, ◌-◌, ◌<◌, List, get_or, set, length, subst, sym, ap, ◌∙◌, arith}
use Rattle.std.proofs.Common.{refl, false}
use Rattle.std.specs.Prelude.{Any}
use Rattle.std.specs.Vec.{vec_capacity}
use Rattle.std.proofs.lemmas.List.{length-set}
use Rattle.stack_marks.specs.declared.links.Link.{Link}
use Rattle.stack_marks.specs.Links.{without}
use Rattle.stack_marks.specs.Linked.{bare, AreLinked}
use Rattle.stack_marks.proofs.Following.{opened}
use Rattle.stack_marks.proofs.Chains.{found, link_any, alone, oldest_gone, newest_gone}
use Rattle.stack_marks.proofs.Chains.{between_gone, neighbours, with_newer, with_older}
use Rattle.stack_marks.proofs.links.Links.take.Goals as goal

pub overflow_sub-index : goal.overflow_sub-index
overflow_sub-index c = (found c.self.inside.lowest c.self.inside.links.items c.args.at (subst (λ v. Any (λ m. m.at ≡ c.args.at) v.marks) (sym c.self.view_is) c.requires)).low

pub index-link-requires : goal.index-link-requires
index-link-requires c =
    let f = found c.self.inside.lowest c.self.inside.links.items c.args.at (subst (λ v. Any (λ m. m.at ≡ c.args.at) v.marks) (sym c.self.view_is) c.requires) in
    omega (arith, f.high, c.self.inside.links.ok.0)

pub index_mut-requires : goal.index_mut-requires
index_mut-requires c =
    let f = found c.self.inside.lowest c.self.inside.links.items c.args.at (subst (λ v. Any (λ m. m.at ≡ c.args.at) v.marks) (sym c.self.view_is) c.requires) in
    omega (arith, f.high, c.self.inside.links.ok.0)

pub invariant_of-self : goal.invariant_of-self
invariant_of-self c =
    let s = c.self.inside in
    let any = subst (λ v. Any (λ m. m.at ≡ c.args.at) v.marks) (sym c.self.view_is) c.requires in
    let linked = opened s.lowest s.links.items c.in-Some.ends (subst (AreLinked s.lowest s.links.items) c.in-Some.is c.self.invariant) in
    (alone s.lowest s.links.items c.args.at _ c.in-Some.ends linked any c.if-at-ends-2.true c.if-at-ends.true refl).linked

pub invariant_of-self-else-at-ends-2 : goal.invariant_of-self-else-at-ends-2
invariant_of-self-else-at-ends-2 c =
    let s = c.self.inside in
    let ls = s.links.items in
    let any = subst (λ v. Any (λ m. m.at ≡ c.args.at) v.marks) (sym c.self.view_is) c.requires in
    let linked = opened s.lowest ls c.in-Some.ends (subst (AreLinked s.lowest ls) c.in-Some.is c.self.invariant) in
    let f = found s.lowest ls c.args.at any in
    let read : c.index-link.result.now ≡ get_or ls (c.args.at - s.lowest) bare = c.index-link.ensures ∙ link_any ls (c.args.at - s.lowest) c.index-link.result.now bare f.high in
    let same : c.index_mut.result.now ≡ get_or ls (c.args.at - s.lowest) bare = c.index_mut.ensures.value ∙ link_any ls (c.args.at - s.lowest) c.index_mut.result.now bare f.high in
    (newest_gone s.lowest ls c.args.at c.index-link.result.now.older _ c.in-Some.ends linked any c.if-at-ends-2.false c.if-at-ends.true (ap (λ (z : Link). z.older) read) refl (ap (λ (z : Link). z.newer) same) (ap (λ (z : Link). z.older) same)).linked

pub invariant_of-self-then-at-ends-3 : goal.invariant_of-self-then-at-ends-3
invariant_of-self-then-at-ends-3 c =
    let s = c.self.inside in
    let ls = s.links.items in
    let any = subst (λ v. Any (λ m. m.at ≡ c.args.at) v.marks) (sym c.self.view_is) c.requires in
    let linked = opened s.lowest ls c.in-Some.ends (subst (AreLinked s.lowest ls) c.in-Some.is c.self.invariant) in
    let f = found s.lowest ls c.args.at any in
    let read : c.index-link.result.now ≡ get_or ls (c.args.at - s.lowest) bare = c.index-link.ensures ∙ link_any ls (c.args.at - s.lowest) c.index-link.result.now bare f.high in
    let same : c.index_mut.result.now ≡ get_or ls (c.args.at - s.lowest) bare = c.index_mut.ensures.value ∙ link_any ls (c.args.at - s.lowest) c.index_mut.result.now bare f.high in
    (oldest_gone s.lowest ls c.args.at c.index-link.result.now.newer _ c.in-Some.ends linked any c.if-at-ends-3.true c.if-at-ends.false (ap (λ (z : Link). z.newer) read) refl (ap (λ (z : Link). z.newer) same) (ap (λ (z : Link). z.older) same)).linked

pub overflow_sub-link : goal.overflow_sub-link
overflow_sub-link c =
    let s = c.self.inside in
    let ls = s.links.items in
    let any = subst (λ v. Any (λ m. m.at ≡ c.args.at) v.marks) (sym c.self.view_is) c.requires in
    let linked = opened s.lowest ls c.in-Some.ends (subst (AreLinked s.lowest ls) c.in-Some.is c.self.invariant) in
    let f = found s.lowest ls c.args.at any in
    let read : c.index-link.result.now ≡ get_or ls (c.args.at - s.lowest) bare = c.index-link.ensures ∙ link_any ls (c.args.at - s.lowest) c.index-link.result.now bare f.high in
    let same : c.index_mut.result.now ≡ get_or ls (c.args.at - s.lowest) bare = c.index_mut.ensures.value ∙ link_any ls (c.args.at - s.lowest) c.index_mut.result.now bare f.high in
    let n = neighbours s.lowest ls c.args.at c.in-Some.ends linked any c.if-at-ends-3.false c.if-at-ends.false in
    omega (arith, n.older_low, ap (λ (z : Link). z.older) read)

pub index_mut-requires-else-at-ends-3 : goal.index_mut-requires-else-at-ends-3
index_mut-requires-else-at-ends-3 c =
    let s = c.self.inside in
    let ls = s.links.items in
    let any = subst (λ v. Any (λ m. m.at ≡ c.args.at) v.marks) (sym c.self.view_is) c.requires in
    let linked = opened s.lowest ls c.in-Some.ends (subst (AreLinked s.lowest ls) c.in-Some.is c.self.invariant) in
    let f = found s.lowest ls c.args.at any in
    let read : c.index-link.result.now ≡ get_or ls (c.args.at - s.lowest) bare = c.index-link.ensures ∙ link_any ls (c.args.at - s.lowest) c.index-link.result.now bare f.high in
    let same : c.index_mut.result.now ≡ get_or ls (c.args.at - s.lowest) bare = c.index_mut.ensures.value ∙ link_any ls (c.args.at - s.lowest) c.index_mut.result.now bare f.high in
    let n = neighbours s.lowest ls c.args.at c.in-Some.ends linked any c.if-at-ends-3.false c.if-at-ends.false in
    omega (arith, n.older_high, ap (λ (z : Link). z.older) read, s.links.ok.0)

pub overflow_sub-link-else-at-ends-3 : goal.overflow_sub-link-else-at-ends-3
overflow_sub-link-else-at-ends-3 c =
    let s = c.self.inside in
    let ls = s.links.items in
    let any = subst (λ v. Any (λ m. m.at ≡ c.args.at) v.marks) (sym c.self.view_is) c.requires in
    let linked = opened s.lowest ls c.in-Some.ends (subst (AreLinked s.lowest ls) c.in-Some.is c.self.invariant) in
    let f = found s.lowest ls c.args.at any in
    let read : c.index-link.result.now ≡ get_or ls (c.args.at - s.lowest) bare = c.index-link.ensures ∙ link_any ls (c.args.at - s.lowest) c.index-link.result.now bare f.high in
    let same : c.index_mut.result.now ≡ get_or ls (c.args.at - s.lowest) bare = c.index_mut.ensures.value ∙ link_any ls (c.args.at - s.lowest) c.index_mut.result.now bare f.high in
    let n = neighbours s.lowest ls c.args.at c.in-Some.ends linked any c.if-at-ends-3.false c.if-at-ends.false in
    omega (arith, n.newer_low, ap (λ (z : Link). z.newer) read)

pub index_mut-requires-else-at-ends-3-2 : goal.index_mut-requires-else-at-ends-3-2
index_mut-requires-else-at-ends-3-2 c =
    let s = c.self.inside in
    let ls = s.links.items in
    let any = subst (λ v. Any (λ m. m.at ≡ c.args.at) v.marks) (sym c.self.view_is) c.requires in
    let linked = opened s.lowest ls c.in-Some.ends (subst (AreLinked s.lowest ls) c.in-Some.is c.self.invariant) in
    let f = found s.lowest ls c.args.at any in
    let read : c.index-link.result.now ≡ get_or ls (c.args.at - s.lowest) bare = c.index-link.ensures ∙ link_any ls (c.args.at - s.lowest) c.index-link.result.now bare f.high in
    let same : c.index_mut.result.now ≡ get_or ls (c.args.at - s.lowest) bare = c.index_mut.ensures.value ∙ link_any ls (c.args.at - s.lowest) c.index_mut.result.now bare f.high in
    let n = neighbours s.lowest ls c.args.at c.in-Some.ends linked any c.if-at-ends-3.false c.if-at-ends.false in
    omega (arith, n.newer_high, ap (λ (z : Link). z.newer) read, s.links.ok.0)

pub invariant_of-self-else-at-ends-3 : goal.invariant_of-self-else-at-ends-3
invariant_of-self-else-at-ends-3 c =
    let s = c.self.inside in
    let ls = s.links.items in
    let any = subst (λ v. Any (λ m. m.at ≡ c.args.at) v.marks) (sym c.self.view_is) c.requires in
    let linked = opened s.lowest ls c.in-Some.ends (subst (AreLinked s.lowest ls) c.in-Some.is c.self.invariant) in
    let f = found s.lowest ls c.args.at any in
    let read : c.index-link.result.now ≡ get_or ls (c.args.at - s.lowest) bare = c.index-link.ensures ∙ link_any ls (c.args.at - s.lowest) c.index-link.result.now bare f.high in
    let same : c.index_mut.result.now ≡ get_or ls (c.args.at - s.lowest) bare = c.index_mut.ensures.value ∙ link_any ls (c.args.at - s.lowest) c.index_mut.result.now bare f.high in
    let n = neighbours s.lowest ls c.args.at c.in-Some.ends linked any c.if-at-ends-3.false c.if-at-ends.false in
    let first : List Link = set ls (c.args.at - s.lowest) (record { base = c.index_mut.result.now.base; cells = c.index_mut.result.now.cells; older = c.index_mut.result.now.older; newer = c.index_mut.result.now.newer; split = c.index_mut.result.now.split; marked = false }) in
    let long : length first ≡ length ls = length-set ls (c.args.at - s.lowest) (record { base = c.index_mut.result.now.base; cells = c.index_mut.result.now.cells; older = c.index_mut.result.now.older; newer = c.index_mut.result.now.newer; split = c.index_mut.result.now.split; marked = false }) in
    let a = c.index-link.result.now.older in
    let b = c.index-link.result.now.newer in
    let a_high : a - s.lowest < length first = omega (arith, long, n.older_high, ap (λ (z : Link). z.older) read) in
    let la : Link = with_newer c.index_mut-else-at-ends-3.result.now b in
    let second : List Link = set first (a - s.lowest) la in
    let long2 : length second ≡ length first = length-set first (a - s.lowest) la in
    let b_high : b - s.lowest < length second = omega (arith, long, long2, n.newer_high, ap (λ (z : Link). z.newer) read) in
    let lb : Link = with_older c.index_mut-else-at-ends-3-2.result.now a in
    let t = between_gone s.lowest ls c.args.at a b (record { base = c.index_mut.result.now.base; cells = c.index_mut.result.now.cells; older = c.index_mut.result.now.older; newer = c.index_mut.result.now.newer; split = c.index_mut.result.now.split; marked = false }) la lb c.in-Some.ends linked any c.if-at-ends-3.false c.if-at-ends.false (ap (λ (z : Link). z.older) read) (ap (λ (z : Link). z.newer) read) refl (ap (λ (z : Link). z.newer) same) (ap (λ (z : Link). z.older) same)
    (ap (λ (z : Link). with_newer z b) (c.index_mut-else-at-ends-3.ensures.value ∙ link_any first (a - s.lowest) c.index_mut-else-at-ends-3.result.now bare a_high))
    (ap (λ (z : Link). with_older z a) (c.index_mut-else-at-ends-3-2.ensures.value ∙ link_any second (b - s.lowest) c.index_mut-else-at-ends-3-2.result.now bare b_high)) in
    t.linked

pub returns-then-at-ends-2 : goal.returns-then-at-ends-2
returns-then-at-ends-2 c =
    let s = c.self.inside in
    let ls = s.links.items in
    let any = subst (λ v. Any (λ m. m.at ≡ c.args.at) v.marks) (sym c.self.view_is) c.requires in
    let linked = opened s.lowest ls c.in-Some.ends (subst (AreLinked s.lowest ls) c.in-Some.is c.self.invariant) in
    let t = alone s.lowest ls c.args.at (record { base = c.index_mut.result.now.base; cells = c.index_mut.result.now.cells; older = c.index_mut.result.now.older; newer = c.index_mut.result.now.newer; split = c.index_mut.result.now.split; marked = false }) c.in-Some.ends linked any c.if-at-ends-2.true c.if-at-ends.true refl in
    (λ i. record { lowest = s.lowest; room = vec_capacity s.links; marks = t.marks i }) ∙ ap (λ v. without v c.args.at) c.self.view_is

pub returns-else-at-ends-2 : goal.returns-else-at-ends-2
returns-else-at-ends-2 c =
    let s = c.self.inside in
    let ls = s.links.items in
    let any = subst (λ v. Any (λ m. m.at ≡ c.args.at) v.marks) (sym c.self.view_is) c.requires in
    let linked = opened s.lowest ls c.in-Some.ends (subst (AreLinked s.lowest ls) c.in-Some.is c.self.invariant) in
    let f = found s.lowest ls c.args.at any in
    let read : c.index-link.result.now ≡ get_or ls (c.args.at - s.lowest) bare = c.index-link.ensures ∙ link_any ls (c.args.at - s.lowest) c.index-link.result.now bare f.high in
    let same : c.index_mut.result.now ≡ get_or ls (c.args.at - s.lowest) bare = c.index_mut.ensures.value ∙ link_any ls (c.args.at - s.lowest) c.index_mut.result.now bare f.high in
    let t = newest_gone s.lowest ls c.args.at c.index-link.result.now.older (record { base = c.index_mut.result.now.base; cells = c.index_mut.result.now.cells; older = c.index_mut.result.now.older; newer = c.index_mut.result.now.newer; split = c.index_mut.result.now.split; marked = false }) c.in-Some.ends linked any c.if-at-ends-2.false c.if-at-ends.true (ap (λ (z : Link). z.older) read) refl (ap (λ (z : Link). z.newer) same) (ap (λ (z : Link). z.older) same) in
    (λ i. record { lowest = s.lowest; room = vec_capacity s.links; marks = t.marks i }) ∙ ap (λ v. without v c.args.at) c.self.view_is

pub returns-then-at-ends-3 : goal.returns-then-at-ends-3
returns-then-at-ends-3 c =
    let s = c.self.inside in
    let ls = s.links.items in
    let any = subst (λ v. Any (λ m. m.at ≡ c.args.at) v.marks) (sym c.self.view_is) c.requires in
    let linked = opened s.lowest ls c.in-Some.ends (subst (AreLinked s.lowest ls) c.in-Some.is c.self.invariant) in
    let f = found s.lowest ls c.args.at any in
    let read : c.index-link.result.now ≡ get_or ls (c.args.at - s.lowest) bare = c.index-link.ensures ∙ link_any ls (c.args.at - s.lowest) c.index-link.result.now bare f.high in
    let same : c.index_mut.result.now ≡ get_or ls (c.args.at - s.lowest) bare = c.index_mut.ensures.value ∙ link_any ls (c.args.at - s.lowest) c.index_mut.result.now bare f.high in
    let t = oldest_gone s.lowest ls c.args.at c.index-link.result.now.newer (record { base = c.index_mut.result.now.base; cells = c.index_mut.result.now.cells; older = c.index_mut.result.now.older; newer = c.index_mut.result.now.newer; split = c.index_mut.result.now.split; marked = false }) c.in-Some.ends linked any c.if-at-ends-3.true c.if-at-ends.false (ap (λ (z : Link). z.newer) read) refl (ap (λ (z : Link). z.newer) same) (ap (λ (z : Link). z.older) same) in
    (λ i. record { lowest = s.lowest; room = vec_capacity s.links; marks = t.marks i }) ∙ ap (λ v. without v c.args.at) c.self.view_is

pub returns-else-at-ends-3 : goal.returns-else-at-ends-3
returns-else-at-ends-3 c =
    let s = c.self.inside in
    let ls = s.links.items in
    let any = subst (λ v. Any (λ m. m.at ≡ c.args.at) v.marks) (sym c.self.view_is) c.requires in
    let linked = opened s.lowest ls c.in-Some.ends (subst (AreLinked s.lowest ls) c.in-Some.is c.self.invariant) in
    let f = found s.lowest ls c.args.at any in
    let read : c.index-link.result.now ≡ get_or ls (c.args.at - s.lowest) bare = c.index-link.ensures ∙ link_any ls (c.args.at - s.lowest) c.index-link.result.now bare f.high in
    let same : c.index_mut.result.now ≡ get_or ls (c.args.at - s.lowest) bare = c.index_mut.ensures.value ∙ link_any ls (c.args.at - s.lowest) c.index_mut.result.now bare f.high in
    let n = neighbours s.lowest ls c.args.at c.in-Some.ends linked any c.if-at-ends-3.false c.if-at-ends.false in
    let first : List Link = set ls (c.args.at - s.lowest) (record { base = c.index_mut.result.now.base; cells = c.index_mut.result.now.cells; older = c.index_mut.result.now.older; newer = c.index_mut.result.now.newer; split = c.index_mut.result.now.split; marked = false }) in
    let long : length first ≡ length ls = length-set ls (c.args.at - s.lowest) (record { base = c.index_mut.result.now.base; cells = c.index_mut.result.now.cells; older = c.index_mut.result.now.older; newer = c.index_mut.result.now.newer; split = c.index_mut.result.now.split; marked = false }) in
    let a = c.index-link.result.now.older in
    let b = c.index-link.result.now.newer in
    let a_high : a - s.lowest < length first = omega (arith, long, n.older_high, ap (λ (z : Link). z.older) read) in
    let la : Link = with_newer c.index_mut-else-at-ends-3.result.now b in
    let second : List Link = set first (a - s.lowest) la in
    let long2 : length second ≡ length first = length-set first (a - s.lowest) la in
    let b_high : b - s.lowest < length second = omega (arith, long, long2, n.newer_high, ap (λ (z : Link). z.newer) read) in
    let lb : Link = with_older c.index_mut-else-at-ends-3-2.result.now a in
    let t = between_gone s.lowest ls c.args.at a b (record { base = c.index_mut.result.now.base; cells = c.index_mut.result.now.cells; older = c.index_mut.result.now.older; newer = c.index_mut.result.now.newer; split = c.index_mut.result.now.split; marked = false }) la lb c.in-Some.ends linked any c.if-at-ends-3.false c.if-at-ends.false (ap (λ (z : Link). z.older) read) (ap (λ (z : Link). z.newer) read) refl (ap (λ (z : Link). z.newer) same) (ap (λ (z : Link). z.older) same)
    (ap (λ (z : Link). with_newer z b) (c.index_mut-else-at-ends-3.ensures.value ∙ link_any first (a - s.lowest) c.index_mut-else-at-ends-3.result.now bare a_high))
    (ap (λ (z : Link). with_older z a) (c.index_mut-else-at-ends-3-2.ensures.value ∙ link_any second (b - s.lowest) c.index_mut-else-at-ends-3-2.result.now bare b_high)) in
    (λ i. record { lowest = s.lowest; room = vec_capacity s.links; marks = t.marks i }) ∙ ap (λ v. without v c.args.at) c.self.view_is
