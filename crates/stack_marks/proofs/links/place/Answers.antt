use Rattle.std.proofs.Common.{◌≡◌, ◌-◌, List, get_or, set, length, subst, ap, ◌∙◌, arith}
use Rattle.std.proofs.Common.{refl, true}
use Rattle.std.proofs.lemmas.List.{length-set}
use Rattle.stack_marks.specs.declared.links.Link.{Link}
use Rattle.stack_marks.specs.Linked.{bare, AreLinked}
use Rattle.stack_marks.proofs.Following.{opened}
use Rattle.stack_marks.proofs.Chains.{link_any, with_newer, newest_stands, first_added, later_added}
use Rattle.stack_marks.proofs.links.place.Goals as goal

pub overflow_sub-ends : goal.overflow_sub-ends
overflow_sub-ends c = (newest_stands c.args.lowest c.args.links.now.items c.in-Some.ends (opened c.args.lowest c.args.links.now.items c.in-Some.ends (subst (AreLinked c.args.lowest c.args.links.now.items) c.in-Some.is c.requires.linked))).0

pub returns-in-None-clause-linked : goal.returns-in-None-clause-linked
returns-in-None-clause-linked c =
    (first_added c.args.lowest c.args.mark.at c.args.links.now.items _ (subst (AreLinked c.args.lowest c.args.links.now.items) c.in-None.is c.requires.linked) c.requires.low c.requires.high refl).linked

pub returns-in-None-clause-marks : goal.returns-in-None-clause-marks
returns-in-None-clause-marks c =
    let link : Link = record { base = c.args.mark.base; cells = c.args.mark.cells; older = c.index_mut-link.result.now.older; newer = c.index_mut-link.result.now.newer; split = c.args.mark.split; marked = true } in
    (first_added c.args.lowest c.args.mark.at c.args.links.now.items link (subst (AreLinked c.args.lowest c.args.links.now.items) c.in-None.is c.requires.linked) c.requires.low c.requires.high refl).marks

pub returns-in-Some-clause-linked : goal.returns-in-Some-clause-linked
returns-in-Some-clause-linked c =
    let ls = c.args.links.now.items in
    let linked = opened c.args.lowest ls c.in-Some.ends (subst (AreLinked c.args.lowest ls) c.in-Some.is c.requires.linked) in
    let end = newest_stands c.args.lowest ls c.in-Some.ends linked in
    let link : Link = record { base = c.args.mark.base; cells = c.args.mark.cells; older = c.in-Some.ends.newest; newer = c.index_mut-link.result.now.newer; split = c.args.mark.split; marked = true } in
    let first : List Link = set ls (c.args.mark.at - c.args.lowest) link in
    let i = c.in-Some.ends.newest - c.args.lowest in
    let long : length first ≡ length ls = length-set ls (c.args.mark.at - c.args.lowest) link in
    let read : c.index_mut.result.now ≡ get_or first i bare = c.index_mut.ensures.value ∙ link_any first i c.index_mut.result.now bare (omega (arith, long, end.1)) in
    (later_added c.args.lowest c.args.mark.at ls link _ c.in-Some.ends linked c.requires.newest c.requires.low c.requires.high refl refl (ap (λ (z : Link). with_newer z c.args.mark.at) read)).linked

pub returns-in-Some-clause-marks : goal.returns-in-Some-clause-marks
returns-in-Some-clause-marks c =
    let ls = c.args.links.now.items in
    let linked = opened c.args.lowest ls c.in-Some.ends (subst (AreLinked c.args.lowest ls) c.in-Some.is c.requires.linked) in
    let end = newest_stands c.args.lowest ls c.in-Some.ends linked in
    let link : Link = record { base = c.args.mark.base; cells = c.args.mark.cells; older = c.in-Some.ends.newest; newer = c.index_mut-link.result.now.newer; split = c.args.mark.split; marked = true } in
    let first : List Link = set ls (c.args.mark.at - c.args.lowest) link in
    let i = c.in-Some.ends.newest - c.args.lowest in
    let long : length first ≡ length ls = length-set ls (c.args.mark.at - c.args.lowest) link in
    let read : c.index_mut.result.now ≡ get_or first i bare = c.index_mut.ensures.value ∙ link_any first i c.index_mut.result.now bare (omega (arith, long, end.1)) in
    (later_added c.args.lowest c.args.mark.at ls link _ c.in-Some.ends linked c.requires.newest c.requires.low c.requires.high refl refl (ap (λ (z : Link). with_newer z c.args.mark.at) read)).marks
