use Rattle.std.proofs.Common.{◌≡◌, ◌<◌, ◌/◌, ◌%◌, ◌∙◌, Some, arith, rules, ap, sym, subst, cond, length}
use Rattle.std.proofs.Common.{get_or, set, to_z-of_z}
use Rattle.std.proofs.lemmas.List.{with_items_is, places}
use Rattle.std.specs.Box.{with_value}
use Rattle.std.specs.Prelude.{nat_eq}
use Rattle.std.specs.Vec.{with_items}
use Rattle.slices.specs.Spans.{number, in_list}
use Rattle.slices.proofs.Places.{put_between, set_in_front}
use Rattle.slices.proofs.full.Full.put.Goals as goal

pub returns-clause-cells : goal.returns-clause-cells
returns-clause-cells c = λ i.
    let xs = c.as_mut_slice-list.result.now in
    let k = c.args.at / 256 in
    let box = c.index-list-at.result in
    let boxes = set xs k (with_value (get_or xs k box) c.write.new.chunk) in
    let inside : k < length xs = subst (λ ys. k < length ys) (sym c.as_mut_slice-list.ensures.value) (omega (arith, c.requires.1)) in
    let kept : (with_items c.args.self.now.list boxes).items ≡ boxes = with_items_is c.args.self.now.list boxes (search (rules, places)) in
    put_between 0 c.args.self.now.end c.args.at i _ _ c.args.value (omega arith) (omega (arith, c.requires.0))
    (λ _. ap (λ ys. in_list 0 ys i) kept
    ∙ set_in_front c.args.at i xs box _ c.args.value inside
    (λ j. (rw (to_z-of_z c.ranges.value) at (c.write.ensures j)) ∙ ap (λ ys. cond (nat_eq j (c.args.at % 256)) c.args.value (number ys j)) c.deref_mut.ensures.value)
    ∙ ap (λ ys. cond (nat_eq i c.args.at) (Some c.args.value) (in_list 0 ys i)) c.as_mut_slice-list.ensures.value)
