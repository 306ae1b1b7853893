use Rattle.std.proofs.Common.{◌≡◌, ◌+◌, ◌-◌, ◌^◌, length, sym, ap, ◌∙◌, arith}
use Rattle.std.proofs.lemmas.List.{length-drop}
use Rattle.stack_marks.proofs.Rising.{widen, from_position}
use Rattle.stack_marks.proofs.cuts.parts.Goals as goal

pub keep_from-requires : goal.keep_from-requires
keep_from-requires c = widen c.stack.inside.base 0 _ (2 ^ 62) c.stack.inside.links.marks (omega arith) c.stack.invariant.top_low c.stack.invariant.in_order

pub invariant_of-result-2 : goal.invariant_of-result-2
invariant_of-result-2 c =
    let s = c.stack.inside in
    let from = c.args.at.from in
    let cells : length c.args.stack.cells ≡ length s.cells.items = ap (λ v. length v.cells) (sym c.stack.view_is) in
    let size : length c.rest_and_left-rest.result.1.items ≡ length s.cells.items - from =
    ap length c.rest_and_left-rest.ensures.left ∙ length-drop from s.cells.items in
    let top : s.base + from + length c.rest_and_left-rest.result.1.items ≡ s.base + length s.cells.items =
    omega (arith, size, cells, c.requires.within) in
    record {
      base_low = omega (arith, top, c.stack.invariant.top_low);
      top_low = omega (arith, top, c.stack.invariant.top_low);
      in_order = rw (c.keep_from.ensures, top) (from_position s.base (s.base + length s.cells.items) (s.base + from) s.links.marks c.stack.invariant.in_order);
      lowest = omega (arith, ap (λ v. v.lowest) c.keep_from.ensures, c.stack.invariant.lowest);
      room = omega (arith, top, ap (λ v. v.lowest) c.keep_from.ensures, ap (λ v. v.room) c.keep_from.ensures, c.stack.invariant.room);
    }
