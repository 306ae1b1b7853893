use Rattle.std.proofs.Common.{◌∙◌, ◌<◌, arith, ap, length, take, ◌+◌}
use Rattle.loop_syntax.specs.declared.Name.{Name}
use Rattle.loop_rules.specs.Leaves.{has_other}
use Rattle.loop_rules.specs.Walk.{named}
use Rattle.loop_check.specs.Walk.{inside}
use Rattle.loop_check.proofs.Targeting.{behind, name_of, next_mixed, next_target, at_place, as_many}
use Rattle.loop_check.proofs.Targeting.{one_first}
use Rattle.loop_check.proofs.leaves.go_over.Goals as goal

pub loop-i-preserved : goal.loop-i-preserved
loop-i-preserved c =
    let ys = c.args.targets.now in
    let i = c.loop-i.i in
    let x = c.index-targets-i.result.now in
    let first = c.index-targets-0.result.now in
    let lt = as_many ys i c.loop-i-test.true in
    let some : 0 < length ys = omega (arith, c.loop-i-test.true) in
    let is = at_place ys i c.index-targets-i.result c.loop-i-test.true c.index-targets-i.is in
    let head = at_place ys 0 c.index-targets-0.result some c.index-targets-0.is in
    let before = c.loop-i.invariant.1 first head in (
      rw (c.note_if.ensures, c.is_bad.ensures, c.is_mixed-mixed.ensures)
          (next_target i (named ys) x first c.loop-i.mixed lt is head before c.loop-i.found (inside c.args.spot.now) ∙ c.loop-i.invariant.0),
      λ f e. c.is_mixed-mixed.ensures ∙ next_mixed i (named ys) x first c.loop-i.mixed lt is head before
          ∙ ap (λ (z : Name). has_other (behind (take (i + 1) (named ys))) (name_of z)) (one_first (named ys) first f (as_many ys 0 some) head e),
    )
