use Rattle.std.proofs.Common.{◌≡◌, length, arith}
use Rattle.tpal_machine.specs.Cut.{rest_of, left_of, child_of}
use Rattle.tpal_machine.proofs.Parting.{part_more, count_more}
use Rattle.tpal_machine.proofs.cut.cut_tables.Goals as goal

pub loop-held-preserved : goal.loop-held-preserved
loop-held-preserved c =
    let many : c.len.result ≡ length c.loop-held.yielded = omega (arith, c.len.ensures, c.loop-held.invariant.count) in
    record {
      rest = part_more rest_of c.args.cuts.now c.loop-held.yielded c.in-Some.held c.len.result _ _ _ c.cut_of.result many c.cut_of.ensures c.in_ok-parts.ensures.rest c.loop-held.invariant.rest c.in_ok-push.ensures.items;
      left = part_more left_of c.args.cuts.now c.loop-held.yielded c.in-Some.held c.len.result _ _ _ c.cut_of.result many c.cut_of.ensures c.in_ok-parts.ensures.left c.loop-held.invariant.left c.in_ok-push-2.ensures.items;
      child = part_more child_of c.args.cuts.now c.loop-held.yielded c.in-Some.held c.len.result _ _ _ c.cut_of.result many c.cut_of.ensures c.in_ok-parts.ensures.child c.loop-held.invariant.child c.in_ok-push-3.ensures.items;
      count = count_more _ _ _ c.loop-held.yielded c.in-Some.held c.loop-held.invariant.count c.in_ok-push.ensures.items;
    }
