use Rattle.std.proofs.Common.{◌≡◌, ◌≤◌, ◌+◌, drop, refl, arith}
use Rattle.std.proofs.lemmas.List.Sums.{sum_by-cons}
use Rattle.block_lower.specs.declared.body.Callee.{Callee}
use Rattle.block_lower.specs.Programs.{entries_from}
use Rattle.scene_laws.specs.Sizes.{added_by_func}
use Rattle.block_lower.proofs.Written.WrittenFunctions.{next_dropped, entries_next}
use Rattle.block_lower.proofs.function.callees_of.Goals as goal

pub loop-f-preserved : goal.loop-f-preserved
loop-f-preserved c =
    let fs = c.args.fs.now in
    let i = c.loop-f.f-index in
    let f = c.f-item.result in
    let step = next_dropped fs i f c.loop-f-test.true c.f-item.is in
    let labels = rw step at c.loop-f.invariant.labels in
    let small = rw step at c.loop-f.invariant.small in
    let low = rw step at c.loop-f.invariant.low in
    let listed = rw step at c.loop-f.invariant.listed in
    let rest = drop (i + 1) fs in
    let few : added_by_func c.args.calls f ≤ 65536 = omega (arith, labels, sum_by-cons (added_by_func c.args.calls) f rest) in
    let blocks : c.added_by_func-label.result ≡ added_by_func c.args.calls f = omega (arith, few, c.added_by_func-label.ensures) in
    let callee : Callee = record { name = c.in_ok-name.name; label = c.loop-f.label; parameters = c.len.result; size = c.size_of.result } in
    record {
      labels = omega (arith, labels, blocks, sum_by-cons (added_by_func c.args.calls) f rest);
      small = small.1;
      low = low.1;
      listed = rw c.in_ok-push.ensures.items
          (entries_next c.loop-f.callees.items callee c.args.calls c.loop-f.label c.added_by_func-label.result f rest (entries_from c.args.calls c.args.first fs) (rw c.deref.ensures.value at c.in_ok-name.ensures.items) refl
          (omega (arith, c.len.ensures, f.params.ok)) c.size_of.ensures blocks listed);
    }
