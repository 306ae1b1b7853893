use Rattle.std.proofs.Common.{◌≡◌, ◌+◌, subst, sym, arith}
use Rattle.std.specs.List.{sum_by}
use Rattle.std.proofs.lemmas.List.Sums.{sum_by_more_le}
use Rattle.scene_laws.specs.Count.{blocks}
use Rattle.scene_laws.specs.Heights.{AreLow}
use Rattle.scene_laws.proofs.Counts.Adding.{kept_of_vec}
use Rattle.scene_laws.proofs.Counts.Counting.{blocks_of_vec}
use Rattle.block_lower.proofs.Written.Stepping.{low_at}
use Rattle.block_lower.proofs.Written.Fitting.{low_of_vec}
use Rattle.block_lower.proofs.sizes.+kept.Goals as goal

pub kept-returns-in-If : goal.kept-returns-in-If
kept-returns-in-If t c =
    let first = rw c.deref.ensures.value at c.kept_by_list.ensures in
    let second = rw c.deref-in-If.ensures.value at c.kept_by_list-in-If.ensures in
    rw c.in-If.is (omega (arith, kept_of_vec c.in-If.body, kept_of_vec c.in-If.other, first, second))

pub kept-returns-in-While : goal.kept-returns-in-While
kept-returns-in-While t c =
    let inner = rw c.deref-in-While.ensures.value at c.kept_by_list-in-While.ensures in
    rw c.in-While.is (omega (arith, kept_of_vec c.in-While.body, inner))

pub kept-returns-in-Loop : goal.kept-returns-in-Loop
kept-returns-in-Loop t c =
    let inner = rw c.deref-in-Loop.ensures.value at c.kept_by_list-in-Loop.ensures in
    rw c.in-Loop.is (omega (arith, kept_of_vec c.in-Loop.body, inner))

pub kept-returns-in-Par : goal.kept-returns-in-Par
kept-returns-in-Par t c =
    let inner = rw c.deref-in-Par.ensures.value at c.kept_by_list-in-Par.ensures in
    rw c.in-Par.is (omega (arith, kept_of_vec c.in-Par.l.body, inner))

pub kept-kept_by_list-requires : goal.kept-kept_by_list-requires
kept-kept_by_list-requires t c =
    let low = rw c.in-If.is at c.requires in
    let measure : blocks c.args.s.now ≡ t = c.decreases in
    let whole = rw c.in-If.is at measure in
    rw c.deref.ensures.value
    (omega (arith, whole, blocks_of_vec c.in-If.body), low_of_vec c.in-If.body low.1)

pub kept-kept_by_list-requires-in-If : goal.kept-kept_by_list-requires-in-If
kept-kept_by_list-requires-in-If t c =
    let low = rw c.in-If.is at c.requires in
    let measure : blocks c.args.s.now ≡ t = c.decreases in
    let whole = rw c.in-If.is at measure in
    rw c.deref-in-If.ensures.value
    (omega (arith, whole, blocks_of_vec c.in-If.other), low_of_vec c.in-If.other low.2)

pub kept-kept_by_list-requires-in-While : goal.kept-kept_by_list-requires-in-While
kept-kept_by_list-requires-in-While t c =
    let low = rw c.in-While.is at c.requires in
    let measure : blocks c.args.s.now ≡ t = c.decreases in
    let whole = rw c.in-While.is at measure in
    rw c.deref-in-While.ensures.value
    (omega (arith, whole, blocks_of_vec c.in-While.body), low_of_vec c.in-While.body low.1)

pub kept-kept_by_list-requires-in-Loop : goal.kept-kept_by_list-requires-in-Loop
kept-kept_by_list-requires-in-Loop t c =
    let low = rw c.in-Loop.is at c.requires in
    let measure : blocks c.args.s.now ≡ t = c.decreases in
    let whole = rw c.in-Loop.is at measure in
    rw c.deref-in-Loop.ensures.value
    (omega (arith, whole, blocks_of_vec c.in-Loop.body), low_of_vec c.in-Loop.body low.2)

pub kept-kept_by_list-requires-in-Par : goal.kept-kept_by_list-requires-in-Par
kept-kept_by_list-requires-in-Par t c =
    let low = rw c.in-Par.is at c.requires in
    let measure : blocks c.args.s.now ≡ t = c.decreases in
    let whole = rw c.in-Par.is at measure in
    rw c.deref-in-Par.ensures.value
    (omega (arith, whole, blocks_of_vec c.in-Par.l.body), low_of_vec c.in-Par.l.body low.2)

pub kept_by_list-kept-requires : goal.kept_by_list-kept-requires
kept_by_list-kept-requires t c =
    let body = c.args.body.now in
    let i = c.loop-s.s-index in
    let s = c.s-item.result in
    let measure : sum_by blocks body + 1 ≡ t = c.decreases in
    let within = rw (← c.s-item.is) at (sum_by_more_le blocks body i s c.loop-s-test.true) in (
      omega (arith, measure, within),
      subst AreLow (sym c.s-item.is) (low_at body i s c.loop-s-test.true c.requires),
    )
