use Rattle.std.proofs.Common.{rules, ap, sym, ◌∙◌, ◌≡◌, ◌<◌, length, slice_index_or}
use Rattle.std.proofs.lemmas.List.{length-set}
use Rattle.atomic_table.proofs.Lists.{at_index}
use Rattle.crossbeam_deque.specs.Handles.{worker_deque}
use Rattle.steal_pool.proofs.Tying.{tie_more, tied_all}
use Rattle.steal_pool.proofs.crew.tie.Goals as goal

-- one more source has its ends
pub loop-number-preserved : goal.loop-number-preserved
loop-number-preserved g c =
    let sources = c.loop-number.sources in
    let number = c.loop-number.number in
    let old = c.index-sources-number.result in
    let kept = c.loop-number.invariant in
    let near : number < length sources = search rules in
    let is : old ≡ slice_index_or sources number old = c.index-sources-number.is in (
      length-set sources number _ ∙ kept.0,
      tie_more number sources old _ near (at_index sources number old near is)
          (ap (λ s. worker_deque s.owner) (sym is)) c.in_ok-others.ensures.all kept.1,
    )

-- all have them
pub returns-clause-tied : goal.returns-clause-tied
returns-clause-tied g c =
    tied_all c.loop-number.number c.loop-number.sources (search rules) c.loop-number.invariant.1
