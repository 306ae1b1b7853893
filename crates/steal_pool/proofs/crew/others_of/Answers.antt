use Rattle.std.proofs.Common.{rules, ap, sym, ◌∙◌, ◌≡◌, slice_index_or}
use Rattle.atomic_table.proofs.Lists.{at_index}
use Rattle.crossbeam_deque.specs.Handles.{worker_deque}
use Rattle.steal_pool.proofs.Tying.{reach_all, reach_more}
use Rattle.steal_pool.proofs.crew.others_of.Goals as goal

-- the end of one more deque, as many places after this one
pub loop-step-preserved : goal.loop-step-preserved
loop-step-preserved g c =
    let sources = c.args.sources.now in
    let at = c.next_of-at.result in
    let source = c.index-sources-at.result in
    let near = c.next_of-at.ensures in
    let is : source ≡ slice_index_or sources at source = c.index-sources-at.is in
    reach_more c.args.number c.loop-step.step at sources c.loop-step.others.items
    c.push.new.self.items _ source near.below near.round
    (at_index sources at source near.below is) c.in_ok-push.ensures.items
    (c.in_ok-thief.ensures.0 ∙ ap (λ s. worker_deque s.owner) (sym is)) c.loop-step.invariant

-- all round
pub returns : goal.returns
returns g c = record {
  all =
      reach_all c.args.number c.loop-step.step c.args.sources.now c.loop-step.others.items
      c.requires.number (search rules) c.loop-step.invariant;
}
