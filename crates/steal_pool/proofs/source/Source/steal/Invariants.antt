use Rattle.std.proofs.Common.{◌≡◌, ℕ, ◌<◌, ◌≤◌, slice_index_or}
use Rattle.crossbeam_deque.specs.Handles.{stealer_deque}
use Rattle.steal_pool.specs.Tied.{SameDeques}
use Rattle.steal_pool.proofs.source.Source.steal.Given as goal

abbrev pub invariant-loop-k : goal.invariant-loop-k
invariant-loop-k g l =
    ((j : ℕ) (d : _)
    → j < l.k
    → g.E.EachEmptied.each (stealer_deque (slice_index_or l.initial.self.others.items j d).thief))
    × ((j : ℕ) (d : _)
    → l.k ≤ j
    → slice_index_or l.self.others.items j d ≡ slice_index_or l.initial.self.others.items j d)
    × SameDeques l.initial.self l.self

abbrev pub ghosts-steal : goal.ghosts-steal
ghosts-steal g a = record { empty = g.E.EachEmptied.each (stealer_deque a.self.now.thief) }
