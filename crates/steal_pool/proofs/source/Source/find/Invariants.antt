use Rattle.crossbeam_deque.specs.Handles.{worker_deque}
use Rattle.steal_pool.proofs.source.Source.find.Given as goal

abbrev pub ghosts-pop : goal.ghosts-pop
ghosts-pop g a = record { empty = g.E.EachEmptied.each (worker_deque a.self.now.owner) }
