use Rattle.crossbeam_deque.specs.Handles.{worker_port}
use Rattle.steal_pool.proofs.source.Source.put.Goals as goal

-- a number of a record goes in
pub push_as-requires-clause-pushes : goal.push_as-requires-clause-pushes
push_as-requires-clause-pushes g c =
    g.S.RunTerms.lets.pushes (worker_port c.args.self.now.owner) c.args.number c.requires
