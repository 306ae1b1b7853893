use Rattle.steal_pool.proofs.Gathering.{some_outcome}
use Rattle.steal_pool.proofs.gather.close_run.Goals as goal

-- one worker made the finish
pub unreachable-requires : goal.unreachable-requires
unreachable-requires g c =
    some_outcome g.S.RunTerms.terms c.args.sum.outcome c.args.sum.passes.items c.in_default.is
    c.requires.all c.requires.outcome c.close-closed.ensures.once
