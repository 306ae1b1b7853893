use Rattle.std.proofs.Common.{rules}
use Rattle.steal_pool.proofs.Tying.{tied_taken}
use Rattle.steal_pool.proofs.crew.make_sources.Goals as goal

-- the sources that were tied are all
pub returns-clause-tied : goal.returns-clause-tied
returns-clause-tied g c =
    tied_taken c.in_ok-sources.sources.len c.tie.new.sources _ (search rules)
    c.in_ok-tie.ensures.tied
