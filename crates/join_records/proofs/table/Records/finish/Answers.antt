use Rattle.std.proofs.Common.{rules}
use Rattle.join_records.proofs.Freeing.{finishes}
use Rattle.join_records.proofs.table.Records.finish.Goals as goal

pub store-requires : goal.store-requires
store-requires g c = let root = c.requires.root in (search rules, search rules, finishes _ _ _ _ _ root.0 c.requires.table.2 c.requires.none_met root.1)
