use Rattle.std.proofs.Common.{rules}
use Rattle.join_records.proofs.Frame.{loads}
use Rattle.join_records.proofs.table.Records.finished.Goals as goal

pub load-found-requires : goal.load-found-requires
load-found-requires g c = (search rules, search rules, loads _ _ _ _ _ _ (search rules))
