use Rattle.std.proofs.Common.{rules}
use Rattle.join_records.proofs.Frame.{loads}
use Rattle.join_records.proofs.table.Records.read_word.Goals as goal

pub load-requires : goal.load-requires
load-requires g c = (search rules, search rules, loads _ _ _ _ _ _ (search rules))
