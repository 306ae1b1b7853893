use Rattle.std.proofs.Common.{rules}
use Rattle.join_records.proofs.Freeing.{reads_full}
use Rattle.join_records.proofs.table.Records.read_full.Goals as goal

pub load-requires : goal.load-requires
load-requires g c = (search rules, search rules, reads_full _ _ _ _ _ _ (search rules) (search rules))
