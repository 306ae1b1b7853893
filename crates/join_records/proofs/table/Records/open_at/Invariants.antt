use Rattle.std.proofs.Common.{Some}
use Rattle.join_records.proofs.table.Records.open_at.Given as goal

abbrev pub ghosts-open_filled : goal.ghosts-open_filled
ghosts-open_filled g a = record { ending = Some a.left.now.promise.0 }
