use Rattle.std.proofs.Common.{rules}
use Rattle.join_records.proofs.Seats.{splits}
use Rattle.join_records.proofs.table.Records.split.Goals as goal

pub split_seat-seat-requires : goal.split_seat-seat-requires
split_seat-seat-requires g c = let root = c.requires.root in (search rules, search rules, splits _ _ _ _ root.0 root.1 c.requires.parts)
