use Rattle.std.proofs.Common.{◌≡◌, ◌+◌, refl, replicate, rules}
use Rattle.join_records.proofs.Seats.{starts_as, opens_seat}
use Rattle.join_records.proofs.table.Records.vacant.Goals as goal

pub vacant-requires : goal.vacant-requires
vacant-requires g c = let owed = c.requires.owed in let is : c.as_slice.result.now ≡ replicate (c.args.records + 1) 0 = search rules in
    starts_as _ _ _ c.args.records _ owed.0 is refl owed.1

pub load-requires : goal.load-requires
load-requires g c = (search rules, search rules, opens_seat _ _ _ _ _ (search rules) (search rules) (search rules) (search rules))
