use Rattle.std.proofs.Common.{◌∙◌, rules}
use Rattle.join_records.proofs.Calls.{taken_opens, taken_made}
use Rattle.join_records.proofs.Seats.{takes_record}
use Rattle.join_records.proofs.table.Records.take.Goals as goal

pub compare_exchange-found-requires : goal.compare_exchange-found-requires
compare_exchange-found-requires g c = (search rules, search rules, takes_record _ _ _ _ _ _ (search rules) (search rules))

pub invariant_of-pass : goal.invariant_of-pass
invariant_of-pass g c =
    let was = c.args.pass.now.counted in let told = c.compare_exchange-found.ensures.2 in
    record { counted = (was.0 ∙ taken_opens 0 c.args.k _ c.compare_exchange-found.result _ told, was.1, was.2 ∙ taken_made 0 c.args.k _ c.compare_exchange-found.result _ told) }
