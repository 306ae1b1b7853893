use Rattle.join_records.proofs.Calls.{taken_after}
use Rattle.join_records.proofs.table.Records.try_take.Goals as goal

pub returns-clause-taken : goal.returns-clause-taken
returns-clause-taken g c = taken_after c.take.result c.args.k _ _ _ _ c.read_word.ensures.word c.take.ensures.taken
