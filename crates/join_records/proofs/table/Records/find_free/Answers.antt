use Rattle.join_records.proofs.Calls.{none_if}
use Rattle.join_records.proofs.table.Records.find_free.Goals as goal

pub returns-in-None-clause-none : goal.returns-in-None-clause-none
returns-in-None-clause-none g c = none_if _ _ _ _ _ _ c.in-None.ensures.none c.find_between-in-None.ensures.none
