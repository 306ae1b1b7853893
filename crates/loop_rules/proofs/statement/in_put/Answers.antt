use Rattle.loop_rules.specs.Search.{resolved_rules}
use Rattle.loop_rules.specs.Walk.{spot_of}
use Rattle.loop_rules.proofs.Walking.{put_found}
use Rattle.loop_rules.proofs.statement.in_put.Goals as goal

pub returns : goal.returns
returns c =
    put_found resolved_rules (spot_of c.args.spot.now) c.args.found.now c.names_table.new.found c.writes.new.found c.in_whole.new.found c.in_whole-2.new.found c.in_whole-3.new.found
    c.args.table.now c.args.row.now c.args.column.now c.args.value.now
    c.names_table.ensures c.writes.ensures c.in_whole.ensures c.in_whole-2.ensures c.in_whole-3.ensures
