use Rattle.loop_check.specs.Walk.{inside}
use Rattle.loop_check.proofs.Walking.{put_found}
use Rattle.loop_check.proofs.statement.in_put.Goals as goal

pub returns : goal.returns
returns c =
    put_found c.args.readers.now (inside c.args.spot.now) c.args.found.now c.writes.new.found c.in_whole.new.found c.in_whole-2.new.found c.in_whole-3.new.found
    c.args.table.now c.args.row.now c.args.column.now c.args.value.now c.writes.ensures c.in_whole.ensures c.in_whole-2.ensures c.in_whole-3.ensures
