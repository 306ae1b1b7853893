use Rattle.std.proofs.Common.{◌∙◌}
use Rattle.std.proofs.Common.{take}
use Rattle.block_lower.proofs.Written.Stepping.{first_more}
use Rattle.block_lower.proofs.Written.WrittenPrograms.{declared_more}
use Rattle.block_lower.proofs.program.code_tables.Goals as goal
use Rattle.block_lower.proofs.program.code_tables.Goals.{in-Input+in_ok-name-in-Input+in_ok-push-in-Input}
use Rattle.block_lower.proofs.program.code_tables.Goals.{in-Made+in_ok-push-in-Made}

pub loop-table-preserved : goal.loop-table-preserved
loop-table-preserved c =
    let ds = c.args.tables.now in
    let i = c.loop-table.table-index in
    let step = first_more ds i c.table-item.result c.loop-table-test.true c.table-item.is in
    elim c.match-table.branch [
      | in-Input+in_ok-name-in-Input+in_ok-push-in-Input w ↦
          rw (w.all-is, w.in_ok-push-in-Input.ensures.items, step)
          (declared_more (take i ds) c.loop-table.all.items c.table-item.result _ c.loop-table.invariant (rw w.in-Input.is (w.new.ensures ∙ w.in_ok-name-in-Input.ensures.items ∙ w.deref.ensures.value)))
      | in-Made+in_ok-push-in-Made w ↦
          rw (w.all-is, w.in_ok-push-in-Made.ensures.items, step)
          (declared_more (take i ds) c.loop-table.all.items c.table-item.result _ c.loop-table.invariant (rw w.in-Made.is tt))
    ]
