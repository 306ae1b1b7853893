use Rattle.tpal_syntax.specs.declared.notes.CarryAt.TheVariants.{Rows}
use Rattle.tpal_machine.proofs.Handing.{handed_step, distinct_step}
use Rattle.tpal_machine.proofs.ending.slices_of.Goals as goal

pub loop-item-preserved : goal.loop-item-preserved
loop-item-preserved c = record {
  handed = handed_step _ c.loop-item.slices.items c.push.new.self.items c.loop-item.tables.items c.take_table-held.new.tables.items c.args.carries.now c.loop-item.item-index _ c.table_of-table.result c.take_table-held.result c.own.new.self c.loop-item.invariant.handed c.loop-item.invariant.differ c.loop-item-test.true c.table_of-table.ensures c.take_table-held.ensures.taken c.take_table-held.ensures.left c.in_ok-own.ensures.ok c.in_ok-push.ensures.items;
  differ = distinct_step c.args.carries.now c.loop-item.item-index (Rows 0 0) c.loop-item-test.true c.loop-item.invariant.differ;
}
