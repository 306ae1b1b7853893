use Rattle.std.proofs.Common.{◌≡◌, ◌++◌, drop}
use Rattle.std.specs.Prelude.{IsTrue}
use Rattle.tpal_syntax.specs.Conditions.{are_distinct_tables}
use Rattle.tpal_machine.specs.Ended.{slices_of}
use Rattle.tpal_machine.proofs.ending.slices_of.Given as goal

-- what was handed over and what is still to be are all that is carried
abbrev pub invariant-loop-item : goal.invariant-loop-item
invariant-loop-item l = record {
  handed : slices_of l.fn.tables.items l.carries ≡ l.slices.items ++ slices_of l.tables.items (drop l.item-index l.carries);
  differ : IsTrue (are_distinct_tables (drop l.item-index l.carries));
}
