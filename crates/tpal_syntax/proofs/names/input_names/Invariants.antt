use Rattle.std.proofs.Common.{◌≡◌, map, take}
use Rattle.tpal_syntax.specs.Conditions.{input_names}
use Rattle.tpal_syntax.proofs.names.input_names.Given as goal

abbrev pub invariant-loop-table : goal.invariant-loop-table
invariant-loop-table l = map (λ n. n.now) l.names.items ≡ input_names (take l.table-index l.tables)
