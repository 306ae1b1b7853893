use Rattle.std.proofs.Common.{◌≡◌, length}
use Rattle.tpal_machine.specs.Cut.{rest_of, left_of, child_of, each_part}
use Rattle.tpal_machine.proofs.cut.cut_tables.Given as goal

-- the parts of the tables so far
abbrev pub invariant-loop-held : goal.invariant-loop-held
invariant-loop-held l = record {
  rest : l.rest.items ≡ each_part rest_of l.cuts 0 l.yielded;
  left : l.left.items ≡ each_part left_of l.cuts 0 l.yielded;
  child : l.child.items ≡ each_part child_of l.cuts 0 l.yielded;
  count : length l.rest.items ≡ length l.yielded;
}
