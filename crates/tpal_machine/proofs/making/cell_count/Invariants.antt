use Rattle.std.proofs.Common.{◌≡◌, ◌+◌, ◌-◌, ◌^◌, ◌≤◌, min, drop}
use Rattle.tpal_machine.specs.Reading.{cell_count}
use Rattle.tpal_machine.proofs.making.cell_count.Given as goal

-- the cells so far and those of the tables left
abbrev pub invariant-loop-held : goal.invariant-loop-held
invariant-loop-held l = record {
  counted : min (cell_count l.tables) (2 ^ 64 - 1) ≡ min (l.count + cell_count (drop l.held-index l.tables)) (2 ^ 64 - 1);
  small : l.count ≤ 2 ^ 64 - 1;
}
