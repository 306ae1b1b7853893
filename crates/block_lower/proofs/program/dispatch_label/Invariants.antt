use Rattle.std.proofs.Common.{◌≡◌, ◌+◌, take}
use Rattle.block_lower.specs.Programs.{added_by_funcs, added_by_main, quiet_calls}
use Rattle.block_lower.proofs.program.dispatch_label.Given as goal

abbrev pub invariant-loop-f : goal.invariant-loop-f
invariant-loop-f l =
    l.label
    ≡ added_by_main l.program
    + added_by_funcs (quiet_calls l.program) (take l.f-index l.program.funcs.items)
