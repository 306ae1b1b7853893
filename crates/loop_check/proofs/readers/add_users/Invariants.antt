use Rattle.std.proofs.Common.{◌≡◌, drop}
use Rattle.loop_check.specs.Walk.{texts_of}
use Rattle.loop_check.specs.Readers.{add_users}
use Rattle.loop_check.proofs.readers.add_users.Given as goal

abbrev pub invariant-loop-f : goal.invariant-loop-f
invariant-loop-f l =
    add_users l.program l.usage (drop l.f-index l.program.funcs.items) (texts_of l.names.items) ≡ add_users l.program l.usage l.program.funcs.items (texts_of l.initial.names.items)
