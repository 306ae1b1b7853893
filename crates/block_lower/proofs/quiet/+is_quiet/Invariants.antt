use Rattle.std.proofs.Common.{◌≡◌, drop}
use Rattle.scene_laws.specs.Quiet.{list_is_quiet}
use Rattle.block_lower.proofs.quiet.+is_quiet.Given as goal

abbrev pub invariant-list_is_quiet-loop-s : goal.invariant-list_is_quiet-loop-s
invariant-list_is_quiet-loop-s l =
    list_is_quiet l.calls (drop l.s-index l.body) ≡ list_is_quiet l.calls l.body
