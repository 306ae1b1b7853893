use Rattle.std.proofs.Common.{◌≡◌, ◌++◌, drop}
use Rattle.frame_machine.specs.Splitting.{merged}
use Rattle.frame_machine.proofs.frame.merge_frames.Given as goal

abbrev pub invariant-loop-i : goal.invariant-loop-i
invariant-loop-i l = l.both.items ++ merged (drop l.i l.ops) (drop l.i l.left) (drop l.i l.right) ≡ merged l.ops l.left l.right
