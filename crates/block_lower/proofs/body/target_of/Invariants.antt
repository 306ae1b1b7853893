use Rattle.std.proofs.Common.{◌≡◌, drop}
use Rattle.block_lower.specs.Bodies.{entries}
use Rattle.scene_laws.specs.Layout.{entry_of}
use Rattle.block_lower.proofs.body.target_of.Given as goal

abbrev pub invariant-loop-callee : goal.invariant-loop-callee
invariant-loop-callee l = entry_of (entries (drop l.callee-index l.on.callees.items)) l.name ≡ entry_of (entries l.on.callees.items) l.name
