use Rattle.std.proofs.Common.{◌≡◌, ◌++◌, take}
use Rattle.handler_gen.specs.Blocks.{cut_places}
use Rattle.handler_gen.proofs.loops.push_cut_places.Given as goal

abbrev pub invariant-loop-carry : goal.invariant-loop-carry
invariant-loop-carry l = l.body.items ≡ l.fn.body.items ++ cut_places (take l.carry-index l.carries)
