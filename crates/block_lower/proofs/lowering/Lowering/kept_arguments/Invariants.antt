use Rattle.std.proofs.Common.{◌≡◌, ℕ, List}
use Rattle.block_lower.specs.Bodies.{activation}
use Rattle.scene_laws.specs.Pairs.{kept_from}
use Rattle.block_lower.proofs.lowering.Lowering.kept_arguments.Given as goal

abbrev pub invariant-loop-i : goal.invariant-loop-i
invariant-loop-i l =
    (tables : List (List ℕ)) → l.all.items ≡ kept_from (activation l.self.on tables) l.i 0
