use Rattle.std.proofs.Common.{◌≡◌, [], take, drop, get_or}
use Rattle.loop_syntax.specs.declared.Name.{Name}
use Rattle.loop_rules.specs.Leaves.{has_other, bad_lefts}
use Rattle.loop_rules.specs.declared.rule.Rule.TheVariants as rules
use Rattle.loop_rules.specs.Search.{lowest}
use Rattle.loop_rules.specs.Walk.{named}
use Rattle.loop_check.specs.Walk.{inside}
use Rattle.loop_check.proofs.Targeting.{behind, name_of}
use Rattle.loop_check.proofs.leaves.go_over.Given as goal

abbrev pub invariant-loop-i : goal.invariant-loop-i
invariant-loop-i l =
    (lowest l.found rules.Leaves (bad_lefts (behind (take l.i (named l.targets))) (drop l.i (named l.targets)) (inside l.spot))
    ≡ lowest l.initial.found rules.Leaves (bad_lefts [] (named l.targets) (inside l.spot)))
    × ((first : Name) → first ≡ get_or (named l.targets) 0 first → l.mixed ≡ has_other (behind (take l.i (named l.targets))) (name_of first))
