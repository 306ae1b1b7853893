use Rattle.std.proofs.Common.{◌≡◌, [], take, drop}
use Rattle.loop_rules.specs.Names.{func_names}
use Rattle.loop_rules.specs.Sites.{in_funcs}
use Rattle.loop_rules.specs.Search.{lowest_in, resolved_rules}
use Rattle.loop_rules.proofs.whole.in_funcs.Given as goal

abbrev pub invariant-loop-i : goal.invariant-loop-i
invariant-loop-i l =
    let p = l.whole.program.now in
    let fs = p.funcs.items in
    (l.before ≡ func_names (take l.i fs))
    × (lowest_in resolved_rules l.found (in_funcs p (take l.i fs) (drop l.i fs)) ≡ lowest_in resolved_rules l.initial.found (in_funcs p [] fs))
