use Rattle.std.proofs.Common.{◌≡◌, [], take, drop}
use Rattle.loop_rules.specs.Declarations.{tables_of_decls}
use Rattle.loop_rules.specs.Names.{texts}
use Rattle.loop_rules.specs.Sites.{in_decls}
use Rattle.loop_rules.specs.Search.{lowest_in, resolved_rules}
use Rattle.loop_rules.proofs.whole.in_decls.Given as goal

abbrev pub invariant-loop-i : goal.invariant-loop-i
invariant-loop-i l =
    let fs = l.program.funcs.items in
    let ds = l.program.tables.items in
    (l.tables ≡ texts (tables_of_decls (take l.i ds)))
    × (lowest_in resolved_rules l.found (in_decls fs (tables_of_decls (take l.i ds)) (drop l.i ds)) ≡ lowest_in resolved_rules l.initial.found (in_decls fs [] ds))
