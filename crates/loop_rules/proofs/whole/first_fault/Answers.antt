use Rattle.std.proofs.Common.{◌++◌, [], None}
use Rattle.loop_rules.specs.Search.{resolved_rules}
use Rattle.loop_rules.specs.Sites.{in_decls, in_funcs, in_main}
use Rattle.loop_rules.proofs.Walking.{two_parts}
use Rattle.loop_rules.proofs.whole.first_fault.Goals as goal

pub returns : goal.returns
returns c =
    let p = c.args.program.now in
    two_parts resolved_rules None c.in_decls.new.found c.in_main.new.found (in_decls p.funcs.items [] p.tables.items) (in_funcs p [] p.funcs.items ++ in_main p) c.in_ok-tables.ensures.found
    (two_parts resolved_rules c.in_decls.new.found c.in_funcs.new.found c.in_main.new.found (in_funcs p [] p.funcs.items) (in_main p) c.in_ok-in_funcs.ensures c.in_ok-in_main.ensures)
