use Rattle.std.proofs.Common.{◌∷◌, ◌++◌, ◌∙◌, ap, Option}
use Rattle.loop_rules.specs.declared.fault.Fault.{Fault}
use Rattle.loop_rules.specs.Sites.{Spot, site, in_whole, DeclaresTable}
use Rattle.loop_rules.specs.Search.{lowest_in, resolved_rules}
use Rattle.loop_rules.specs.Walk.{spot_of}
use Rattle.loop_rules.proofs.Walking.{site_first, two_parts}
use Rattle.loop_rules.proofs.whole.in_decl.Goals as goal

pub returns-in-Made : goal.returns-in-Made
returns-in-Made c =
    let w = spot_of c.args.spot.now in
    let t = c.in-Made.t in
    let a = c.in-Made.a in
    let b = c.in-Made.b in
    rw c.in-Made.is
    (site_first resolved_rules c.args.found.now c.declares_table-in-Made.new.found c.in_whole-in-Made.new.found (site w (DeclaresTable t)) (in_whole w a ++ in_whole w b) c.declares_table-in-Made.ensures
    (two_parts resolved_rules c.declares_table-in-Made.new.found c.in_whole.new.found c.in_whole-in-Made.new.found (in_whole w a) (in_whole w b) c.in_whole.ensures c.in_whole-in-Made.ensures)
    ∙ ap {A = Spot} {B = Option Fault} (λ u. lowest_in resolved_rules c.args.found.now (site u (DeclaresTable t) ∷ in_whole u a ++ in_whole u b)) c.requires)
