use Rattle.std.proofs.Common.{◌∷◌, ◌++◌, ◌∙◌, ◌≡◌, ap, Option}
use Rattle.loop_rules.specs.declared.fault.Fault.{Fault}
use Rattle.loop_rules.specs.Search.{lowest_at, lowest_in, resolved_rules}
use Rattle.loop_rules.specs.declared.part.Part.TheVariants.{OfFunc}
use Rattle.loop_rules.specs.Declarations.{declared_list}
use Rattle.loop_rules.specs.Sites.{Spot, site, top, tables_of, func_spot, in_params, in_list}
use Rattle.loop_rules.specs.Sites.{in_whole, spot_of_list, DeclaresAll, DeclaresFunc}
use Rattle.loop_rules.specs.Walk.{spot_of_params}
use Rattle.loop_rules.proofs.Walking.{site_first, ok_map}
use Rattle.loop_rules.proofs.Wholes.{after_params}
use Rattle.loop_rules.proofs.whole.in_declared_func.Goals as goal

pub returns : goal.returns
returns c =
    let p = c.args.whole.now.program.now in
    let f = c.args.func.now in
    let outer = top OfFunc (tables_of p) c.args.earlier.now in
    let inner = top OfFunc (tables_of p) p.funcs.items in
    let inside = func_spot p f in
    let all = f.params.items ++ declared_list f.body.items in
    let rest = in_params inner f.params.items ++ (in_list inside f.body.items ++ in_whole (spot_of_list inside f.body.items) f.result) in
    let at_outer = rw c.deref.ensures.value at c.top-declared.ensures.spot in
    let at_inner = rw (c.deref-4.ensures.value, c.deref-5.ensures.value) at c.top-inside.ensures.spot in
    let one = c.declares_func.ensures ∙ ap {A = Spot} {B = Option Fault} (λ u. lowest_at resolved_rules c.args.found.now (site u (DeclaresFunc f))) at_outer in
    let two = rw (c.deref-2.ensures.value, c.deref-3.ensures.value) at c.in_ok-declares_all.ensures in
    ok_map c.in_func.result
    (λ u e.
    let within = λ (u : Spot). lowest_in resolved_rules c.declares_all.new.found (
    in_params u f.params.items ++ (in_list (spot_of_params u f.params.items) f.body.items ++ in_whole (spot_of_list (spot_of_params u f.params.items) f.body.items) f.result)) in
    let moved : c.in_func.new.found ≡ within inner = e ∙ ap {A = Spot} {B = Option Fault} within at_inner in
    let three = rw (after_params inner f.params.items) at moved in
    site_first resolved_rules c.args.found.now c.declares_func.new.found c.in_func.new.found (site outer (DeclaresFunc f)) (site inside (DeclaresAll all) ∷ rest) one
    (site_first resolved_rules c.declares_func.new.found c.declares_all.new.found c.in_func.new.found (site inside (DeclaresAll all)) rest two three))
    c.in_func.ensures
