use Rattle.std.proofs.Common.{◌≡◌, ◌∙◌, ap, sym, Some, arith}
use Rattle.loop_rules.specs.Declarations.{table_of_decl, tables_of_decls}
use Rattle.loop_rules.specs.Names.{texts}
use Rattle.loop_rules.specs.Search.{first_at}
use Rattle.loop_rules.proofs.Indexing.{table_at, table_below, name_none}
use Rattle.loop_rules.proofs.whole.first_table.Goals as goal

pub returns-then-k-spot : goal.returns-then-k-spot
returns-then-k-spot c =
    let decls = c.args.spot.now.decls.now in
    let e : first_at (texts (tables_of_decls decls)) c.args.name.now ≡ Some c.in-Some.k = rw c.args.spot.now.named at (sym c.in-Some.ensures) in
    table_at decls c.args.name.now c.in-Some.k c.index-spot-k.result e c.if-k-spot.true c.index-spot-k.is ∙ ap (λ d. Some (table_of_decl d)) c.index-spot-k.is ∙ ap Some (sym c.name.ensures)

pub returns-else-k-spot : goal.returns-else-k-spot
returns-else-k-spot c =
    let e : first_at (texts (tables_of_decls c.args.spot.now.decls.now)) c.args.name.now ≡ Some c.in-Some.k = rw c.args.spot.now.named at (sym c.in-Some.ensures) in
    absurd (omega (arith, table_below c.args.spot.now.decls.now c.args.name.now c.in-Some.k e))

pub returns-in-None : goal.returns-in-None
returns-in-None c = name_none (tables_of_decls c.args.spot.now.decls.now) c.args.name.now (rw c.args.spot.now.named at (sym c.in-None.ensures))
