use Rattle.std.proofs.Common.{◌≡◌, ◌∙◌, ap, sym, Some, arith}
use Rattle.loop_rules.specs.Names.{func_names}
use Rattle.loop_rules.specs.Search.{first_at}
use Rattle.loop_rules.proofs.Indexing.{func_at, func_none, func_below}
use Rattle.loop_rules.proofs.expression.func_of.Goals as goal

pub returns-then-k-spot : goal.returns-then-k-spot
returns-then-k-spot c =
    let e : first_at (func_names c.args.spot.now.all.now) c.args.name.now ≡ Some c.in-Some.k = rw c.args.spot.now.known at (sym c.in-Some.ensures) in
    func_at c.args.spot.now.all.now c.args.name.now c.in-Some.k c.index-spot-k.result e c.if-k-spot.true c.index-spot-k.is ∙ ap Some c.index-spot-k.is

pub returns-else-k-spot : goal.returns-else-k-spot
returns-else-k-spot c =
    let e : first_at (func_names c.args.spot.now.all.now) c.args.name.now ≡ Some c.in-Some.k = rw c.args.spot.now.known at (sym c.in-Some.ensures) in
    absurd (omega (arith, func_below c.args.spot.now.all.now c.args.name.now c.in-Some.k e))

pub returns-in-None : goal.returns-in-None
returns-in-None c = func_none c.args.spot.now.all.now c.args.name.now (rw c.args.spot.now.known at (sym c.in-None.ensures))
