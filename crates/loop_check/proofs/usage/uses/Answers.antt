use Rattle.std.proofs.Common.{◌∙◌, ap, sym, Option, Bool}
use Rattle.loop_syntax.specs.declared.Func.{Func}
use Rattle.loop_check.specs.Usage.{uses}
use Rattle.loop_check.proofs.Using.{func_uses}
use Rattle.loop_check.proofs.usage.uses.Goals as goal

pub returns-in-Some : goal.returns-in-Some
returns-in-Some c =
    let g = c.in-Some.g.now in
    let found = c.in-Some.ensures in
    func_uses c.args.usage.now c.args.program.now g c.in_list.new.found c.in_expr.new.found (rw c.deref.ensures.value at c.in_list.ensures) c.in_expr.ensures
    ∙ ap {A = Option Func} {B = Bool} (uses c.args.program.now c.args.usage.now) (sym found)
