use Rattle.std.proofs.Common.{◌∙◌, ◌++◌, ◌∷◌, sym}
use Rattle.loop_rules.specs.Sites.{site, Assigns, AssignsBoth, in_whole, in_app, in_list}
use Rattle.loop_check.specs.Usage.{anywhere}
use Rattle.loop_rules.proofs.Walking.{in_if, in_while}
use Rattle.loop_check.proofs.Using.{any_append, two_uses, list_uses, looped_uses, par_uses}
use Rattle.loop_check.proofs.usage.+walk.Goals as goal

pub in_list-loop-s-preserved : goal.in_list-loop-s-preserved
in_list-loop-s-preserved t c =
    rw c.in_stmt.ensures (list_uses c.args.usage.now c.loop-s.found c.loop-s.s-index c.args.body.now c.s-item.result c.loop-s-test.true c.s-item.is ∙ c.loop-s.invariant)

pub in_par-returns : goal.in_par-returns
in_par-returns t c =
    par_uses c.args.usage.now c.args.found.now c.in_two.new.found c.in_list.new.found c.args.par.now c.in_two.ensures (rw c.deref.ensures.value at c.in_list.ensures)

pub in_stmt-returns-in-If : goal.in_stmt-returns-in-If
in_stmt-returns-in-If t c =
    let u = c.args.usage.now in
    let e = c.in-If.e in
    let one = rw c.deref.ensures.value at c.in_list.ensures in
    let two = rw c.deref-in-If.ensures.value at c.in_list-in-If.ensures in
    rw (c.in-If.is, in_if anywhere e c.in-If.body c.in-If.other)
    (two_uses u c.args.found.now c.in_expr-in-If.new.found c.in_list-in-If.new.found (in_whole anywhere e) (in_list anywhere c.in-If.body.items ++ in_list anywhere c.in-If.other.items) c.in_expr-in-If.ensures
    (two_uses u c.in_expr-in-If.new.found c.in_list.new.found c.in_list-in-If.new.found (in_list anywhere c.in-If.body.items) (in_list anywhere c.in-If.other.items) one two))

pub in_stmt-returns-in-While : goal.in_stmt-returns-in-While
in_stmt-returns-in-While t c =
    let e = c.in-While.e in
    let one = rw c.deref-in-While.ensures.value at c.in_list-in-While.ensures in
    rw (c.in-While.is, in_while anywhere e c.in-While.body)
    (two_uses c.args.usage.now c.args.found.now c.in_expr-in-While.new.found c.in_list-in-While.new.found (in_whole anywhere e) (in_list anywhere c.in-While.body.items) c.in_expr-in-While.ensures one)

pub in_stmt-returns-in-Loop : goal.in_stmt-returns-in-Loop
in_stmt-returns-in-Loop t c =
    let one = rw c.deref-in-Loop.ensures.value at c.in_list-in-Loop.ensures in
    rw c.in-Loop.is (looped_uses c.args.usage.now c.args.found.now c.in_two.new.found c.in_list-in-Loop.new.found c.in-Loop.field-0 c.in-Loop.a c.in-Loop.b c.in-Loop.body c.in_two.ensures one)

pub in_stmt-returns-in-Both : goal.in_stmt-returns-in-Both
in_stmt-returns-in-Both t c =
    let f = c.in-Both.f in
    let g = c.in-Both.g in
    let u = c.args.usage.now in
    let b = c.args.found.now in
    rw c.in-Both.is
    (c.in_both.ensures ∙ any_append u b (in_app anywhere f) (in_app anywhere g)
    ∙ sym (any_append u b (in_app anywhere f) (site anywhere (Assigns c.in-Both.field-2) ∷ site anywhere (AssignsBoth c.in-Both.field-0 c.in-Both.field-2) ∷ in_app anywhere g)))
