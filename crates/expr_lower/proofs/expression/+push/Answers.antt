use Rattle.std.proofs.Common.{◌≡◌, ℕ, ◌+◌, ◌++◌, ◌∷◌, [], List, Option, length, cond, ap, sym, ◌∙◌}
use Rattle.std.specs.Prelude.{ℤ}
use Rattle.tp_value.specs.declared.TrapKind.TheVariants.{Divide, Index}
use Rattle.loop_syntax.specs.declared.Expr.{Expr}
use Rattle.tpal_syntax.specs.declared.blocks.Block.{Block}
use Rattle.tpal_syntax.specs.declared.instructions.Instr.{Instr}
use Rattle.expr_lower.specs.Bodies.{trap_count, body_of, traps_of, operand_at, operand_body}
use Rattle.expr_lower.specs.Bodies.{literal, can_trap, trap_block}
use Rattle.expr_lower.specs.Scopes.{home_of}
use Rattle.expr_lower.proofs.Pushing.{code_behind, label_behind, operation_same, traps_behind}
use Rattle.expr_lower.proofs.expression.+push.Goals as goal

pub append_expr-returns-in_ok-push_cell-in-Cell-clause-traps :
    goal.append_expr-returns-in_ok-push_cell-in-Cell-clause-traps
append_expr-returns-in_ok-push_cell-in-Cell-clause-traps t c =
    let first = c.args.at.first in
    let before = c.args.traps.now.items in
    let one = c.push_operand.new.traps.items in
    let two = c.push_operand-in-Cell.new.traps.items in
    let a = c.in-Cell.i.value in
    let b = c.in-Cell.j.value in
    let own : ℕ → List Block = λ n. trap_block n Index c.in-Cell.name.place ∷ [] in
    let one_is : one ≡ before ++ traps_of (first + length before) a =
    c.in_ok-left-in-Cell.ensures.traps
    ∙ ap (λ (e : Expr). before ++ traps_of (first + length before) e) c.deref.ensures in
    let two_is : two ≡ one ++ traps_of (first + length one) b =
    c.in_ok-right-in-Cell.ensures.traps
    ∙ ap (λ (n : ℕ). one ++ traps_of (n + length one) c.deref-in-Cell.result.now)
    c.above.ensures.first
    ∙ ap (λ (e : Expr). one ++ traps_of (first + length one) e) c.deref-in-Cell.ensures in
    traps_behind first before one two c.push_cell.new.traps.items a b own one_is two_is
    c.in_ok-push_cell-in-Cell.ensures.traps
    ∙ ap (λ (e : Expr). before ++ traps_of (first + length before) e) (sym c.in-Cell.is)

pub append_binary-returns-clause-body : goal.append_binary-returns-clause-body
append_binary-returns-clause-body t c e node =
    let scope = c.args.scope.now in
    let to = c.args.at.to in
    let first = c.args.at.first in
    let before = c.args.body.now.items in
    let one = c.push_operand.new.traps.items in
    let a = c.args.operation.left.now in
    let b = c.args.operation.right.now in
    let start = first + length c.args.traps.now.items in
    let above = c.above.result.to in
    let behind : first + length one ≡ start + trap_count a =
    label_behind first c.args.traps.now.items one a c.in_ok-left.ensures.traps in
    let second = start + trap_count a in
    let two_is : c.push_operand-2.new.traps.items ≡ one ++ traps_of (first + length one) b =
    c.in_ok-right.ensures.traps
    ∙ ap (λ (n : ℕ). one ++ traps_of (n + length one) b) c.above.ensures.first in
    let last : first + length c.push_operand-2.new.traps.items ≡ second + trap_count b =
    label_behind first one c.push_operand-2.new.traps.items b two_is
    ∙ ap (λ (n : ℕ). n + trap_count b) behind in
    let right_code : ℕ → ℕ → List Instr =
    λ n r. operand_body (home_of scope b) (body_of scope n b r) in
    let right_is : c.push_operand-2.new.body.items ≡ right_code second (to + 1) =
    c.in_ok-right.ensures.body
    ∙ ap (λ (xs : List Instr). xs ++ right_code (c.above.result.first + length one) above)
    c.new-code.ensures.items
    ∙ ap (λ (n : ℕ). right_code (n + length one) above) c.above.ensures.first
    ∙ ap (λ (n : ℕ). right_code n above) behind
    ∙ ap (λ (r : ℕ). right_code second r) c.above.ensures.to in
    let right_at : c.in_ok-right.right ≡ operand_at (home_of scope b) (to + 1) =
    c.in_ok-right.ensures.place
    ∙ ap (λ (r : ℕ). operand_at (home_of scope b) r) c.above.ensures.to in
    code_behind before c.push_operand.new.body.items c.push_operator.new.body.items
    (operand_body (home_of scope a) (body_of scope start a to)) _ _ c.in_ok-left.ensures.body
    c.in_ok-push_operator.ensures.body
    (operation_same c.args.operation.operator to _ _ _ _ _ _ _ _ _ _ c.in_ok-left.ensures.place
    right_at (c.deref.ensures.value ∙ right_is) c.literal-number.ensures.number last)
    ∙ ap (λ (x : Expr). before ++ body_of scope start x to) (sym node.is)

pub append_binary-returns-clause-traps : goal.append_binary-returns-clause-traps
append_binary-returns-clause-traps t c e node =
    let first = c.args.at.first in
    let before = c.args.traps.now.items in
    let one = c.push_operand.new.traps.items in
    let two = c.push_operand-2.new.traps.items in
    let a = c.args.operation.left.now in
    let b = c.args.operation.right.now in
    let own : Option ℤ → ℕ → List Block =
    λ number n. cond (can_trap c.args.operation.operator number)
    (trap_block n Divide c.args.operation.place ∷ []) [] in
    let two_is : two ≡ one ++ traps_of (first + length one) b =
    c.in_ok-right.ensures.traps
    ∙ ap (λ (n : ℕ). one ++ traps_of (n + length one) b) c.above.ensures.first in
    traps_behind first before one two c.push_operator.new.traps.items a b (own (literal b))
    c.in_ok-left.ensures.traps two_is
    (c.in_ok-push_operator.ensures.traps
    ∙ ap (λ (number : Option ℤ). two ++ own number (first + length two))
    c.literal-number.ensures.number)
    ∙ ap (λ (x : Expr). before ++ traps_of (first + length before) x) (sym node.is)
