-- The literals of statements that have a code are numbers of 64 bits.
use Rattle.std.proofs.Common.{◌≡◌, ℕ, ℤ, ◌+◌, List, [], ◌∷◌, All, Some, Vec, subst, sym}
use Rattle.std.specs.declared.alloc.Global.{Global}
use Rattle.std.proofs.lemmas.List.Elements.{All-cons, All-head, All-nil, All-tail}
use Rattle.loop_syntax.specs.declared.Expr.{Expr}
use Rattle.loop_syntax.specs.declared.Expr.TheVariants.{Int, Var, Cell', Rows, Cols, Neg', Bin'}
use Rattle.loop_syntax.specs.declared.Func.{Func}
use Rattle.loop_syntax.specs.declared.TableDecl.{TableDecl}
use Rattle.loop_syntax.specs.declared.TableDecl.TheVariants.{Input, Made}
use Rattle.loop_syntax.specs.declared.Stmt.{Stmt, Row_of-Stmt, end_of-Stmt, more_of-Stmt}
use Rattle.loop_syntax.specs.declared.Stmt.{items-the_row-Stmt, items_hidden-the_row-Stmt-0}
use Rattle.loop_syntax.specs.declared.Stmt.TheBlock.{hidden-the_row-Stmt-0}
use Rattle.loop_meaning.specs.InRange.{BlockInRange, DeclInRange, ExprInRange, FuncInRange}
use Rattle.loop_meaning.specs.InRange.{InRange, StmtInRange}
use Rattle.tpal_syntax.specs.declared.instructions.Instr.{Instr}
use Rattle.tpal_syntax.specs.declared.instructions.Term.{Term}
use Rattle.tpal_syntax.specs.declared.instructions.Value.{Value}
use Rattle.tpal_syntax.specs.Listing.{Listing}
use Rattle.expr_lower.specs.Bodies.{literal}
use Rattle.scene_laws.specs.Code.{Arguments, Branch, Code, Codes, Operand, Other}
use Rattle.scene_laws.specs.Code.{both_code, branch, call_code, computed, deep_par_code, emit_code}
use Rattle.scene_laws.specs.Code.{fold_code, fold_nothing_code, if_code, if_not_code}
use Rattle.scene_laws.specs.Code.{leaf_par_code, let_code}
use Rattle.scene_laws.specs.Code.{loop_code, loop_to_code, no_argument, none, nothing, number}
use Rattle.scene_laws.specs.Code.{one_argument}
use Rattle.scene_laws.specs.Code.{one_more, print_code, put_code, put_kept_code, quiet_par_code}
use Rattle.scene_laws.specs.Code.{fold_register_code, set_code, set_register_code, something}
use Rattle.scene_laws.specs.Code.{standing, while_code}
use Rattle.scene_laws.specs.Layout.{Activation}
use Rattle.form_laws.specs.Functions.{IsFunction, Makes, input_table, made_kept_table, made_table}
use Rattle.form_laws.specs.Functions.{no_table}
use Rattle.block_lower.specs.Programs.{AreWritten, activation_of}
use Rattle.scene_laws.specs.Sizes.{added_by_func}
use Rattle.scene_laws.specs.Round.{Round}
use Rattle.form_laws.proofs.Forms.Opposites.{opposite_ranged}
use Rattle.scene_laws.proofs.Scenes.Values.{variable_ranged}

-- the statements of a body, as a row
row_ranged : {m : _} (row : Row_of-Stmt m) → All StmtInRange (items-the_row-Stmt _ row)
    → BlockInRange row
row_ranged end_of-Stmt range = tt
row_ranged (more_of-Stmt first rest) range = (
  All-head StmtInRange first (items-the_row-Stmt _ rest) range,
  row_ranged rest (All-tail StmtInRange first (items-the_row-Stmt _ rest) range),
)

vec_ranged : (v : Vec Stmt Global) → All StmtInRange v.items
    → BlockInRange (hidden-the_row-Stmt-0 v)
vec_ranged v range =
    row_ranged (hidden-the_row-Stmt-0 v)
    (subst (All StmtInRange) (sym (items_hidden-the_row-Stmt-0 v)) range)

literal_ranged : (e : Expr) (n : ℤ) → literal e ≡ Some n → InRange n → ExprInRange e
literal_ranged (Int m place) n is range =
    let same : m ≡ n = cc in
    subst InRange (sym same) range
literal_ranged (Var x) n is range = tt
literal_ranged (Cell' t p a q b) n is range = absurd (cc)
literal_ranged (Rows t) n is range = tt
literal_ranged (Cols t) n is range = tt
literal_ranged (Neg' p a place) n is range = absurd (cc)
literal_ranged (Bin' o place p a q b) n is range = absurd (cc)

module _ (code : Listing) (act : Activation) where
  operand_ranged : {registers : List (ℕ × ℕ)} {names : List (List ℕ)} {e : Expr} {r : ℕ}
      {v : Value} {instrs more : List Instr} → Operand code act registers names e r v instrs more
      → ExprInRange e
  operand_ranged {e = e} (number {n} is range) = literal_ranged e n is range
  operand_ranged {e = e} (standing {x} is_x c is_held) = variable_ranged e x is_x
  operand_ranged (computed c) = c.ranged

  arguments_ranged : {names : List (List ℕ)} {cell : ℕ → ℕ} {i : ℕ} {es : List Expr}
      {instrs more : List Instr} → Arguments code act names cell i es instrs more
      → All ExprInRange es
  arguments_ranged no_argument = All-nil ExprInRange
  arguments_ranged (one_argument {e = e} {es = es} one rest) =
      All-cons ExprInRange e es (operand_ranged one) (arguments_ranged rest)

  mutual
    pub code_ranged : {round : Round} {names : List (List ℕ)} {s : Stmt} {instrs more : List Instr}
        {end last : Term} → Code code act round names s instrs end more last → StmtInRange s
    code_ranged (let_code room c) = operand_ranged c
    code_ranged (set_code is empty c) = operand_ranged c
    code_ranged (set_register_code is is_held c) = operand_ranged c
    code_ranged (put_code is a b e traps) = (a.ranged, b.ranged, e.ranged)
    code_ranged (put_kept_code keeps is a b e traps) = (a.ranged, b.ranged, e.ranged)
    code_ranged (if_code body other c one two ends) =
        (c.ranged, vec_ranged body (branch_ranged one), vec_ranged other (other_ranged two))
    code_ranged (if_not_code {e = e} {e'} body other is c inner two ends) = (
      opposite_ranged e e' is c.ranged,
      vec_ranged body (codes_ranged inner),
      vec_ranged other (other_ranged two),
    )
    code_ranged (while_code body c begins inner test ends) =
        (c.ranged, vec_ranged body (codes_ranged inner))
    code_ranged (loop_code body room a b begins inner ends) =
        (a.ranged, b.ranged, vec_ranged body (codes_ranged inner))
    code_ranged (loop_to_code {b = b} body {n} room is range a begins inner ends) =
        (a.ranged, literal_ranged b n is range, vec_ranged body (codes_ranged inner))
    code_ranged (quiet_par_code l site empty shallow room quiet free a b is begins inner heads again
        ends) =
        (a.ranged, b.ranged, vec_ranged l.body (codes_ranged inner))
    code_ranged (leaf_par_code l site empty shallow room quiet free a b is heads again begins inner
        ends) =
        (a.ranged, b.ranged, vec_ranged l.body (codes_ranged inner))
    code_ranged (deep_par_code l site empty shallow room loud free a b is begins inner ends) =
        (a.ranged, b.ranged, vec_ranged l.body (codes_ranged inner))
    code_ranged (fold_code is_op is empty c) = operand_ranged c
    code_ranged (fold_register_code is_op is is_held c) = operand_ranged c
    code_ranged (fold_nothing_code is c) = c.ranged
    code_ranged (call_code empty is_entry arity is args call) = arguments_ranged args
    code_ranged (both_code first second site empty kept is_first arity_first is_second arity_second
        is_x is_y few args others pair) =
        (arguments_ranged args, arguments_ranged others)
    code_ranged (print_code c) = c.ranged
    code_ranged (emit_code is) = tt

    pub codes_ranged : {round : Round} {names : List (List ℕ)} {ss : List Stmt}
        {instrs more : List Instr} {end last : Term}
        → Codes code act round names ss instrs end more last → All StmtInRange ss
    codes_ranged none = All-nil StmtInRange
    codes_ranged (one_more {s = s} {ss = ss} c cs) =
        All-cons StmtInRange s ss (code_ranged c) (codes_ranged cs)

    branch_ranged : {round : Round} {names : List (List ℕ)} {body : List Stmt} {label exit : ℕ}
        → Branch code act round names body label exit → All StmtInRange body
    branch_ranged (branch opens inner) = codes_ranged inner

    other_ranged : {round : Round} {names : List (List ℕ)} {body : List Stmt} {label exit : ℕ}
        → Other code act round names body label exit → All StmtInRange body
    other_ranged nothing = All-nil StmtInRange
    other_ranged (something b) = branch_ranged b

  -- tables
  pub makes_ranged : {seen : List (List ℕ)} {ds : List TableDecl} {instrs more : List Instr}
      → Makes code act seen ds instrs more → All DeclInRange ds
  makes_ranged no_table = All-nil DeclInRange
  makes_ranged (input_table {x = x} {ds = ds} rest) =
      All-cons DeclInRange (Input x) ds tt (makes_ranged rest)
  makes_ranged (made_table {x = x} {a = a} {b = b} {ds = ds} first second rest) =
      All-cons DeclInRange (Made x a b) ds (first.ranged, second.ranged) (makes_ranged rest)
  makes_ranged (made_kept_table {x = x} {a = a} {b = b} {ds = ds} room first second rest) =
      All-cons DeclInRange (Made x a b) ds (first.ranged, second.ranged) (makes_ranged rest)

-- functions
function_ranged : (code : Listing) (act : Activation) (f : Func) (label : ℕ)
    → IsFunction code act f label → FuncInRange f
function_ranged code act f label is = (codes_ranged code act is.statements, is.value.ranged)

pub functions_ranged : (code : Listing) (act : Activation) (at : ℕ) (fs : List Func)
    → AreWritten code act at fs → All FuncInRange fs
functions_ranged code act at [] all = All-nil FuncInRange
functions_ranged code act at (f ∷ fs) all =
    All-cons FuncInRange f fs (function_ranged code (activation_of act f) f at all.0)
    (functions_ranged code act (at + added_by_func act.calls f) fs all.1)
