-- How many blocks a statement adds to a code, how many variables it declares, and how many values
-- it keeps.
use Rattle.std.specs.Prelude.{ℕ, ◌+◌, ◌*◌, Bool, true, false, ◌&&◌, if◌then◌else◌, nat_le, max}
use Rattle.std.specs.Prelude.{List, [], ◌∷◌, length}
use Rattle.std.specs.List.{sum_by, list_any}
use Rattle.loop_syntax.specs.declared.Carry.{Carry}
use Rattle.loop_syntax.specs.declared.Carry.TheVariants as carry
use Rattle.loop_syntax.specs.declared.Expr.{Expr}
use Rattle.loop_syntax.specs.declared.Func.{Func}
use Rattle.loop_syntax.specs.declared.ParLoop.{ParLoop}
use Rattle.loop_syntax.specs.declared.Stmt.{Stmt, Row_of-Stmt, end_of-Stmt, more_of-Stmt}
use Rattle.loop_syntax.specs.declared.Stmt.TheVariants.{Let, Set, Put, If', While', Loop', Par'}
use Rattle.loop_syntax.specs.declared.Stmt.TheVariants.{Fold, Call, Both, Print, Emit, Leave, Fill}
use Rattle.loop_syntax.specs.declared.TableDecl.{TableDecl}
use Rattle.loop_syntax.specs.declared.TableDecl.TheVariants.{Input, Made}
use Rattle.loop_rules.specs.Declarations.{declared_in}
use Rattle.loop_rules.specs.Limits.{height}
use Rattle.tp_value.specs.declared.limits.TheConstants.{MAX_EXPRESSION_HEIGHT}
use Rattle.expr_lower.specs.Bodies.{trap_count}
use Rattle.scene_laws.specs.Layout.{kept_by_both}
use Rattle.scene_laws.specs.Opposite.{branch_blocks, opposite}
use Rattle.scene_laws.specs.Quiet.{all_is_quiet, is_leaf, list_is_quiet, row_is_leaf}

-- ---- blocks

-- the trap blocks of expressions
abbrev pub trap_counts : List Expr → ℕ
trap_counts es = sum_by trap_count es

-- whether a carry has a row
abbrev pub has_row : Carry → Bool
has_row (carry.Rows t i) = false
has_row (carry.Cells t k j) = true

-- how many blocks a `par` has round its iterations, its handler and its join among them: one
-- more where a carry has a row
abbrev pub site_blocks : List Carry → ℕ
site_blocks carries = if list_any has_row carries then 10 else 9

-- How many blocks a `par` has behind its tests, where those of its body are so many. The body of a
-- leaf loop or of a quiet one stands there twice, and that of another one behind the two blocks
-- where an iteration begins. A leaf loop has two blocks more round it, which store its registers
-- and load them.
abbrev pub par_blocks : Bool → Bool → List Carry → ℕ → ℕ
par_blocks leaf quiet carries body =
    site_blocks carries
    + (if leaf then 2 * body + 2 else (if quiet then 2 * body else body + 2))

-- the blocks that become closed between the begin of a statement and its end, where no point of
-- promotion can be reached in a call or one may
abbrev mutual
  pub added : Bool → Stmt → ℕ
  added calls (Let x e) = trap_count e
  added calls (Set x e) = trap_count e
  added calls (Put t a b e) = trap_count a + trap_count b + trap_count e + 1
  added calls (If' e p body q other) =
      trap_count e + branch_blocks (opposite e) + (added_by_all calls body + 1)
      + added_by_other calls other
  added calls (While' e p body) = trap_count e + 1 + (added_by_all calls body + 1) + trap_count e
  added calls (Loop' x a b p body) = trap_count a + trap_count b + 1 + (added_by_all calls body + 1)
  added calls (Par' place x a b carry_place carries reduces p body) =
      trap_count a + trap_count b + 3
      + par_blocks (row_is_leaf body reduces.items) (all_is_quiet calls body) carries.items
      (added_by_all calls body + 1)
  added calls (Fold x e) = trap_count e
  added calls (Call x f) = trap_counts f.args.items + 2
  added calls (Both x f y g) = trap_counts f.args.items + trap_counts g.args.items + 12
  added calls (Print place e) = trap_count e
  added calls (Emit place t) = 0
  added calls (Leave x e) = trap_count e + 1
  added calls (Fill f t r es) = 0

  pub added_by_all : {m : _} → Bool → Row_of-Stmt m → ℕ
  added_by_all calls end_of-Stmt = 0
  added_by_all calls (more_of-Stmt first rest) = added calls first + added_by_all calls rest

  -- a second branch with no statements has no block
  pub added_by_other : {m : _} → Bool → Row_of-Stmt m → ℕ
  added_by_other calls end_of-Stmt = 0
  added_by_other calls (more_of-Stmt first rest) = added calls first + added_by_all calls rest + 1

abbrev pub added_by_list : Bool → List Stmt → ℕ
added_by_list calls body = sum_by (added calls) body

abbrev pub added_by_second : Bool → List Stmt → ℕ
added_by_second calls [] = 0
added_by_second calls (s ∷ ss) = added_by_list calls (s ∷ ss) + 1

-- the same of a `par`
abbrev pub added_by_par : Bool → ParLoop → ℕ
added_by_par calls l =
    trap_count l.from + trap_count l.to + 3
    + par_blocks (is_leaf l.body.items l.reduces.items) (list_is_quiet calls l.body.items)
    l.carries.items (added_by_list calls l.body.items + 1)

-- the blocks of a function
abbrev pub added_by_func : Bool → Func → ℕ
added_by_func calls f = added_by_list calls f.body.items + trap_count f.result + 1

-- the trap blocks of the sizes of a table
abbrev pub added_by_decl : TableDecl → ℕ
added_by_decl (Input x) = 0
added_by_decl (Made x a b) = trap_count a + trap_count b

abbrev pub added_by_decls : List TableDecl → ℕ
added_by_decls ds = sum_by added_by_decl ds

-- ---- variables

-- how many variables a statement declares
abbrev pub declared : Stmt → ℕ
declared s = length (declared_in s)

abbrev pub declared_by_list : List Stmt → ℕ
declared_by_list body = sum_by declared body

-- ---- kept values

-- whether an expression can leave its value in a register
abbrev pub is_low_at : ℕ → Expr → Bool
is_low_at r e = nat_le (r + height e) MAX_EXPRESSION_HEIGHT

-- How many values a statement keeps in its activation while it computes others: the row and the
-- column of a cell where there are no registers for them, and the arguments of the second of two
-- calls, with the mark and the record.
abbrev mutual
  pub kept : Stmt → ℕ
  kept (Let x e) = 0
  kept (Set x e) = 0
  kept (Put t a b e) = if is_low_at 1 b && is_low_at 2 e then 0 else 2
  kept (If' e p body q other) = max (kept_by_all body) (kept_by_all other)
  kept (While' e p body) = kept_by_all body
  kept (Loop' x a b p body) = kept_by_all body
  kept (Par' place x a b carry_place carries reduces p body) = kept_by_all body
  kept (Fold x e) = 0
  kept (Call x f) = 0
  kept (Both x f y g) = kept_by_both (length g.args.items)
  kept (Print place e) = 0
  kept (Emit place t) = 0
  kept (Leave x e) = 0
  kept (Fill f t r es) = 0

  pub kept_by_all : {m : _} → Row_of-Stmt m → ℕ
  kept_by_all end_of-Stmt = 0
  kept_by_all (more_of-Stmt first rest) = max (kept first) (kept_by_all rest)

abbrev pub kept_by_list : List Stmt → ℕ
kept_by_list [] = 0
kept_by_list (s ∷ ss) = max (kept s) (kept_by_list ss)

-- the rows of a table that is made are kept where the columns need all registers
abbrev pub kept_by_decl : TableDecl → ℕ
kept_by_decl (Input x) = 0
kept_by_decl (Made x a b) = if is_low_at 1 b then 0 else 1

abbrev pub kept_by_decls : List TableDecl → ℕ
kept_by_decls [] = 0
kept_by_decls (d ∷ ds) = max (kept_by_decl d) (kept_by_decls ds)
