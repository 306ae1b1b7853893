-- The rule on limits, C11.
use Rattle.std.specs.Prelude.{ℕ, suc, cond, List, [], ◌∷◌, ◌++◌, length, drop, map, max, nat_lt}
use Rattle.std.specs.Prelude.{nat_le, nat_eq}
use Rattle.tp_value.specs.declared.Place.{Place}
use Rattle.tp_value.specs.declared.limits.TheConstants.{MAX_TABLES, MAX_FUNCTIONS, MAX_PARAMETERS}
use Rattle.tp_value.specs.declared.limits.TheConstants.{MAX_DECLARED_VARIABLES}
use Rattle.tp_value.specs.declared.limits.TheConstants.{MAX_EXPRESSION_HEIGHT, MAX_PAR_NESTING}
use Rattle.tp_value.specs.declared.limits.TheConstants.{MAX_REDUCTIONS, MAX_CARRIES}
use Rattle.loop_syntax.specs.declared.Name.{Name}
use Rattle.loop_syntax.specs.declared.Expr.{Expr}
use Rattle.loop_syntax.specs.declared.Expr.TheVariants.{Int, Var, Cell', Rows, Cols, Neg', Bin'}
use Rattle.loop_rules.specs.Names.{table_name}
use Rattle.loop_rules.specs.Sites.{Act, DeclaresTable, DeclaresFunc, DeclaresAll, Evaluates}
use Rattle.loop_rules.specs.Sites.{Parallel, Spot}
use Rattle.loop_rules.specs.Scopes.{at, is_before}

-- how many nodes stand above one another in an expression
abbrev pub height : Expr → ℕ
height (Int number p) = 1
height (Var variable) = 1
height (Cell' table p left q right) = suc (max (height left) (height right))
height (Rows table) = 1
height (Cols table) = 1
height (Neg' p negated place) = suc (height negated)
height (Bin' op place p left q right) = suc (max (height left) (height right))

-- the first of two places
abbrev pub earlier : Place → Place → Place
earlier place other = cond (is_before other place) other place

-- the first place of an expression's nodes
abbrev pub first_place : Expr → Place
first_place (Int number place) = place
first_place (Var variable) = variable.place
first_place (Cell' table p left q right) =
    earlier (earlier table.place (first_place left)) (first_place right)
first_place (Rows table) = table.place
first_place (Cols table) = table.place
first_place (Neg' p negated place) = earlier place (first_place negated)
first_place (Bin' op place p left q right) =
    earlier (earlier place (first_place left)) (first_place right)

abbrev pub first_name : List Name → List Place
first_name [] = []
first_name (name ∷ names) = name.place ∷ []

-- the first name past a limit
abbrev pub past : ℕ → List Name → List Place
past limit names = first_name (drop limit names)

-- the first table, function, parameter, variable, reduction or carry past its limit; an expression
-- that is too high; a `par` too deep
abbrev pub over_limits : Act → Spot → List Place
over_limits (DeclaresTable table) spot = at table (nat_eq (length spot.tables) MAX_TABLES)
over_limits (DeclaresFunc func) spot =
    at func.name (nat_eq (length spot.funcs) MAX_FUNCTIONS) ++ past MAX_PARAMETERS func.params.items
over_limits (DeclaresAll variables) spot = past MAX_DECLARED_VARIABLES variables
over_limits (Evaluates expression) spot =
    cond (nat_lt MAX_EXPRESSION_HEIGHT (height expression)) (first_place expression ∷ []) []
over_limits (Parallel place carry_place loop) spot =
    cond (nat_le MAX_PAR_NESTING spot.depth) (place ∷ []) []
    ++ (past MAX_REDUCTIONS (map (λ reduce. reduce.target) loop.reduces)
    ++ past MAX_CARRIES (map table_name loop.carries))
over_limits _ spot = []
