-- Where the variables and tables of an expression stand.
use Rattle.std.specs.Prelude.{ℕ, suc, Bool, false, cond, ◌||◌, IsTrue, ⊤, List, [], ◌∷◌, Vec}
use Rattle.std.specs.Prelude.{bytes_eq, Option, None, Some}
use Rattle.std.specs.declared.alloc.Global.{Global}
use Rattle.loop_syntax.specs.declared.Expr.{Expr}
use Rattle.loop_syntax.specs.declared.Expr.TheVariants.{Int, Var, Cell', Rows, Cols, Neg', Bin'}
use Rattle.expr_lower.specs.declared.scope.Scope.{Scope}

-- the cell of the variable of that name in its activation, or 0 where there is none
abbrev pub cell_in : List (Vec ℕ Global × ℕ) → List ℕ → ℕ
cell_in [] x = 0
cell_in (c ∷ cs) x = cond (bytes_eq c.0.items x) c.1 (cell_in cs x)

abbrev pub has_cell_in : List (Vec ℕ Global × ℕ) → List ℕ → Bool
has_cell_in [] x = false
has_cell_in (c ∷ cs) x = bytes_eq c.0.items x || has_cell_in cs x

-- the register of the variable of that name, where it stands in one
abbrev pub register_in : List (Vec ℕ Global × ℕ) → List ℕ → Option ℕ
register_in [] x = None
register_in (r ∷ rs) x = cond (bytes_eq r.0.items x) (Some r.1) (register_in rs x)

-- the number of the table of that name: how many stand before it
abbrev pub number_in : List (Vec ℕ Global) → List ℕ → ℕ
number_in [] t = 0
number_in (u ∷ us) t = cond (bytes_eq u.items t) 0 (suc (number_in us t))

abbrev pub has_table_in : List (Vec ℕ Global) → List ℕ → Bool
has_table_in [] t = false
has_table_in (u ∷ us) t = bytes_eq u.items t || has_table_in us t

-- ---- a scope

abbrev pub offset_of : Scope → List ℕ → ℕ
offset_of scope x = cell_in scope.cells.items x

abbrev pub table_number : Scope → List ℕ → ℕ
table_number scope t = number_in scope.tables.items t

abbrev pub register_of : Scope → List ℕ → Option ℕ
register_of scope x = register_in scope.regs.items x

-- the register where an expression's value stands before any instruction: that of a variable
abbrev pub home_of : Scope → Expr → Option ℕ
home_of scope (Int n place) = None
home_of scope (Var x) = register_of scope x.text.items
home_of scope (Cell' t p a q b) = None
home_of scope (Rows t) = None
home_of scope (Cols t) = None
home_of scope (Neg' p a place) = None
home_of scope (Bin' o place p a q b) = None

-- a variable of that name has a cell
abbrev pub HasCell : Scope → List ℕ → Type 0
HasCell scope x = IsTrue (has_cell_in scope.cells.items x)

-- a variable, or a table, of that name stands in the scope
abbrev pub HasVariable : Scope → List ℕ → Type 0
HasVariable scope x = IsTrue (has_cell_in scope.regs.items x || has_cell_in scope.cells.items x)

abbrev pub HasTable : Scope → List ℕ → Type 0
HasTable scope t = IsTrue (has_table_in scope.tables.items t)

-- the variables and tables of an expression stand in the scope
abbrev pub IsIn : Scope → Expr → Type 0
IsIn scope (Int n place) = ⊤
IsIn scope (Var x) = HasVariable scope x.text.items
IsIn scope (Cell' t p a q b) = HasTable scope t.text.items × IsIn scope a × IsIn scope b
IsIn scope (Rows t) = HasTable scope t.text.items
IsIn scope (Cols t) = HasTable scope t.text.items
IsIn scope (Neg' p a place) = IsIn scope a
IsIn scope (Bin' o place p a q b) = IsIn scope a × IsIn scope b
