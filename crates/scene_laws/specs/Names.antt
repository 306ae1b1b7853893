-- Which variables and tables are visible where, which cells a scope gives them, and which of them
-- stand in registers.
use Rattle.std.specs.Prelude.{◌≡◌, ℕ, suc, ◌≤◌, cond, IsTrue, ⊤, List, [], ◌∷◌, ◌++◌, map, length}
use Rattle.std.specs.Prelude.{bytes_eq, None, Vec}
use Rattle.std.specs.declared.alloc.Global.{Global}
use Rattle.loop_rules.specs.Names.{is_in}
use Rattle.loop_syntax.specs.declared.Stmt.{Stmt}
use Rattle.loop_syntax.specs.declared.Stmt.TheVariants.{Let, Set, Put, If', While', Loop', Par'}
use Rattle.loop_syntax.specs.declared.Stmt.TheVariants.{Fold, Call, Both, Print, Emit, Leave, Fill}
use Rattle.expr_lower.specs.declared.scope.Scope.{Scope}
use Rattle.expr_lower.specs.Scopes.{has_cell_in, register_in}
use Rattle.scene_laws.specs.Layout.{value_cell}
use Rattle.scene_laws.specs.Round.{register_for}

-- each variable has the cell of its level
abbrev pub AreLaid : ℕ → List (Vec ℕ Global × ℕ) → Type 0
AreLaid level [] = ⊤
AreLaid level (c ∷ cs) = (c.1 ≡ value_cell level) × AreLaid (suc level) cs

-- the variables of a scope
abbrev pub names_of : Scope → List (List ℕ)
names_of scope = map (λ (c : Vec ℕ Global × ℕ). c.0.items) scope.cells.items

-- a scope has just these variables and tables, in this order, and each variable stands in its cell
pub record Sees (scope : Scope) (names tables : List (List ℕ)) : Type 0 where
  pub named : names_of scope ≡ names
  pub laid : AreLaid 0 scope.cells.items
  pub listed : map (λ (t : Vec ℕ Global). t.items) scope.tables.items ≡ tables

-- the same, and none of its variables stands in a register
pub record SeesBare (scope : Scope) (names tables : List (List ℕ)) : Type 0 where
  pub sees : Sees scope names tables
  pub bare : scope.regs.items ≡ []

-- how many variables stand before the first one of that name
abbrev pub level_of : List (List ℕ) → List ℕ → ℕ
level_of [] x = 0
level_of (y ∷ ys) x = cond (bytes_eq y x) 0 (suc (level_of ys x))

-- Where these variables are visible, those stand in registers for whose cells registers stand, and
-- no others do.
pub record StandFor (names : List (List ℕ)) (regs : List (Vec ℕ Global × ℕ))
    (registers : List (ℕ × ℕ)) : Type 0 where
  pub are : (x : List ℕ) → IsTrue (is_in names x)
      → register_in regs x ≡ register_for registers (value_cell (level_of names x))
  pub seen : (x : List ℕ) → IsTrue (has_cell_in regs x) → IsTrue (is_in names x)
  pub others : (level : ℕ) → length names ≤ level
      → register_for registers (value_cell level) ≡ None
  pub bare : regs ≡ [] → registers ≡ []

-- a scope has just these variables and tables, and registers stand for these cells
pub record SeesAs (scope : Scope) (names tables : List (List ℕ)) (registers : List (ℕ × ℕ))
    : Type 0 where
  pub sees : Sees scope names tables
  pub stand : StandFor names scope.regs.items registers

-- a scope has the same tables as before, and so many of the variables as told of those before
abbrev pub SeesAfter : (List (List ℕ) → List (List ℕ)) → Scope → Scope → Type 0
SeesAfter told old new =
    (names tables : List (List ℕ)) → Sees old names tables → Sees new (told names) tables

-- the variables that are visible after a statement
abbrev pub names_after : List (List ℕ) → Stmt → List (List ℕ)
names_after names (Let x e) = names ++ x.text.items ∷ []
names_after names (Set x e) = names
names_after names (Put t a b e) = names
names_after names (If' e p body q other) = names
names_after names (While' e p body) = names
names_after names (Loop' x a b p body) = names
names_after names (Par' place x a b carry_place carries reduces p body) = names
names_after names (Fold x e) = names
names_after names (Call x f) = names
names_after names (Both x f y g) = names
names_after names (Print place e) = names
names_after names (Emit place t) = names
names_after names (Leave x e) = names
names_after names (Fill f t r es) = names

abbrev pub names_after_list : List (List ℕ) → List Stmt → List (List ℕ)
names_after_list names [] = names
names_after_list names (s ∷ ss) = names_after_list (names_after names s) ss
