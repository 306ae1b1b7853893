-- Which expressions have their variables and tables among those that are visible.
use Rattle.std.specs.Prelude.{ℕ, IsTrue, ⊤, List}
use Rattle.std.specs.List.{AllByRecursion}
use Rattle.loop_syntax.specs.declared.Expr.{Expr}
use Rattle.loop_syntax.specs.declared.Expr.TheVariants.{Int, Var, Cell', Rows, Cols, Neg', Bin'}
use Rattle.loop_rules.specs.Names.{is_in}

-- the variables and tables of an expression are among these tables and these variables
abbrev pub IsVisible : List (List ℕ) → List (List ℕ) → Expr → Type 0
IsVisible tables names (Int n place) = ⊤
IsVisible tables names (Var x) = IsTrue (is_in names x.text.items)
IsVisible tables names (Cell' t p a q b) =
    IsTrue (is_in tables t.text.items) × IsVisible tables names a × IsVisible tables names b
IsVisible tables names (Rows t) = IsTrue (is_in tables t.text.items)
IsVisible tables names (Cols t) = IsTrue (is_in tables t.text.items)
IsVisible tables names (Neg' p a place) = IsVisible tables names a
IsVisible tables names (Bin' o place p a q b) = IsVisible tables names a × IsVisible tables names b

abbrev pub AreVisible : List (List ℕ) → List (List ℕ) → List Expr → Type 0
AreVisible tables names es = AllByRecursion (IsVisible tables names) es
