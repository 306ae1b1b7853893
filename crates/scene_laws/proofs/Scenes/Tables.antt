-- The tables of a state, by name, wholly held by a task or read by an expression.
use Rattle.std.proofs.Common.{◌≡◌, ℕ, zero, suc, Bool, true, false, List, [], ◌∷◌, map, Vec, refl}
use Rattle.std.specs.Prelude.{ℤ, pos, negsuc, ⊤, int_div, int_rem}
use Rattle.std.specs.List.{AllByRecursion}
use Rattle.std.specs.declared.alloc.Global.{Global}
use Rattle.slices.specs.Holding.{Holding}
use Rattle.tp_value.specs.declared.Place.{Place}
use Rattle.tp_value.specs.declared.Table.{Table}
use Rattle.loop_syntax.specs.declared.Name.{Name}
use Rattle.loop_syntax.specs.declared.BinOp.{BinOp}
use Rattle.loop_syntax.specs.declared.BinOp.TheVariants as op
use Rattle.loop_syntax.specs.declared.Expr.{Expr}
use Rattle.loop_syntax.specs.declared.Expr.TheVariants.{Int, Var, Cell', Rows, Cols, Neg', Bin'}
use Rattle.loop_meaning.specs.declared.value.Answer.{Answer}
use Rattle.loop_meaning.specs.declared.value.Answer.TheVariants.{Number, Traps}
use Rattle.loop_meaning.specs.declared.value.Variable.{Variable}
use Rattle.loop_meaning.specs.Expressions.{Value, eval, bind_answer, calculated, divided, read_cell}
use Rattle.loop_meaning.specs.State.{Note, Reads, Writes, Emits, Chance, table_of, has_cell}
use Rattle.expr_lower.specs.declared.scope.Scope.{Scope}
use Rattle.expr_lower.specs.Scopes.{IsIn, HasTable}
use Rattle.scene_laws.specs.Tables.{IsWholeOf}
use Rattle.scene_laws.proofs.Counts.Lists.{all_both}

-- each table is wholly held, under its number
abbrev pub AreWhole : List Holding → List Table → Type 0
AreWhole hs [] = ⊤
AreWhole [] (t ∷ ts) = ⊥
AreWhole (h ∷ hs) (t ∷ ts) = IsWholeOf h t × AreWhole hs ts

abbrev pub table_names : List Table → List (List ℕ)
table_names ts = map (λ (t : Table). t.name) ts

abbrev pub listed_names : List (Vec ℕ Global) → List (List ℕ)
listed_names us = map (λ (u : Vec ℕ Global). u.items) us

-- ---- what expressions read

module _ (P : Note → Type 0) where
  all_bind : (a : Answer) (ns : List Note) (f : ℤ → Value) → AllByRecursion P ns → ((n : ℤ) → AllByRecursion P (f n).notes) → AllByRecursion P (bind_answer a ns f).notes
  all_bind (Number n) ns f first others = all_both P ns (f n).notes first (others n)
  all_bind (Traps kind place) ns f first others = first

  all_divided : (f : ℤ → ℤ → ℤ) (p : Place) (a b : ℤ) → AllByRecursion P (divided f p a b).notes
  all_divided f p a (pos zero) = tt
  all_divided f p a (pos (suc n)) = tt
  all_divided f p a (negsuc n) = tt

  all_calculated : (o : BinOp) (p : Place) (a b : ℤ) → AllByRecursion P (calculated o p a b).notes
  all_calculated op.Add p a b = tt
  all_calculated op.Sub p a b = tt
  all_calculated op.Mul p a b = tt
  all_calculated op.Div p a b = all_divided int_div p a b
  all_calculated op.Rem p a b = all_divided int_rem p a b
  all_calculated op.Eq p a b = tt
  all_calculated op.Ne p a b = tt
  all_calculated op.Lt p a b = tt
  all_calculated op.Le p a b = tt
  all_calculated op.Gt p a b = tt
  all_calculated op.Ge p a b = tt

-- a cell of a table of a scope is read
abbrev pub IsRead : Scope → List Table → Note → Type 0
IsRead scope ts (Reads t i j) = HasTable scope t × (has_cell (table_of ts t) i j ≡ true)
IsRead scope ts (Writes t i j) = ⊥
IsRead scope ts (Emits t) = ⊥
IsRead scope ts Chance = ⊥

module _ (scope : Scope) (vs : List Variable) (ts : List Table) where
  abbrev AreRead : List Note → Type 0
  AreRead ns = AllByRecursion (IsRead scope ts) ns

  read_one : (t : Name) (i j : ℤ) → HasTable scope t.text.items → AreRead (read_cell ts t i j).notes
  read_one t i j has = go (has_cell (table_of ts t.text.items) i j) refl
    where
      go : (b : Bool) → has_cell (table_of ts t.text.items) i j ≡ b → AreRead (read_cell ts t i j).notes
      go true is = rw (is, read_cell) ((has, is), tt)
      go false is = rw (is, read_cell) tt

  -- an expression notes no more than the cells that it reads
  pub are_read : (e : Expr) → IsIn scope e → AreRead (eval vs ts e).notes
  are_read (Int n place) is = tt
  are_read (Var x) is = tt
  are_read (Cell' t p a q b) is =
      all_bind (IsRead scope ts) (eval vs ts a).answer (eval vs ts a).notes _ (are_read a is.1) (λ i.
      all_bind (IsRead scope ts) (eval vs ts b).answer (eval vs ts b).notes _ (are_read b is.2) (λ j. read_one t i j is.0))
  are_read (Rows t) is = tt
  are_read (Cols t) is = tt
  are_read (Neg' p a place) is = all_bind (IsRead scope ts) (eval vs ts a).answer (eval vs ts a).notes _ (are_read a is) (λ n. tt)
  are_read (Bin' o place p a q b) is =
      all_bind (IsRead scope ts) (eval vs ts a).answer (eval vs ts a).notes _ (are_read a is.0) (λ m.
      all_bind (IsRead scope ts) (eval vs ts b).answer (eval vs ts b).notes _ (are_read b is.1) (λ n. all_calculated (IsRead scope ts) o place m n))
