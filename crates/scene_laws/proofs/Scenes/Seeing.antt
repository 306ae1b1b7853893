-- What a scope sees, told by the names alone.
use Rattle.std.proofs.Common.{◌≡◌, ℕ, suc, ◌+◌, Bool, true, false, cond, List, [], ◌∷◌, length, map}
use Rattle.std.proofs.Common.{bytes_eq, Vec, refl, sym, ap, ◌∙◌, arith}
use Rattle.std.specs.Prelude.{◌||◌, IsTrue, slice_index_or}
use Rattle.std.specs.declared.alloc.Global.{Global}
use Rattle.std.proofs.lemmas.List.{length-map}
use Rattle.loop_syntax.specs.declared.Expr.{Expr}
use Rattle.loop_syntax.specs.declared.Expr.TheVariants.{Int, Var, Cell', Rows, Cols, Neg', Bin'}
use Rattle.loop_rules.specs.Names.{is_in}
use Rattle.expr_lower.specs.declared.scope.Scope.{Scope}
use Rattle.expr_lower.specs.Scopes.{IsIn, HasCell, HasTable, has_cell_in, has_table_in, cell_in}
use Rattle.expr_lower.specs.Scopes.{offset_of}
use Rattle.scene_laws.specs.Visible.{IsVisible}
use Rattle.scene_laws.specs.Names.{level_of}
use Rattle.scene_laws.specs.Layout.{value_cell}
use Rattle.scene_laws.specs.Names.{Sees, AreLaid}
use Rattle.scene_laws.proofs.Scenes.Levels.{at_level}

pub has_cell : (cs : List (Vec ℕ Global × ℕ)) (x : List ℕ) → has_cell_in cs x ≡ is_in (map (λ (c : Vec ℕ Global × ℕ). c.0.items) cs) x
has_cell [] x = refl
has_cell (c ∷ cs) x = ap (λ b. bytes_eq c.0.items x || b) (has_cell cs x)

or_later : (a b : Bool) → b ≡ true → (a || b) ≡ true
or_later true b is = refl
or_later false b is = is

has_table : (ts : List (Vec ℕ Global)) (t : List ℕ) → has_table_in ts t ≡ is_in (map (λ (u : Vec ℕ Global). u.items) ts) t
has_table [] t = refl
has_table (u ∷ us) t = ap (λ b. bytes_eq u.items t || b) (has_table us t)

module _ (scope : Scope) (names tables : List (List ℕ)) (sees : Sees scope names tables) where
  pub seen_variable : (x : List ℕ) → IsTrue (is_in names x) → HasCell scope x
  seen_variable x seen = has_cell scope.cells.items x ∙ ap (λ (ns : List (List ℕ)). is_in ns x) sees.named ∙ seen

  pub seen_table : (t : List ℕ) → IsTrue (is_in tables t) → HasTable scope t
  seen_table t seen = has_table scope.tables.items t ∙ ap (λ (ns : List (List ℕ)). is_in ns t) sees.listed ∙ seen

  pub visible_inside : (e : Expr) → IsVisible tables names e → IsIn scope e
  visible_inside (Int n place) v = tt
  visible_inside (Var x) v =
      or_later (has_cell_in scope.regs.items x.text.items)
      (has_cell_in scope.cells.items x.text.items) (seen_variable x.text.items v)
  visible_inside (Cell' t p a q b) v = (seen_table t.text.items v.0, visible_inside a v.1, visible_inside b v.2)
  visible_inside (Rows t) v = seen_table t.text.items v
  visible_inside (Cols t) v = seen_table t.text.items v
  visible_inside (Neg' p a place) v = visible_inside a v
  visible_inside (Bin' o place p a q b) v = (visible_inside a v.0, visible_inside b v.1)

  -- as many cells as names
  pub as_long : length scope.cells.items ≡ length names
  as_long = sym (length-map scope.cells.items (λ (c : Vec ℕ Global × ℕ). c.0.items)) ∙ ap (λ (ns : List (List ℕ)). length ns) sees.named

-- the cell of a variable is that of its level
cell_from : (cs : List (Vec ℕ Global × ℕ)) (level : ℕ) (x : List ℕ) → AreLaid level cs → has_cell_in cs x ≡ true → cell_in cs x ≡ value_cell (level + level_of (map (λ (c : Vec ℕ Global × ℕ). c.0.items) cs) x)
cell_from [] level x laid has = cc
cell_from (c ∷ cs) level x laid has = go (cell_from cs (suc level) x laid.1) (bytes_eq c.0.items x) refl
  where
    rest : List (List ℕ)
    rest = map (λ (d : Vec ℕ Global × ℕ). d.0.items) cs

    go : (has_cell_in cs x ≡ true → cell_in cs x ≡ value_cell (suc level + level_of rest x)) → (b : Bool) → bytes_eq c.0.items x ≡ b
        → cell_in (c ∷ cs) x ≡ value_cell (level + cond (bytes_eq c.0.items x) 0 (suc (level_of rest x)))
    go others true e = rw e (let is : c.1 ≡ value_cell level = laid.0 in omega arith)
    go others false e =
        let seen : has_cell_in cs x ≡ true = rw e at has in
        let is : cell_in cs x ≡ value_cell (suc level + level_of rest x) = others seen in
        rw e (omega arith)

pub cell_of_level : (scope : Scope) (names tables : List (List ℕ)) → Sees scope names tables → (x : List ℕ) → IsTrue (is_in names x) → cell_in scope.cells.items x ≡ value_cell (level_of names x)
cell_of_level scope names tables sees x seen =
    let is : cell_in scope.cells.items x ≡ value_cell (0 + level_of (map (λ (c : Vec ℕ Global × ℕ). c.0.items) scope.cells.items) x) = cell_from scope.cells.items 0 x sees.laid (seen_variable scope names tables sees x seen) in
    let same : level_of (map (λ (c : Vec ℕ Global × ℕ). c.0.items) scope.cells.items) x ≡ level_of names x = ap (λ (ns : List (List ℕ)). level_of ns x) sees.named in
    omega arith

-- two variables with one cell are one
pub one_cell : (scope : Scope) (names tables : List (List ℕ)) → Sees scope names tables
    → (x y : List ℕ) → is_in names x ≡ true → is_in names y ≡ true
    → offset_of scope x ≡ offset_of scope y → x ≡ y
one_cell scope names tables sees x y seen also same =
    let here : offset_of scope x ≡ value_cell (level_of names x) =
    cell_of_level scope names tables sees x seen in
    let there : offset_of scope y ≡ value_cell (level_of names y) =
    cell_of_level scope names tables sees y also in
    let level : level_of names x ≡ level_of names y = omega (arith, here, there, same) in
    sym (at_level names x seen).1 ∙ ap (λ i. slice_index_or names i []) level
    ∙ (at_level names y also).1
