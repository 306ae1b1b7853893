-- The cells of a loop's site differ from each other and from those of the variables round it.
use Rattle.std.proofs.Common.{◌≡◌, ◌≢◌, ℕ, ◌<◌, All, List, [], ◌∷◌, length, ap, sym, subst, ◌∙◌}
use Rattle.std.proofs.Common.{arith}
use Rattle.std.proofs.lemmas.List.Elements.{All-cons, All-head, All-nil, All-tail}
use Rattle.std.proofs.lemmas.List.{length-map}
use Rattle.std.specs.List.{AllByRecursion}
use Rattle.loop_syntax.specs.declared.Reduce.{Reduce}
use Rattle.loop_meaning.specs.declared.value.Variable.{Variable}
use Rattle.tp_value.specs.declared.Op.{Op}
use Rattle.tpal_syntax.specs.Listing.{Listing}
use Rattle.tpal_syntax.specs.declared.sites.LoopSite.{LoopSite}
use Rattle.expr_lower.specs.Scopes.{HasCell, offset_of}
use Rattle.expr_lower.specs.declared.scope.Scope.{Scope}
use Rattle.handler_gen.specs.Sites.{IsLoopSite}
use Rattle.handler_gen.proofs.FramesCut.{Differ, first_apart, rest_differ}
use Rattle.handler_gen.proofs.Offsets.{accs_in, cells_of}
use Rattle.scene_laws.specs.Names.{level_of}
use Rattle.scene_laws.specs.Layout.{Activation, bound_cell, rec_cell, value_cell}
use Rattle.scene_laws.specs.Names.{Sees}
use Rattle.scene_laws.specs.Sites.{accs_of}
use Rattle.scene_laws.proofs.Cuts.OwnWork.{OwnCut, IsCutSite}
use Rattle.scene_laws.proofs.Cuts.ReducedCells.{is_named}
use Rattle.scene_laws.proofs.Scenes.Seeing.{cell_of_level}

module _ (site : LoopSite) (right : IsLoopSite site) where
  abbrev accs : List ℕ
  accs = cells_of site.accs

  cursor_apart : All (λ x. site.cursor ≢ x) (site.bound ∷ site.rec ∷ accs)
  cursor_apart = first_apart site.cursor (site.bound ∷ site.rec ∷ accs) right.offsets_differ

  behind_cursor : Differ (site.bound ∷ site.rec ∷ accs)
  behind_cursor = rest_differ site.cursor (site.bound ∷ site.rec ∷ accs) right.offsets_differ

  bound_apart : All (λ x. site.bound ≢ x) (site.rec ∷ accs)
  bound_apart = first_apart site.bound (site.rec ∷ accs) behind_cursor

  cursor_behind : All (λ x. site.cursor ≢ x) (site.rec ∷ accs)
  cursor_behind = All-tail (λ x. site.cursor ≢ x) site.bound (site.rec ∷ accs) cursor_apart

  pub cursor_bound : site.cursor ≢ site.bound
  cursor_bound = All-head (λ x. site.cursor ≢ x) site.bound (site.rec ∷ accs) cursor_apart

  pub cursor_rec : site.cursor ≢ site.rec
  cursor_rec = All-head (λ x. site.cursor ≢ x) site.rec accs cursor_behind

  pub cursor_accs : All (λ x. site.cursor ≢ x) accs
  cursor_accs = All-tail (λ x. site.cursor ≢ x) site.rec accs cursor_behind

  pub bound_rec : site.bound ≢ site.rec
  bound_rec = All-head (λ x. site.bound ≢ x) site.rec accs bound_apart

  pub bound_accs : All (λ x. site.bound ≢ x) accs
  bound_accs = All-tail (λ x. site.bound ≢ x) site.rec accs bound_apart

  pub rec_accs : All (λ x. site.rec ≢ x) accs
  rec_accs = first_apart site.rec accs (rest_differ site.bound (site.rec ∷ accs) behind_cursor)

-- ---- those of the variables

module _ {code : Listing} {act : Activation} {names : List (List ℕ)} {depth cursor dispatch : ℕ}
    {c : OwnCut} (place : IsCutSite code act names depth cursor dispatch c) where
  pub rec_is : c.site.rec ≡ rec_cell depth
  rec_is = ap (λ site. site.rec) place.is_site.is

  pub bound_is : c.site.bound ≡ bound_cell (length names)
  bound_is = ap (λ site. site.bound) place.is_site.is

  pub cursor_is : c.site.cursor ≡ cursor
  cursor_is = ap (λ site. site.cursor) place.is_site.is

  pub cells_are : c.site.cells ≡ act.size
  cells_are = ap (λ site. site.cells) place.is_site.is

  pub variable_no_rec : (x : ℕ) → value_cell x ≢ c.site.rec
  variable_no_rec x e = absurd (omega (arith, e, rec_is, place.inside))

  pub variable_no_bound : (x : ℕ) → value_cell x ≢ c.site.bound
  variable_no_bound x e = absurd (omega (arith, e, bound_is))

  pub variable_no_cursor : (x : ℕ) → x < length names → value_cell x ≢ c.site.cursor
  variable_no_cursor x below e = place.cursor_apart x below (e ∙ cursor_is)

  pub variable_in : (x : ℕ) → x < length names → value_cell x < c.site.cells
  variable_in x below = omega (arith, below, place.room, cells_are)

  -- as many variables as names
  pub as_many : length c.vars ≡ length names
  as_many =
      sym (length-map c.vars (λ (u : Variable). u.name))
      ∙ ap (λ (ns : List (List ℕ)). length ns) place.named

  pub sees : Sees c.scope names act.tables
  sees = subst (λ (scope : Scope). Sees scope names act.tables) (sym place.scoped)
      place.is_site.sees

  -- the reduced variables are those of the loop, in the activation
  pub accs_are : c.site.accs ≡ accs_of c.scope c.loop.reduces.items
  accs_are =
      ap (λ site. site.accs) place.is_site.is
      ∙ ap (λ (scope : Scope). accs_of scope c.loop.reduces.items) (sym place.scoped)

  pub reduced : AllByRecursion (λ (r : Reduce). HasCell c.scope r.target.text.items)
      c.loop.reduces.items
  reduced = subst (λ (scope : Scope). AllByRecursion
      (λ (r : Reduce). HasCell scope r.target.text.items) c.loop.reduces.items)
      (sym place.scoped) place.is_site.reduced

  pub reduced_in : All (λ x. x < c.site.cells) (cells_of (accs_of c.scope c.loop.reduces.items))
  reduced_in = subst (λ (accs : List (ℕ × Op)). All (λ x. x < c.site.cells) (cells_of accs))
      accs_are (accs_in c.site place.is_site.right)

  -- what holds of the cell of each reduced variable holds of the accumulators
  accs_all : (P : ℕ → Type 0)
      → AllByRecursion (λ (r : Reduce). P (offset_of c.scope r.target.text.items))
      c.loop.reduces.items → All P (cells_of c.site.accs)
  accs_all P each =
      subst (λ (accs : List (ℕ × Op)). All P (cells_of accs)) (sym accs_are)
      (of_reduces c.loop.reduces.items each)
    where
      of_reduces : (rs : List Reduce)
          → AllByRecursion (λ (r : Reduce). P (offset_of c.scope r.target.text.items)) rs
          → All P (cells_of (accs_of c.scope rs))
      of_reduces [] each = All-nil P
      of_reduces (r ∷ rs) each =
          All-cons P (offset_of c.scope r.target.text.items) (cells_of (accs_of c.scope rs))
          each.0 (of_reduces rs each.1)

  -- accumulators stand among the variables
  pub below_accs : (off : ℕ) → off < value_cell 0 → All (λ x. off ≢ x) (cells_of c.site.accs)
  below_accs off below = accs_all (λ x. off ≢ x) (each c.loop.reduces.items reduced)
    where
      each : (rs : List Reduce)
          → AllByRecursion (λ (r : Reduce). HasCell c.scope r.target.text.items) rs
          → AllByRecursion (λ (r : Reduce). off ≢ offset_of c.scope r.target.text.items) rs
      each [] seen = tt
      each (r ∷ rs) seen =
          let x : List ℕ = r.target.text.items in
          let cell : offset_of c.scope x ≡ value_cell (level_of names x) =
          cell_of_level c.scope names act.tables sees x
          (is_named c.scope names act.tables sees x seen.0) in
          ((λ e. absurd (omega (arith, e, cell, below))), each rs seen.1)
