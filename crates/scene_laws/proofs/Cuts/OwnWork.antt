-- What the handler of a `par` cuts of it, told by the values of the variables round the loop.
use Rattle.std.specs.Prelude.{◌≡◌, ◌≢◌, ℕ, ◌<◌, ◌≤◌, ℤ, int_lt, Bool, List}
use Rattle.std.specs.Prelude.{[], ◌∷◌, map, false, length}
use Rattle.beat_count.specs.BeatState.{BeatState}
use Rattle.loop_syntax.specs.declared.Carry.{Carry}
use Rattle.loop_syntax.specs.declared.Carry.TheVariants as carry
use Rattle.loop_syntax.specs.declared.ParLoop.{ParLoop}
use Rattle.loop_meaning.specs.declared.value.Variable.{Variable}
use Rattle.tp_value.specs.declared.limits.TheConstants.{MAX_PAR_NESTING}
use Rattle.tpal_syntax.specs.Conditions.{is_ready}
use Rattle.tpal_syntax.specs.declared.sites.LoopSite.{LoopSite}
use Rattle.tpal_syntax.specs.declared.words.Word.{Word}
use Rattle.tpal_syntax.specs.Listing.{Listing}
use Rattle.tpal_machine.specs.declared.cut.TableCut.{TableCut}
use Rattle.tpal_machine.specs.declared.cut.TableCut.TheVariants.{ByRows, ByCells}
use Rattle.tpal_machine.specs.Reading.{block_at, note_of}
use Rattle.tpal_machine.specs.RestState.{RestState}
use Rattle.tpal_machine.specs.State.{State}
use Rattle.expr_lower.specs.declared.scope.Scope.{Scope}
use Rattle.expr_lower.specs.Standing.{AreAt}
use Rattle.expr_lower.specs.Scopes.{table_number}
use Rattle.frame_machine.specs.Lawful.{RowsFixed}
use Rattle.handler_gen.specs.Blocks.{dispatch_block}
use Rattle.handler_gen.specs.Halves.{Halves, Work, left_part, child_part, rest_part}
use Rattle.handler_gen.specs.LoopCuts.{loop_halves}
use Rattle.handler_gen.specs.Sites.{first_label, none_label, target_label}
use Rattle.scene_laws.specs.Layout.{Activation, value_cell}
use Rattle.scene_laws.specs.Marked.{IsSite}
use Rattle.scene_laws.proofs.Scenes.Scene.{header}
use Rattle.scene_laws.proofs.Cuts.Sides.{carried, row_number}
use Rattle.scene_laws.proofs.Scenes.Variables.{var_names}

-- A cut of a `par` whose site stands in the activation at z: the iterations next, .., end - 1
-- aren't begun, and the upper part begins at the middle. The variables round the loop have these
-- values.
pub record OwnCut : Type 0 where
  pub scope : Scope
  pub loop : ParLoop
  pub site : LoopSite
  pub z : ℕ
  pub next : ℤ
  pub middle : ℤ
  pub end : ℤ
  pub vars : List Variable

-- ---- tables

-- where the table of a carry is cut, in a loop that is cut at a number
abbrev pub cut_by_one : List Variable → ℤ → Carry → TableCut
cut_by_one vs middle (carry.Rows t i) = ByRows middle
cut_by_one vs middle (carry.Cells t k j) = ByCells (row_number vs k) middle

-- the same of each carry, with its table's number
abbrev pub cuts_by : Scope → List Variable → ℤ → List Carry → List (ℕ × TableCut)
cuts_by scope vs middle carries =
    map (λ (c : Carry). (table_number scope (carried c), cut_by_one vs middle c)) carries

-- ---- parts

-- whether an iteration is left to the left
abbrev pub has_iteration : OwnCut → Bool
has_iteration c = int_lt c.next c.middle

module _ (c : OwnCut) (k : ℕ) (state : State) where
  -- what is cut under a record
  abbrev pub own_work : Work
  own_work = record {
    base = c.z;
    cells = c.site.cells;
    cuts = cuts_by c.scope c.vars c.middle c.loop.carries.items;
    rec = k;
    target = target_label c.site.label;
  }

  abbrev pub own_halves : Halves
  own_halves = loop_halves c.site c.z c.middle k state.stack (has_iteration c)

  -- the parts of a task, the left and the child where they go on
  abbrev pub own_left : List Word → BeatState → State
  own_left words beat = left_part own_work own_halves state words beat

  abbrev pub own_child : List Word → BeatState → State
  own_child words beat = child_part own_work own_halves state words beat

  abbrev pub own_rest : RestState
  own_rest = rest_part own_work state

-- ---- the code and the task that are cut so

-- What stands in a code round such a cut: the site with its blocks, the block to which beats go,
-- and plain blocks where the child and a left without iterations go on. The variables of the cut
-- are those round the loop, the cursor's cell is apart from theirs and from the first ones of the
-- activation, and the rows of carries are among the variables.
pub record IsCutSite (code : Listing) (act : Activation) (names : List (List ℕ))
    (depth cursor dispatch : ℕ) (c : OwnCut) : Type 0 where
  pub is_site : IsSite code act names c.loop depth cursor c.site
  pub scoped : c.scope ≡ is_site.scope
  pub dispatches : AreAt code dispatch (dispatch_block dispatch ∷ [])
  pub first : is_ready (note_of (block_at code (first_label c.site.label))) ≡ false
  pub none : is_ready (note_of (block_at code (none_label c.site.label))) ≡ false
  pub rows : RowsFixed names c.loop.reduces.items c.loop.carries.items
  pub named : var_names c.vars ≡ names
  pub inside : depth < MAX_PAR_NESTING
  pub cursor_apart : (x : ℕ) → x < length names → value_cell x ≢ cursor
  pub cursor_high : header ≤ cursor
  pub room : value_cell (length names) ≤ act.size
