-- The sites of parallel loops and of pairs of calls: which of them are right, and where their
-- blocks stand.
use Rattle.std.specs.Prelude.{◌≢◌, ℕ, ◌+◌, ◌<◌, ◌≤◌, Bool, true, false, if◌then◌else◌, List, ◌∷◌}
use Rattle.std.specs.Prelude.{length, map, All, AllPairs}
use Rattle.std.specs.List.{list_any}
use Rattle.tp_value.specs.declared.limits.TheConstants.{MAX_REDUCTIONS, MAX_BLOCKS, MAX_TABLES}
use Rattle.tp_value.specs.declared.limits.TheConstants.{MAX_ACTIVATION_CELLS, MAX_CARRIES}
use Rattle.tp_value.specs.declared.limits.TheConstants.{MAX_PARAMETERS}
use Rattle.expr_lower.specs.Registers.{value_registers}
use Rattle.tpal_syntax.specs.declared.notes.CarryAt.{CarryAt}
use Rattle.tpal_syntax.specs.declared.notes.CarryAt.TheVariants as carry
use Rattle.tpal_syntax.specs.declared.sites.CallSite.{CallSite}
use Rattle.tpal_syntax.specs.declared.sites.LoopSite.{LoopSite}
use Rattle.tpal_syntax.specs.Parts.{table_of}

-- ---- carries

-- the register with the place at which a carry is cut
abbrev pub at_of : CarryAt → ℕ
at_of (carry.Rows table at) = at
at_of (carry.Cells table row at) = at

-- whether a carry is of the cells of one row, and not of rows
abbrev pub is_of_cells : CarryAt → Bool
is_of_cells (carry.Rows table at) = false
is_of_cells (carry.Cells table row at) = true

-- a carry is of a table of a code, by registers of values
abbrev pub IsLowCarry : CarryAt → Type 0
IsLowCarry (carry.Rows table at) = (table < MAX_TABLES) × (at < value_registers)
IsLowCarry (carry.Cells table row at) =
    (table < MAX_TABLES) × (row < value_registers) × (at < value_registers)

-- a register isn't that of a carry's row, where it has one
abbrev pub IsNoRow : CarryAt → ℕ → Type 0
IsNoRow (carry.Rows table at) r = Unit {0}
IsNoRow (carry.Cells table row at) r = row ≢ r

-- ---- the conditions on sites

-- the cells of a loop that differ: the mark may stand on one of them
abbrev pub loop_cells : LoopSite → List ℕ
loop_cells site = site.cursor ∷ site.bound ∷ site.rec ∷ map (λ (a : ℕ × _). a.0) site.accs

-- the site of a parallel loop. The stored loop of a leaf loop stands two labels behind that one's, so
-- a label may be two more than those of a code
pub record IsLoopSite (site : LoopSite) : Type 0 where
  pub label : site.label < MAX_BLOCKS + 2
  pub cells : site.cells ≤ MAX_ACTIVATION_CELLS
  pub offsets : All (λ off. off < site.cells) (site.mark ∷ loop_cells site)
  pub offsets_differ : AllPairs (λ a b. a ≢ b) (loop_cells site)
  pub few_accs : length site.accs ≤ MAX_REDUCTIONS
  pub few_carries : length site.carries ≤ MAX_CARRIES
  pub carries : All IsLowCarry site.carries
  pub tables_differ : AllPairs (λ c d. table_of c ≢ table_of d) site.carries
  pub rows_stay : All (λ c. All (λ d. IsNoRow c (at_of d)) site.carries) site.carries

-- the cells of a pair of calls that differ
abbrev pub call_cells : CallSite → List ℕ
call_cells site = site.rec ∷ site.args

-- the site of a pair of calls
pub record IsCallSite (site : CallSite) : Type 0 where
  pub label : site.label < MAX_BLOCKS
  pub entry : site.entry < MAX_BLOCKS
  pub cells : site.cells ≤ MAX_ACTIVATION_CELLS
  pub offsets : All (λ off. off < site.cells) (site.mark ∷ call_cells site)
  pub offsets_differ : AllPairs (λ a b. a ≢ b) (call_cells site)
  pub few_args : length site.args ≤ MAX_PARAMETERS

-- ---- labels

-- The blocks of a site stand from its label on, one after another. The first one cuts.

-- where a handler goes back
abbrev pub back_label : ℕ → ℕ
back_label label = label + 1

-- where the child begins
abbrev pub child_label : ℕ → ℕ
child_label label = label + 2

-- the join target
abbrev pub target_label : ℕ → ℕ
target_label label = label + 3

-- where both sides are combined
abbrev pub comb_label : ℕ → ℕ
comb_label label = label + 4

-- where a side of a loop ends
abbrev pub side_label : ℕ → ℕ
side_label label = label + 5

-- where the child of a pair of calls ends
abbrev pub child_end_label : ℕ → ℕ
child_end_label label = label + 5

-- where the left of a pair of calls ends
abbrev pub left_end_label : ℕ → ℕ
left_end_label label = label + 6

-- The blocks behind those of a site are the code round it.

-- a loop's first iteration, which is begun without a promotion point
abbrev pub first_label : ℕ → ℕ
first_label label = label + 6

-- a loop with no iteration left
abbrev pub over_label : ℕ → ℕ
over_label label = label + 7

-- the left of a cut, where it has no iteration left
abbrev pub none_label : ℕ → ℕ
none_label label = label + 8

-- the registers of rows, loaded before the cut
abbrev pub prep_label : ℕ → ℕ
prep_label label = label + 9

-- a pair of calls, both of which are made
abbrev pub joined_label : ℕ → ℕ
joined_label label = label + 7

-- the label of a loop's mark: where a carry has a row, its register is loaded first
abbrev pub split_label : LoopSite → ℕ
split_label site =
    if list_any is_of_cells site.carries then prep_label site.label else site.label
