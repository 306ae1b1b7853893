-- The site of a `par`: where its cells stand, and what it reduces and carries. Its handler and its
-- join are made from it.
use Rattle.std.specs.Prelude.{ℕ, suc, ◌+◌, List, [], ◌∷◌, map}
use Rattle.handler_gen.specs.Registers.{cut_register}
use Rattle.loop_syntax.specs.declared.Carry.{Carry}
use Rattle.loop_syntax.specs.declared.Carry.TheVariants as carry
use Rattle.loop_syntax.specs.declared.ParLoop.{ParLoop}
use Rattle.loop_syntax.specs.declared.Reduce.{Reduce}
use Rattle.loop_syntax.specs.declared.RowAt.{RowAt}
use Rattle.loop_syntax.specs.declared.RowAt.TheVariants as row
use Rattle.tp_value.specs.declared.Op.{Op}
use Rattle.tpal_syntax.specs.declared.instructions.Instr.{Instr}
use Rattle.tpal_syntax.specs.declared.instructions.Instr.TheVariants as instr
use Rattle.tpal_syntax.specs.declared.instructions.Value.TheVariants as value
use Rattle.tpal_syntax.specs.declared.notes.CarryAt.{CarryAt}
use Rattle.tpal_syntax.specs.declared.notes.CarryAt.TheVariants as at
use Rattle.tpal_syntax.specs.declared.sites.LoopSite.{LoopSite}
use Rattle.expr_lower.specs.declared.scope.Scope.{Scope}
use Rattle.expr_lower.specs.Scopes.{offset_of, table_number}
use Rattle.scene_laws.specs.Layout.{bound_cell, rec_cell}

-- ---- registers of a handler

-- the place of a cut
abbrev pub at_register : ℕ
at_register = 0

-- the row of the carry before which so many stand
abbrev pub row_register : ℕ → ℕ
row_register before = 1 + before

-- ---- a site

-- the table of a carry
abbrev pub carried_table : Carry → List ℕ
carried_table (carry.Rows t i) = t.text.items
carried_table (carry.Cells t k j) = t.text.items

abbrev pub carry_at : Scope → ℕ → Carry → CarryAt
carry_at scope before (carry.Rows t i) = at.Rows (table_number scope t.text.items) at_register
carry_at scope before (carry.Cells t k j) =
    at.Cells (table_number scope t.text.items) (row_register before) at_register

abbrev pub carries_from : Scope → ℕ → List Carry → List CarryAt
carries_from scope before [] = []
carries_from scope before (c ∷ cs) = carry_at scope before c ∷ carries_from scope (suc before) cs

-- the cells of the variables that are reduced, with their operators
abbrev pub accs_of : Scope → List Reduce → List (ℕ × Op)
accs_of scope reduces = map (λ (r : Reduce). (offset_of scope r.target.text.items, r.op)) reduces

-- The site of a `par` at a label, in an activation of so many cells, inside so many other `par`
-- loops. So many variables are visible before its own, and its next iteration that isn't begun is
-- in a cell.
abbrev pub loop_site : Scope → ParLoop → ℕ → ℕ → ℕ → ℕ → ℕ → LoopSite
loop_site scope l cells depth level cursor label =
    record {
      label = label;
      cells = cells;
      cursor = cursor;
      bound = bound_cell level;
      rec = rec_cell depth;
      mark = bound_cell level;
      accs = accs_of scope l.reduces.items;
      carries = carries_from scope 0 l.carries.items;
    }

-- ---- the rows of carries

-- a row comes into a register: it is a number, or a variable of the activation that is cut
abbrev pub row_load : Scope → ℕ → RowAt → Instr
row_load scope r (row.Int n) = instr.Move r (value.Int n)
row_load scope r (row.Var x) = instr.Load r cut_register (offset_of scope x.text.items)

abbrev pub rows_from : Scope → ℕ → List Carry → List Instr
rows_from scope before [] = []
rows_from scope before (carry.Rows t i ∷ cs) = rows_from scope (suc before) cs
rows_from scope before (carry.Cells t k j ∷ cs) =
    row_load scope (row_register before) k ∷ rows_from scope (suc before) cs
