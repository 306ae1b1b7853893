-- The sites of leaf loops: which of them are right, and where their blocks stand.
use Rattle.std.specs.Prelude.{ℕ, ◌+◌, ◌≤◌, if◌then◌else◌, List, [], ◌∷◌, length}
use Rattle.std.specs.List.{list_any}
use Rattle.tp_value.specs.declared.Op.{Op}
use Rattle.tpal_syntax.specs.declared.sites.LoopSite.{LoopSite}
use Rattle.tpal_syntax.specs.declared.sites.LeafSite.{LeafSite}
use Rattle.handler_gen.specs.Registers.{leaf_accs, leaf_bound, leaf_cursor, leaf_first_acc}
use Rattle.handler_gen.specs.Sites.{IsLoopSite, is_of_cells, first_label}

-- While its registers are stored a leaf loop is a loop, whose blocks stand behind two of its own.
abbrev pub stored_loop : LeafSite → LoopSite
stored_loop site = record {
  label = site.label + 2;
  cells = site.cells;
  cursor = site.cursor;
  bound = site.bound;
  rec = site.rec;
  mark = site.mark;
  accs = site.accs;
  carries = site.carries;
}

-- the site of a leaf loop: that loop's is right, and there are registers for its accumulators
pub record IsLeafSite (site : LeafSite) : Type 0 where
  pub loop : IsLoopSite (stored_loop site)
  pub few_accs : length site.accs ≤ leaf_accs

-- ---- registers

-- the cells of accumulators, with registers from one on
abbrev pub registers_from : ℕ → List (ℕ × Op) → List (ℕ × ℕ)
registers_from r [] = []
registers_from r (a ∷ accs) = (a.0, r) ∷ registers_from (r + 1) accs

-- The cells for which registers stand while a leaf loop runs, each with its register: those of the
-- next iteration, of the end, and of the accumulators.
abbrev pub registers_of : LeafSite → List (ℕ × ℕ)
registers_of site =
    (site.cursor, leaf_cursor) ∷ (site.bound, leaf_bound)
    ∷ registers_from leaf_first_acc site.accs

-- ---- labels

-- The first block stores the registers.

-- where they are loaded again, on the way back
abbrev pub reload_label : ℕ → ℕ
reload_label label = label + 1

-- The blocks behind those of the handler and the join are the code round it.

-- where the loop begins, and its child: the registers are loaded from their cells
abbrev pub start_label : LeafSite → ℕ
start_label site = first_label (site.label + 2)

-- The promotion point, which begins each iteration of a piece but the first. It stands behind the
-- block that loads the rows of carries, if there is one.
abbrev pub head_label : LeafSite → ℕ
head_label site =
    if list_any is_of_cells site.carries then site.label + 12 else site.label + 11
