-- The cells of a right site are in its activation.
use Rattle.std.proofs.Common.{ℕ, ◌<◌, All, List, ◌∷◌, map}
use Rattle.std.proofs.lemmas.List.Elements.{All-head, All-tail}
use Rattle.tp_value.specs.declared.Op.{Op}
use Rattle.tpal_syntax.specs.declared.sites.LoopSite.{LoopSite}
use Rattle.handler_gen.specs.Sites.{IsLoopSite, loop_cells}

-- the cells of accumulators
abbrev pub cells_of : List (ℕ × Op) → List ℕ
cells_of accs = map (λ (a : ℕ × Op). a.0) accs

module _ (site : LoopSite) (right : IsLoopSite site) where
  abbrev Inside : ℕ → Type 0
  Inside off = off < site.cells

  pub mark_in : site.mark < site.cells
  mark_in = All-head Inside site.mark (loop_cells site) right.offsets

  cells_in : All Inside (loop_cells site)
  cells_in = All-tail Inside site.mark (loop_cells site) right.offsets

  pub cursor_in : site.cursor < site.cells
  cursor_in = All-head Inside site.cursor (site.bound ∷ site.rec ∷ cells_of site.accs) cells_in

  behind_cursor : All Inside (site.bound ∷ site.rec ∷ cells_of site.accs)
  behind_cursor = All-tail Inside site.cursor (site.bound ∷ site.rec ∷ cells_of site.accs) cells_in

  pub bound_in : site.bound < site.cells
  bound_in = All-head Inside site.bound (site.rec ∷ cells_of site.accs) behind_cursor

  behind_bound : All Inside (site.rec ∷ cells_of site.accs)
  behind_bound = All-tail Inside site.bound (site.rec ∷ cells_of site.accs) behind_cursor

  pub rec_in : site.rec < site.cells
  rec_in = All-head Inside site.rec (cells_of site.accs) behind_bound

  pub accs_in : All Inside (cells_of site.accs)
  accs_in = All-tail Inside site.rec (cells_of site.accs) behind_bound
