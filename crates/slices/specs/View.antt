-- How the kept spans stand for the finite map.
use Rattle.std.specs.Prelude.{◌*◌}
use Rattle.slices.specs.Cells.{first_cells}
use Rattle.slices.specs.Holding.{Holding}
use Rattle.slices.specs.Spans.{AreApart}
use Rattle.slices.specs.Stored.{stored, store_at, is_owned, IsSound}
use Rattle.slices.specs.declared.table.Held.TheInside.{Inside}

abbrev pub holding : Inside → Holding
holding held =
    record {
      rows = held.rows;
      cols = held.cols;
      cells = first_cells held.cols (store_at held.store)
          (held.rows * held.cols);
      owned = is_owned held.store;
    }

pub record IsKept (held : Inside) : Type 0 where
  pub apart : AreApart (held.rows * held.cols) (stored held.store)
  pub sound : IsSound (held.rows * held.cols) held.store
