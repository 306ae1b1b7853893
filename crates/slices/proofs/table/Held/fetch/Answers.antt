use Rattle.std.proofs.Common.{◌*◌, ◌+◌, ◌∙◌, sym, to_z-of_z}
use Rattle.slices.specs.Cells.{StandsAt}
use Rattle.slices.specs.Stored.{store_at}
use Rattle.slices.proofs.Maps.{first_cells_at}
use Rattle.slices.proofs.Seen.{at_stands, stands_below}
use Rattle.slices.proofs.Sound.{sound_less}
use Rattle.slices.proofs.table.Held.fetch.Goals as goal

pub get-requires : goal.get-requires
get-requires c =
    let stands : StandsAt c.self.inside.rows c.self.inside.cols c.args.row c.args.col c.in-Some.at = rw (← c.self.view_is, to_z-of_z c.ranges.row, to_z-of_z c.ranges.col) at c.in-Some.ensures in
    sound_less (c.in-Some.at + 1) (c.self.inside.rows * c.self.inside.cols) c.self.inside.store (stands_below c.self.inside.rows c.self.inside.cols c.args.row c.args.col c.in-Some.at stands) c.self.invariant.sound

pub returns-in-Some : goal.returns-in-Some
returns-in-Some c = rw (← c.self.view_is) (c.get.ensures ∙ sym (at_stands c.self.inside.rows c.self.inside.cols (store_at c.self.inside.store) c.args.row c.args.col c.in-Some.at (rw (← c.self.view_is, to_z-of_z c.ranges.row, to_z-of_z c.ranges.col) at c.in-Some.ensures)))

pub returns-in-None : goal.returns-in-None
returns-in-None c = rw (← c.self.view_is) (sym (first_cells_at c.self.inside.rows c.self.inside.cols (store_at c.self.inside.store) c.args.row c.args.col ∙ (rw (← c.self.view_is, to_z-of_z c.ranges.row, to_z-of_z c.ranges.col) at c.in-None.ensures (store_at c.self.inside.store))))
