use Rattle.std.proofs.Common.{◌≡◌, ◌*◌, ◌+◌, ◌∙◌, ap, sym, arith, true, false, cond, Some, to_z-of_z}
use Rattle.std.specs.Prelude.{nat_eq, is_some, ◌&&◌}
use Rattle.slices.specs.Cells.{StandsAt}
use Rattle.slices.specs.Stored.{store_at, stored, is_owned}
use Rattle.slices.proofs.Cuts.{apart_less}
use Rattle.slices.proofs.Maps.{first_cells_at}
use Rattle.slices.proofs.Seen.{seen_with, seen_same, at_stands, stands_below}
use Rattle.slices.proofs.Sound.{sound_less}
use Rattle.slices.proofs.table.Held.put.Goals as goal

pub put-requires : goal.put-requires
put-requires c =
    let stands : StandsAt c.self.inside.rows c.self.inside.cols c.args.row c.args.col c.in-Some.at = rw (← c.self.view_is, to_z-of_z c.ranges.row, to_z-of_z c.ranges.col) at c.in-Some.ensures in
    sound_less (c.in-Some.at + 1) (c.self.inside.rows * c.self.inside.cols) c.self.inside.store (stands_below c.self.inside.rows c.self.inside.cols c.args.row c.args.col c.in-Some.at stands) c.self.invariant.sound

pub invariant_of-self : goal.invariant_of-self
invariant_of-self c =
    let n = c.self.inside.rows * c.self.inside.cols in
    record { apart = apart_less n (stored c.self.inside.store) (stored c.put.new.self) (λ i. omega (arith, c.in-Some-put.ensures.reaching i)) c.self.invariant.apart; sound = c.in-Some-put.ensures.sound n c.self.invariant.sound }

pub returns-in-Some-put-clause-found : goal.returns-in-Some-put-clause-found
returns-in-Some-put-clause-found c = rw (← c.self.view_is) (c.in-Some-put.ensures.found ∙ ap is_some (sym (at_stands c.self.inside.rows c.self.inside.cols (store_at c.self.inside.store) c.args.row c.args.col c.in-Some.at (rw (← c.self.view_is, to_z-of_z c.ranges.row, to_z-of_z c.ranges.col) at c.in-Some.ensures))))

pub returns-in-Some-put-clause-set : goal.returns-in-Some-put-clause-set
returns-in-Some-put-clause-set c = λ e.
    let done : c.in-Some-put.done ≡ true = cc e in
    rw (← c.self.view_is) (seen_with c.self.inside.rows c.self.inside.cols (store_at c.self.inside.store) (store_at c.put.new.self) (is_owned c.self.inside.store) _ c.args.row c.args.col c.in-Some.at c.args.value
    (rw (← c.self.view_is, to_z-of_z c.ranges.row, to_z-of_z c.ranges.col) at c.in-Some.ensures)
    (λ i. c.in-Some-put.ensures.cells i ∙ (λ j. cond (done j && nat_eq i c.in-Some.at) (Some (to_z-of_z c.ranges.value j)) (store_at c.self.inside.store i)))
    (c.in-Some-put.ensures.owned ∙ c.in-Some-put.ensures.tells))

pub returns-in-Some-put-clause-not_held : goal.returns-in-Some-put-clause-not_held
returns-in-Some-put-clause-not_held c = λ e.
    let done : c.in-Some-put.done ≡ false = cc e in
    seen_same c.self.inside.rows c.self.inside.cols (store_at c.self.inside.store) (store_at c.put.new.self) (is_owned c.self.inside.store) _
    (λ i. c.in-Some-put.ensures.cells i ∙ (λ j. cond (done j && nat_eq i c.in-Some.at) (Some (to_z-of_z c.ranges.value j)) (store_at c.self.inside.store i)))
    c.in-Some-put.ensures.owned
    ∙ c.self.view_is

pub returns-in-None-clause-found : goal.returns-in-None-clause-found
returns-in-None-clause-found c = rw (← c.self.view_is) (ap is_some (sym (first_cells_at c.self.inside.rows c.self.inside.cols (store_at c.self.inside.store) c.args.row c.args.col ∙ (rw (← c.self.view_is, to_z-of_z c.ranges.row, to_z-of_z c.ranges.col) at c.in-None.ensures (store_at c.self.inside.store)))))
