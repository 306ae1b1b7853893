use Rattle.std.proofs.Common.{◌≡◌, ◌∙◌, ap, sym, subst, true, false, cond, Some, to_z-of_z}
use Rattle.std.specs.Prelude.{nat_eq, ◌&&◌}
use Rattle.slices.specs.Stored.{store_at, is_owned}
use Rattle.slices.specs.Holding.{cell_at}
use Rattle.slices.proofs.Maps.{first_cells_at}
use Rattle.std.specs.Prelude.{IsSome, is_some}
use Rattle.slices.proofs.Seen.{seen_with, seen_same, at_stands, on_err}
use Rattle.slices.proofs.table.Held.put_shared.Goals as goal

pub returns-in_ok-put_shared-in-Some-clause-found : goal.returns-in_ok-put_shared-in-Some-clause-found
returns-in_ok-put_shared-in-Some-clause-found c = rw (← c.self.view_is) (c.in_ok-put_shared-in-Some.ensures.found ∙ ap is_some (sym (at_stands c.self.inside.rows c.self.inside.cols (store_at c.self.inside.store) c.args.row c.args.col c.in-Some.at (rw (← c.self.view_is, to_z-of_z c.ranges.row, to_z-of_z c.ranges.col) at c.in-Some.ensures))))

pub returns-in_ok-put_shared-in-Some-clause-set : goal.returns-in_ok-put_shared-in-Some-clause-set
returns-in_ok-put_shared-in-Some-clause-set c = λ e.
    let done : c.in_ok-put_shared-in-Some.field-0 ≡ true = cc e in
    rw (← c.self.view_is) (seen_with c.self.inside.rows c.self.inside.cols (store_at c.self.inside.store) (store_at c.put_shared.new.self) (is_owned c.self.inside.store) _ c.args.row c.args.col c.in-Some.at c.args.value
    (rw (← c.self.view_is, to_z-of_z c.ranges.row, to_z-of_z c.ranges.col) at c.in-Some.ensures)
    (λ i. c.in_ok-put_shared-in-Some.ensures.cells i ∙ (λ j. cond (done j && nat_eq i c.in-Some.at) (Some (to_z-of_z c.ranges.value j)) (store_at c.self.inside.store i)))
    (c.in_ok-put_shared-in-Some.ensures.owned ∙ done))

pub returns-in_ok-put_shared-in-Some-clause-not_held : goal.returns-in_ok-put_shared-in-Some-clause-not_held
returns-in_ok-put_shared-in-Some-clause-not_held c = λ e.
    let done : c.in_ok-put_shared-in-Some.field-0 ≡ false = cc e in
    seen_same c.self.inside.rows c.self.inside.cols (store_at c.self.inside.store) (store_at c.put_shared.new.self) (is_owned c.self.inside.store) _
    (λ i. c.in_ok-put_shared-in-Some.ensures.cells i ∙ (λ j. cond (done j && nat_eq i c.in-Some.at) (Some (to_z-of_z c.ranges.value j)) (store_at c.self.inside.store i)))
    (c.in_ok-put_shared-in-Some.ensures.owned ∙ done ∙ sym (rw (← c.self.view_is) at c.requires))
    ∙ c.self.view_is

pub returns-in-None-clause-found : goal.returns-in-None-clause-found
returns-in-None-clause-found c = rw (← c.self.view_is) (ap is_some (sym (first_cells_at c.self.inside.rows c.self.inside.cols (store_at c.self.inside.store) c.args.row c.args.col ∙ (rw (← c.self.view_is, to_z-of_z c.ranges.row, to_z-of_z c.ranges.col) at c.in-None.ensures (store_at c.self.inside.store)))))

pub returns-in_err-put_shared-in-Some-clause-no_memory : goal.returns-in_err-put_shared-in-Some-clause-no_memory
returns-in_err-put_shared-in-Some-clause-no_memory c = on_err _ (subst IsSome (sym (at_stands c.self.inside.rows c.self.inside.cols (store_at c.self.inside.store) c.args.row c.args.col c.in-Some.at (rw (← c.self.view_is, to_z-of_z c.ranges.row, to_z-of_z c.ranges.col) at c.in-Some.ensures)) ∙ ap (λ h. cell_at h c.args.row c.args.col) c.self.view_is) c.in_err-put_shared-in-Some.ensures.no_memory)
