use Rattle.std.proofs.Common.{◌*◌, ◌+◌, ◌∙◌, ap, refl, true, cond, not, None, to_z-of_z}
use Rattle.std.specs.Prelude.{pos, int_lt, ◌&&◌}
use Rattle.std.specs.Ordering.{int_eq}
use Rattle.slices.specs.Pieces.{piece_at}
use Rattle.slices.specs.Stored.{store_at, is_owned}
use Rattle.slices.specs.Holding.{without_row, row_below, row_from}
use Rattle.slices.proofs.Seen.{seen_where, cond-not}
use Rattle.slices.proofs.table.Held.give_cells.Goals as goal

pub returns-clause-kept : goal.returns-clause-kept
returns-clause-kept c =
    let before = store_at c.self.inside.store in
    seen_where c.self.inside.rows c.self.inside.cols before (store_at c.cut_out.new.self) (is_owned c.self.inside.store) _ (λ place. not (int_eq place.0 c.args.row))
    (λ r d h k. c.in_ok-lower.ensures.kept (r * c.self.inside.cols + d)
    ∙ ap (λ b. cond b None (before (r * c.self.inside.cols + d))) (c.row_cut-cut.ensures.row r d h k ∙ ap (int_eq (pos r)) (to_z-of_z c.ranges.row))
    ∙ cond-not (int_eq (pos r) c.args.row) None (before (r * c.self.inside.cols + d)))
    c.in_ok-lower.ensures.owned
    ∙ ap (λ h. without_row h c.args.row) c.self.view_is

pub returns-clause-lower : goal.returns-clause-lower
returns-clause-lower c =
    let before = store_at c.self.inside.store in
    seen_where c.self.inside.rows c.self.inside.cols before (piece_at c.in_ok-lower.lower) (is_owned c.self.inside.store) true (λ place. int_eq place.0 c.args.row && int_lt place.1 c.args.at)
    (λ r d h k. c.in_ok-lower.ensures.lower (r * c.self.inside.cols + d)
    ∙ ap (λ b. cond b (before (r * c.self.inside.cols + d)) None) (c.row_cut-cut.ensures.lower r d h k ∙ (λ j. int_eq (pos r) (to_z-of_z c.ranges.row j) && int_lt (pos d) (to_z-of_z c.ranges.at j))))
    refl
    ∙ ap (λ h. row_below h c.args.row c.args.at) c.self.view_is

pub returns-clause-upper : goal.returns-clause-upper
returns-clause-upper c =
    let before = store_at c.self.inside.store in
    seen_where c.self.inside.rows c.self.inside.cols before (piece_at c.in_ok-lower.upper) (is_owned c.self.inside.store) true (λ place. int_eq place.0 c.args.row && not (int_lt place.1 c.args.at))
    (λ r d h k. c.in_ok-lower.ensures.upper (r * c.self.inside.cols + d)
    ∙ ap (λ b. cond b (before (r * c.self.inside.cols + d)) None) (c.row_cut-cut.ensures.upper r d h k ∙ (λ j. int_eq (pos r) (to_z-of_z c.ranges.row j) && not (int_lt (pos d) (to_z-of_z c.ranges.at j)))))
    refl
    ∙ ap (λ h. row_from h c.args.row c.args.at) c.self.view_is
