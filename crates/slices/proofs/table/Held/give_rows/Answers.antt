use Rattle.std.proofs.Common.{◌≡◌, ◌<◌, ◌*◌, ◌+◌, ◌∙◌, ap, sym, subst, refl, true, cond, not, None}
use Rattle.std.proofs.Common.{to_z-of_z}
use Rattle.std.specs.Prelude.{pos, int_lt}
use Rattle.slices.specs.Pieces.{piece_at}
use Rattle.slices.specs.Stored.{store_at, is_owned}
use Rattle.slices.specs.Holding.{rows_below, rows_from}
use Rattle.slices.proofs.Maps.{inside_size}
use Rattle.slices.proofs.Seen.{seen_where, row_test, row_test_from}
use Rattle.slices.proofs.table.Held.give_rows.Goals as goal

pub returns-clause-kept : goal.returns-clause-kept
returns-clause-kept c =
    let before = store_at c.self.inside.store in
    seen_where c.self.inside.rows c.self.inside.cols before (store_at c.split.new.self) (is_owned c.self.inside.store) _ (λ place. int_lt place.0 c.args.at)
    (λ r d h k. c.in_ok-upper.ensures.kept (r * c.self.inside.cols + d)
    ∙ ap (λ b. cond b (before (r * c.self.inside.cols + d)) None) (row_test c.self.inside.cols r d c.clamped.result k ∙ c.clamped.ensures.below r h ∙ ap (int_lt (pos r)) (to_z-of_z c.ranges.at)))
    c.in_ok-upper.ensures.owned
    ∙ ap (λ h. rows_below h c.args.at) c.self.view_is

pub returns-clause-given : goal.returns-clause-given
returns-clause-given c =
    let before = store_at c.self.inside.store in
    let end : c.end-end.result ≡ c.self.inside.rows * c.self.inside.cols = rw (← c.self.view_is) at c.end-end.ensures in
    seen_where c.self.inside.rows c.self.inside.cols before (piece_at c.in_ok-upper.upper) (is_owned c.self.inside.store) true (λ place. not (int_lt place.0 c.args.at))
    (λ r d h k. c.in_ok-upper.ensures.given (r * c.self.inside.cols + d)
    ∙ row_test_from c.self.inside.cols r d c.clamped.result c.end-end.result (before (r * c.self.inside.cols + d)) k (subst (λ n. r * c.self.inside.cols + d < n) (sym end) (inside_size c.self.inside.rows c.self.inside.cols r d h k))
    ∙ ap (λ b. cond (not b) (before (r * c.self.inside.cols + d)) None) (c.clamped.ensures.below r h ∙ ap (int_lt (pos r)) (to_z-of_z c.ranges.at)))
    refl
    ∙ ap (λ h. rows_from h c.args.at) c.self.view_is
