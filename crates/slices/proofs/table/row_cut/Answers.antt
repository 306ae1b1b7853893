use Rattle.std.proofs.Common.{◌≡◌, ◌∙◌, ap, sym, arith, to_z-of_z, not}
use Rattle.std.specs.Prelude.{pos, nat_lt, int_lt, ◌&&◌}
use Rattle.std.specs.Ordering.{int_eq}
use Rattle.slices.proofs.Seen.{row_stretch, lower_stretch, upper_stretch, int_eq-pos}
use Rattle.slices.proofs.table.row_cut.Goals as goal

module _ (c : goal.After-clamped) where
  the_row : pos c.magnitude.result ≡ c.args.row
  the_row = c.magnitude.ensures ∙ to_z-of_z c.ranges.row

pub returns-clause-order : goal.returns-clause-order
returns-clause-order c = (omega arith, omega (arith, c.clamped.ensures.within))

pub returns-clause-row : goal.returns-clause-row
returns-clause-row c = λ r d h k. row_stretch c.args.cols r d c.magnitude.result k ∙ sym (int_eq-pos r c.magnitude.result) ∙ ap (λ z. int_eq (pos r) z) (the_row c)

pub returns-clause-lower : goal.returns-clause-lower
returns-clause-lower c = λ r d h k. lower_stretch c.args.cols r d c.magnitude.result c.clamped.result k c.clamped.ensures.within ∙ ap (λ b. b && nat_lt d c.clamped.result) (sym (int_eq-pos r c.magnitude.result)) ∙ ap (λ z. int_eq (pos r) z && nat_lt d c.clamped.result) (the_row c) ∙ ap (λ b. int_eq (pos r) c.args.row && b) (c.clamped.ensures.below d k ∙ ap (int_lt (pos d)) (to_z-of_z c.ranges.at))

pub returns-clause-upper : goal.returns-clause-upper
returns-clause-upper c = λ r d h k. upper_stretch c.args.cols r d c.magnitude.result c.clamped.result k ∙ ap (λ b. b && not (nat_lt d c.clamped.result)) (sym (int_eq-pos r c.magnitude.result)) ∙ ap (λ z. int_eq (pos r) z && not (nat_lt d c.clamped.result)) (the_row c) ∙ ap (λ b. int_eq (pos r) c.args.row && not b) (c.clamped.ensures.below d k ∙ ap (int_lt (pos d)) (to_z-of_z c.ranges.at))
