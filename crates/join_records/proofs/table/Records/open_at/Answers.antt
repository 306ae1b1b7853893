use Rattle.std.proofs.Common.{◌≡◌, ◌∙◌, ℕ, ◌+◌, ◌<◌, sym, ap, subst, Some, ◌^◌}
use Rattle.std.specs.Coded.{Coded-set}
use mathlib.Core.Logic.{∥∥₁_elim}
use Rattle.join_records.specs.declared.views.Grip.TheVariants.{Filling}
use Rattle.tpal_machine.specs.declared.ends.End.TheVariants.{At}
use Rattle.tpal_machine.specs.declared.ends.SideName.TheVariants.{Left}
use Rattle.join_records.specs.declared.views.CallState.TheVariants.{Steady}
use Rattle.join_records.specs.Views.{in_hand, NoneMet, opened_view, one_opened, with_ends}
use Rattle.join_records.specs.Views.{with_hand, read, holds_end}
use Rattle.join_records.proofs.Functions.{dropped_twice}
use Rattle.join_records.proofs.Calls.{filled_here, filled_none_met}
use Rattle.join_records.proofs.table.Records.open_at.Goals as goal

pub invariant_of-owed : goal.invariant_of-owed
invariant_of-owed g c = let fits = c.requires.merges in
    record { promise = (fits.0, (∣ fits.3 ∣₁, λ b t. ∥∥₁_elim t (Coded-set g.row.L-Ending.coded fits.0 b) (λ o. g.L.Load.child_owes_one c.args.left.now fits.0 b fits.3 o))) }

pub open_filled-requires-clause-hand : goal.open_filled-requires-clause-hand
open_filled-requires-clause-hand g c κs within = let seen = c.place.ensures.seen in let v = c.args.pass.now.seat.me.0 in let k : ℕ = c.args.taken.number in
    subst (λ w. (in_hand w.hand k ≡ Some Filling) × NoneMet w × (w.opens < 2 ^ 32)) (sym seen.1) (filled_here v k seen.0, filled_none_met v k seen.0 c.requires.none_met, c.requires.opens)

pub returns-clause-opened : goal.returns-clause-opened
returns-clause-opened g c = let fits = c.requires.merges in let seen = c.place.ensures.seen in let v = c.args.pass.now.seat.me.0 in let k : ℕ = c.args.taken.number in (
  fits.0,
  fits.3,
  (
    seen.0,
    c.open_filled.ensures.seen fits.0 fits.3 ∙ (ap (λ w. opened_view w k fits.0) seen.1
        ∙ ap (λ h. one_opened (with_ends (with_hand (read (read v (k + 1) seen.0) (k + 1) 1) h) (holds_end (At k Left) fits.0 Steady))) (dropped_twice k Filling v.hand)),
  ),
)
