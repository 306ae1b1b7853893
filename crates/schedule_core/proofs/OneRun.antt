-- A solo run comes to one end.
use Rattle.std.proofs.Common.{◌≡◌, ℕ, refl}
use Rattle.tp_value.specs.declared.values.Outcome.{Outcome}
use Rattle.tpal_syntax.specs.Listing.{Listing}
use Rattle.schedule_core.specs.declared.lanes.Tally.{Tally}
use Rattle.schedule_core.specs.Solo.{SoloState, Comes, over, on}

pub one_end : (code : Listing) (heartbeat forks n m : ℕ) (stage : SoloState) (outcome other : Outcome)
    (tally later : Tally)
    → Comes code heartbeat forks n stage outcome tally
    → Comes code heartbeat forks m stage other later
    → (outcome ≡ other) × (tally ≡ later)
one_end code heartbeat forks n m stage outcome other tally later (over _ _) (over _ _) =
    (refl, refl)
one_end code heartbeat forks n m stage outcome other tally later (on k lane _ _ comes)
    (on j _ _ _ again) =
    one_end code heartbeat forks k j _ outcome other tally later comes again
