-- The first break is found from the traces of the least assignment.
use Rattle.std.proofs.Common.{◌≡◌, List, Option, ap, ◌∙◌, Bool}
use Rattle.tpal_syntax.specs.Listing.{Listing}
use Rattle.tpal_verify.specs.declared.trace.Trace.{Trace}
use Rattle.tpal_verify.specs.Flat.{Ground, ground_of}
use Rattle.tpal_verify.specs.Rounds.{all_joins, traces, least}
use Rattle.tpal_verify.specs.Breaks.{listed, lists_agree, first_from, break_by, first_break}

pub first_is : (code : Listing) (whole : Ground) (agree : Bool) (ts : List (Option Trace)) → whole ≡ ground_of code → ts ≡ traces whole (least whole)
    → agree ≡ lists_agree (all_joins ts) (listed whole.blocks) → first_from whole agree 0 whole.blocks ts ≡ first_break code
first_is code whole agree ts g t a =
    ap (λ b. first_from whole b 0 whole.blocks ts) a
    ∙ (ap (λ us. first_from whole (lists_agree (all_joins us) (listed whole.blocks)) 0 whole.blocks us) t
    ∙ ap (λ w. break_by w (least w)) g)
