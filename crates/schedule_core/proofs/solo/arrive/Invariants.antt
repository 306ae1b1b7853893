use Rattle.std.proofs.Common.{◌≡◌, length, reverse}
use Rattle.schedule_core.specs.declared.lanes.Tally.{Tally}
use Rattle.schedule_core.specs.Lanes.{CanArrive}
use Rattle.schedule_core.specs.Solo.{arrived_at}
use Rattle.schedule_core.proofs.solo.arrive.Given as goal

-- the side that is at hand comes to what the first one comes to
abbrev pub invariant-loop-last : goal.invariant-loop-last
invariant-loop-last l = record {
  arrives : CanArrive l.code (reverse l.opened.items) l.out;
  same : (tally : Tally) → arrived_at (reverse l.fn.opened.items) l.code tally l.fn.out ≡ arrived_at (reverse l.opened.items) l.code tally l.out;
}

abbrev pub decreases-loop-last : goal.decreases-loop-last
decreases-loop-last l = length l.opened.items
