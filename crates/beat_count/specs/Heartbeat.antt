-- How a beat goes on.
use Rattle.std.specs.Prelude.{◌≡◌, ℕ, ◌+◌, ◌-◌, ◌^◌, min, Bool, true, false, not, ◌&&◌, nat_le}
use Rattle.std.specs.Prelude.{if◌then◌else◌}
use Rattle.beat_count.specs.BeatState.{BeatState}

-- a beat that has counted nothing
abbrev pub no_beat : BeatState
no_beat = record { count = 0; quiet = false; granted = false }

-- one instruction more; the count stays at its type's end
abbrev pub counted : BeatState → BeatState
counted beat = record beat { count = min (beat.count + 1) (2 ^ 64 - 1) }

-- whether control that enters a promotion-ready block is diverted
abbrev pub is_diverted : ℕ → Bool → Bool → BeatState → Bool
is_diverted heartbeat marked allowed beat =
    not beat.quiet && (nat_le heartbeat beat.count && (marked && allowed))

-- the beat after such an entry: a quiet one speaks again, a diversion is granted a fork, and else
-- nothing changes
abbrev pub entered : ℕ → Bool → Bool → BeatState → BeatState
entered heartbeat marked allowed beat =
    if beat.quiet then record beat { quiet = false }
    else (if is_diverted heartbeat marked allowed beat
    then record { count = 0; quiet = true; granted = true } else beat)

-- the beat once its grant is used
abbrev pub taken : BeatState → BeatState
taken beat = record beat { granted = false }

-- an entry of a promotion-ready block changes nothing, and control isn't diverted
pub record IsCalm (heartbeat : ℕ) (marked allowed : Bool) (beat : BeatState) : Type 0 where
  pub stays : entered heartbeat marked allowed beat ≡ beat
  pub goes : is_diverted heartbeat marked allowed beat ≡ false
