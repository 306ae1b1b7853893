-- What counting a tick comes to.
use Rattle.std.proofs.Common.{◌≡◌, ◌+◌, ℕ, true, false, nat_lt, refl}
use Rattle.loop_meaning.specs.State.{State, done, out_of_fuel, tick}

pub tick_allowed : (fuel : ℕ) (s : State) → nat_lt s.ticks fuel ≡ true → tick fuel s ≡ done (record s { ticks = s.ticks + 1 })
tick_allowed fuel s e = rw e refl

pub tick_refused : (fuel : ℕ) (s : State) → nat_lt s.ticks fuel ≡ false → tick fuel s ≡ out_of_fuel (record s { ticks = fuel + 1 })
tick_refused fuel s e = rw e refl
