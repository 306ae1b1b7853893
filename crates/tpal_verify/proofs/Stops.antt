-- What holds where a side is done, and how two sides stop together.
use Rattle.std.proofs.Common.{◌≡◌, ℕ, ◌+◌, ◌≤◌, refl, arith}
use Rattle.std.proofs.lemmas.Bool.{leb-true}
use Rattle.std.specs.Prelude.{Bool, true, false, nat_le, if◌then◌else◌}
use Rattle.beat_count.specs.Joining.{joined_stop, joined_ticks}
use Rattle.tp_value.specs.declared.values.Stop.{Stop}
use Rattle.tp_value.specs.declared.values.Stop.TheVariants as stop
use Rattle.tpal_machine.specs.Merge.{WhereDone}
use Rattle.tpal_verify.specs.Fits.{IsUnleft}

abbrev pub IsDone : Stop → Type 0
IsDone stop.Done = Unit {0}
IsDone (stop.Left number) = ⊥
IsDone (stop.Trap kind place) = ⊥
IsDone stop.NoFuel = ⊥

pub where_done : (x : Stop) (P : Type 0) → IsDone x → WhereDone x P → P
where_done stop.Done P d w = w
where_done (stop.Left number) P d w = absurd d
where_done (stop.Trap kind place) P d w = absurd d
where_done stop.NoFuel P d w = absurd d

pub where_not : (x : Stop) (P : Type 0) → (IsDone x → ⊥) → WhereDone x P
where_not stop.Done P n = absurd (n tt)
where_not (stop.Left number) P n = tt
where_not (stop.Trap kind place) P n = tt
where_not stop.NoFuel P n = tt

pub where_all : (x : Stop) (P Q : Type 0) → (P → Q) → WhereDone x P → WhereDone x Q
where_all stop.Done P Q f w = f w
where_all (stop.Left number) P Q f w = tt
where_all (stop.Trap kind place) P Q f w = tt
where_all stop.NoFuel P Q f w = tt

-- two halves are done together where each is done
pub both_done : (a : Stop) (m : ℕ) (b : Stop) (n limit : ℕ) → IsDone (joined_stop a m b n limit) → IsDone a × IsDone b
both_done stop.Done m b n limit d = (tt, by (nat_le (m + n) limit) d)
  where
    by : (t : Bool) → IsDone (if t then b else stop.NoFuel) → IsDone b
    by true d = d
    by false d = absurd d
both_done (stop.Left number) m b n limit d = absurd d
both_done (stop.Trap kind place) m b n limit d = absurd d
both_done stop.NoFuel m b n limit d = absurd d

-- and aren't left where neither is
pub both_unleft : (a : Stop) (m : ℕ) (b : Stop) (n limit : ℕ) → IsUnleft a → IsUnleft b → IsUnleft (joined_stop a m b n limit)
both_unleft stop.Done m b n limit p q = by (nat_le (m + n) limit)
  where
    by : (t : Bool) → IsUnleft (if t then b else stop.NoFuel)
    by true = q
    by false = tt
both_unleft (stop.Left number) m b n limit p q = absurd p
both_unleft (stop.Trap kind place) m b n limit p q = tt
both_unleft stop.NoFuel m b n limit p q = tt

-- and count one tick above the limit at most
pub few_ticks : (a : Stop) (m : ℕ) (b : Stop) (n limit : ℕ) → m ≤ limit + 1 → joined_ticks a m b n limit ≤ limit + 1
few_ticks stop.Done m b n limit le = by (nat_le (m + n) limit) refl
  where
    by : (t : Bool) → nat_le (m + n) limit ≡ t → (if t then m + n else limit + 1) ≤ limit + 1
    by true q = let z = leb-true (m + n) limit q in omega (arith, z)
    by false q = omega arith
few_ticks (stop.Left number) m b n limit le = le
few_ticks (stop.Trap kind place) m b n limit le = le
few_ticks stop.NoFuel m b n limit le = le
