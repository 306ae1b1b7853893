-- Instructions counted one at a time, and many at once.
use Rattle.std.proofs.Common.{◌≡◌, ℕ, zero, suc, ◌+◌, ◌-◌, ◌<◌, ◌≤◌, ◌^◌, Bool, true, false, not}
use Rattle.std.proofs.Common.{◌&&◌, if◌then◌else◌, nat_le, ap, subst, sym, refl, ◌∙◌, arith}
use Rattle.std.proofs.lemmas.Bool.Decides.{nat_tests}
use Rattle.std.specs.Prelude.{min}
use Rattle.beat_count.specs.BeatState.{BeatState}
use Rattle.beat_count.specs.Counting.{counted_times}
use Rattle.beat_count.specs.Heartbeat.{counted, is_diverted, IsCalm}

-- counting so many times is counting them at once, up to the type's end
pub counted_times_is : (n : ℕ) (b : BeatState) → b.count ≤ 2 ^ 64 - 1 → counted_times n b ≡ record b { count = min (b.count + n) (2 ^ 64 - 1) }
unfolding counted_times
counted_times_is zero b low = let same : b.count ≡ min (b.count + 0) (2 ^ 64 - 1) = omega (arith, low) in ap (λ (c : ℕ). record b { count = c }) same
counted_times_is (suc n) b low =
    let more : min (min (b.count + n) (2 ^ 64 - 1) + 1) (2 ^ 64 - 1) ≡ min (b.count + suc n) (2 ^ 64 - 1) = omega (arith, low) in
    ap counted (counted_times_is n b low) ∙ ap (λ (c : ℕ). record b { count = c }) more

-- ---- entries that do nothing

-- a beat that isn't quiet and isn't diverted
calm_at : (heartbeat : ℕ) (marked allowed : Bool) (b : BeatState) → b.quiet ≡ false
    → (nat_le heartbeat b.count && (marked && allowed)) ≡ false → IsCalm heartbeat marked allowed b
calm_at heartbeat marked allowed b speaks early =
    let due : Bool = nat_le heartbeat b.count && (marked && allowed) in
    let goes : is_diverted heartbeat marked allowed b ≡ false =
    ap (λ (q : Bool). not q && due) speaks ∙ early in
    let diverted : BeatState = record { count = 0; quiet = true; granted = true } in
    let after : Bool → BeatState = λ d. if d then diverted else b in
    record {
      stays = ap (λ (q : Bool). if q then record b { quiet = false }
          else after (is_diverted heartbeat marked allowed b)) speaks ∙ ap after goes;
      goes = goes;
    }

never : (a : Bool) → (a && false) ≡ false
never true = refl
never false = refl

not_yet : (a b : ℕ) → b < a → nat_le a b ≡ false
not_yet a b below = grind (arith, nat_tests, below)

-- while the heartbeat isn't due
pub calm_before : (n heartbeat : ℕ) (marked allowed : Bool) (b : BeatState)
    → b.count ≤ 2 ^ 64 - 1 → b.quiet ≡ false → n < heartbeat - b.count
    → IsCalm heartbeat marked allowed (counted_times n b)
calm_before n heartbeat marked allowed b low speaks soon =
    let count : ℕ = min (b.count + n) (2 ^ 64 - 1) in
    let below : count < heartbeat = omega (arith, soon) in
    subst (λ (c : BeatState). IsCalm heartbeat marked allowed c) (sym (counted_times_is n b low))
    (calm_at heartbeat marked allowed (record b { count = count }) speaks
    (ap (λ (t : Bool). t && (marked && allowed)) (not_yet heartbeat count below)))

by_then : (a b : ℕ) → a ≤ b → nat_le a b ≡ true
by_then a b reached = grind (arith, nat_tests, reached)

-- once the heartbeat is due
pub due_then : (n heartbeat : ℕ) (marked allowed : Bool) (b : BeatState)
    → b.count ≤ 2 ^ 64 - 1 → heartbeat ≤ 2 ^ 64 - 1 → b.quiet ≡ false → (marked && allowed) ≡ true
    → n ≡ heartbeat - b.count
    → is_diverted heartbeat marked allowed (counted_times n b) ≡ true
due_then n heartbeat marked allowed b low some speaks can left =
    let count : ℕ = min (b.count + n) (2 ^ 64 - 1) in
    let reached : heartbeat ≤ count = omega (arith, low, some, left) in
    subst (λ (c : BeatState). is_diverted heartbeat marked allowed c ≡ true)
    (sym (counted_times_is n b low))
    (ap (λ (q : Bool). not q && (nat_le heartbeat count && (marked && allowed))) speaks
    ∙ ap (λ (t : Bool). t && (marked && allowed)) (by_then heartbeat count reached)
    ∙ can)

-- counting makes no beat quiet, nor ends that
still_speaks : (n : ℕ) (b : BeatState) → (counted_times n b).quiet ≡ b.quiet
unfolding counted_times
still_speaks zero b = refl
still_speaks (suc n) b = still_speaks n b

-- where no heartbeat diverts
pub calm_always : (n heartbeat : ℕ) (marked allowed : Bool) (b : BeatState)
    → b.quiet ≡ false → (marked && allowed) ≡ false
    → IsCalm heartbeat marked allowed (counted_times n b)
calm_always n heartbeat marked allowed b speaks none =
    let due : Bool = nat_le heartbeat (counted_times n b).count in
    calm_at heartbeat marked allowed (counted_times n b) (still_speaks n b ∙ speaks)
    (ap (λ (t : Bool). due && t) none ∙ never due)
