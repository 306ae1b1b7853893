-- The least free record.
use Rattle.std.proofs.Common.{◌≡◌, ℕ, zero, suc, ◌+◌, ◌<◌, List, [], ◌∷◌, length, Option, Some}
use Rattle.std.proofs.Common.{None, refl, sym, ap, subst, arith}
use Rattle.std.specs.Prelude.{Bool, true, false, if◌then◌else◌}
use Rattle.tpal_machine.specs.declared.ends.Ending.{Ending}
use Rattle.tpal_machine.specs.RestState.{RestState}
use Rattle.tpal_machine.specs.State.{State}
use Rattle.schedule_core.specs.declared.seats.Cell.{Cell}
use Rattle.schedule_core.specs.declared.seats.Cell.TheVariants as cell
use Rattle.schedule_core.specs.Core as core
use Rattle.schedule_core.specs.Core.{LeastFree}
use Rattle.schedule_core.specs.Effects.{is_free, least_free, least_free_from}
use Rattle.schedule_core.specs.Standing.{Standing, cell_at, cell_of, stands}

-- what is found so many places further on
abbrev Found : List Cell → ℕ → Option ℕ → Type 0
Found xs k None = (j : ℕ) → j < length xs → is_free (cell_at xs j) ≡ false
Found xs k (Some i) = (d : ℕ) × (i ≡ k + d) × (d < length xs) × (is_free (cell_at xs d) ≡ true) × ((j : ℕ) → j < d → is_free (cell_at xs j) ≡ false)

none_more : (x : Cell) (xs : List Cell) → is_free x ≡ false → ((j : ℕ) → j < length xs → is_free (cell_at xs j) ≡ false) → (j : ℕ) → j < length (x ∷ xs) → is_free (cell_at (x ∷ xs) j) ≡ false
none_more x xs f h zero lt = f
none_more x xs f h (suc j) lt = h j (omega (arith, lt))

some_more : (x : Cell) (xs : List Cell) (d : ℕ) → is_free x ≡ false → ((j : ℕ) → j < d → is_free (cell_at xs j) ≡ false) → (j : ℕ) → j < suc d → is_free (cell_at (x ∷ xs) j) ≡ false
some_more x xs d f h zero lt = f
some_more x xs d f h (suc j) lt = h j (omega (arith, lt))

found_more : (x : Cell) (xs : List Cell) (k : ℕ) (o : Option ℕ) → is_free x ≡ false → Found xs (k + 1) o → Found (x ∷ xs) k o
found_more x xs k None f h = none_more x xs f h
found_more x xs k (Some i) f h = (suc h.0, let q = h.1 in omega (arith, q), let l = h.2 in omega (arith, l), h.3, some_more x xs h.0 f h.4)

found_by : (x : Cell) (xs : List Cell) (k : ℕ) (b : Bool) → is_free x ≡ b → Found xs (k + 1) (least_free_from xs (k + 1)) → Found (x ∷ xs) k (if b then Some k else least_free_from xs (k + 1))
found_by x xs k true q h = (0, omega arith, omega arith, q, λ j lt. absurd (omega (arith, lt)))
found_by x xs k false q h = found_more x xs k (least_free_from xs (k + 1)) q h

found : (xs : List Cell) (k : ℕ) → Found xs k (least_free_from xs k)
found [] k = λ j lt. absurd (omega (arith, lt))
found (x ∷ xs) k = found_by x xs k (is_free x) refl (found xs (k + 1))

abbrev sort : core.Cell State RestState Ending → ℕ
sort core.free = 0
sort (core.taken w) = 1
sort (core.opened r c p q) = 2
sort (core.met w r p q) = 3

free_is : (k : ℕ) (x : Cell) → is_free x ≡ true → cell_of k x ≡ core.free
free_is k cell.Free e = refl
free_is k (cell.Taken w) e = absurd (cc)
free_is k (cell.Opened r c p q) e = absurd (cc)
free_is k (cell.Met w r p q) e = absurd (cc)

not_free : (k : ℕ) (x : Cell) → is_free x ≡ false → cell_of k x ≡ core.free → ⊥
not_free k cell.Free e q = absurd (cc)
not_free k (cell.Taken w) e q = let z = ap sort q in omega (arith, z)
not_free k (cell.Opened r c p q1) e q = let z = ap sort q in omega (arith, z)
not_free k (cell.Met w r p q1) e q = let z = ap sort q in omega (arith, z)

least_by : (s : Standing) (o : Option ℕ) → Found s.cells 0 o → LeastFree (length s.cells) (stands s).cells o
least_by s None h = λ j lt. not_free j (cell_at s.cells j) (h j lt)
least_by s (Some k) h =
    let q = h.1 in
    let e : k ≡ h.0 = omega (arith, q) in
    let l = h.2 in
    (omega (arith, e, l), free_is k (cell_at s.cells k) (subst (λ i. is_free (cell_at s.cells i) ≡ true) (sym e) h.3), λ j lt. not_free j (cell_at s.cells j) (h.4 j (omega (arith, lt, e))))

-- the least free record is the core's
pub least_is : (s : Standing) → LeastFree (length s.cells) (stands s).cells (least_free s.cells)
least_is s = least_by s (least_free s.cells) (found s.cells 0)
