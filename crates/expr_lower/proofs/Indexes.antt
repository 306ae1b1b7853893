-- Indexes in and out of the range of a table.
use Rattle.std.proofs.Common.{◌≡◌, ℕ, Bool, true, false, cond, refl, leb-true, leb-false, lt-ltb}
use Rattle.std.proofs.Common.{le-ltb, arith}
use Rattle.std.specs.Prelude.{ℤ, pos, negsuc, ◌&&◌, int_lt, int_le, nat_lt}
use Rattle.std.specs.Int.{int_min}
use Rattle.loop_meaning.specs.State.{is_below}

pub and_false : (a : Bool) → (a && false) ≡ false
and_false true = refl
and_false false = refl

-- ---- below 0

lesser_of_positions : (a b rows cols : ℕ) (less : Bool) → int_lt (cond less (pos b) (pos a)) (pos 0) ≡ true → (is_below (pos a) rows && is_below (pos b) cols) ≡ false
lesser_of_positions a b rows cols true h = cc (le-ltb b 0 (omega arith))
lesser_of_positions a b rows cols false h = cc (le-ltb a 0 (omega arith))

-- where the lesser index is below 0, one of the two is out of range
pub lesser_below : (i j : ℤ) (rows cols : ℕ) → int_lt (int_min i j) (pos 0) ≡ true → (is_below i rows && is_below j cols) ≡ false
lesser_below (negsuc a) j rows cols is = refl
lesser_below (pos a) (negsuc b) rows cols is = and_false (nat_lt a rows)
lesser_below (pos a) (pos b) rows cols is = lesser_of_positions a b rows cols (nat_lt b a) is

-- an index that is at least 0
abbrev pub IsPosition : ℤ → Type 0
IsPosition i = (n : ℕ) × (i ≡ pos n)

lesser_of_negatives : (a b : ℕ) (less : Bool) → int_lt (cond less (negsuc b) (negsuc a)) (pos 0) ≡ false → IsPosition (negsuc a) × IsPosition (negsuc b)
lesser_of_negatives a b true h = cc
lesser_of_negatives a b false h = cc

-- where it isn't, both are at least 0
pub both_positions : (i j : ℤ) → int_lt (int_min i j) (pos 0) ≡ false → IsPosition i × IsPosition j
both_positions (pos a) (pos b) is_not = ((a, refl), (b, refl))
both_positions (pos a) (negsuc b) is_not = cc
both_positions (negsuc a) (pos b) is_not = cc
both_positions (negsuc a) (negsuc b) is_not = lesser_of_negatives a b (nat_lt a b) is_not

-- ---- against a size

pub not_below_size : (i : ℤ) (n : ℕ) → int_le (pos n) i ≡ true → is_below i n ≡ false
not_below_size (pos a) n is = le-ltb a n (leb-true n a is)
not_below_size (negsuc a) n is = refl

pub below_size : (i : ℤ) (n : ℕ) → IsPosition i → int_le (pos n) i ≡ false → is_below i n ≡ true
below_size (pos a) n at is_not = lt-ltb a n (omega (arith, leb-false n a is_not))
below_size (negsuc a) n (k, same) is_not = cc
