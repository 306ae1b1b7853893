-- Lists of marks whose positions rise.
use Rattle.std.proofs.Common.{◌≡◌, ℕ, zero, suc, ◌+◌, ◌-◌, ◌<◌, ◌≤◌, inl, inr, Bool, true, false}
use Rattle.std.proofs.Common.{cond, not, List, [], ◌∷◌, ◌++◌, length, drop, get_or, refl, sym, ◌∙◌}
use Rattle.std.proofs.Common.{ap, subst, arith}
use Rattle.std.proofs.lemmas.Bool.{cases_lt, lt-leb, le-leb, lt-ltb, le-ltb, false≢true}
use Rattle.std.specs.Ordering.{int_eq, is_eq}
use Rattle.std.specs.declared.cmp.Ordering.TheVariants.{Less, Equal, Greater}
use Rattle.std.specs.Cmp.{int_eq_equiv}
use Rattle.tpal_syntax.specs.declared.words.Word.{Word}
use Rattle.std.specs.List.{remove}
use Rattle.std.specs.Prelude.{ℤ, pos, nat_le, nat_lt, filter, slice_get, Option, None, Some, IsSome}
use Rattle.std.specs.Prelude.{is_some}
use Rattle.stack_marks.specs.declared.mark.Mark.{Mark}
use Rattle.stack_marks.specs.Stacks.{InOrder, StackValue, word_at}

pub widen : (low low' high high' : ℕ) (ms : List Mark) → low' ≤ low → high ≤ high' → InOrder low high ms → InOrder low' high' ms
widen low low' high high' [] h k o = tt
widen low low' high high' (m ∷ ms) h k o = (omega (arith, h, o.0), omega (arith, k, o.1), widen (suc m.at) (suc m.at) high high' ms (omega arith) k o.2)

-- all below a position that none reaches
pub narrow : (low high x : ℕ) (ms : List Mark) → InOrder low high ms → ((k : ℕ) (d : Mark) → k < length ms → (get_or ms k d).at < x) → InOrder low x ms
narrow low high x [] o f = tt
narrow low high x (m ∷ ms) o f = (o.0, f zero m (omega arith), narrow (suc m.at) high x ms o.2 (λ k d h. f (suc k) d (omega (arith, h))))

pub from_low : (low high : ℕ) (ms : List Mark) → InOrder low high ms → (k : ℕ) (d : Mark) → k < length ms → (low ≤ (get_or ms k d).at) × ((get_or ms k d).at < high)
from_low low high [] o k d h = absurd (omega (arith, h))
from_low low high (m ∷ ms) o zero d h = (o.0, o.1)
from_low low high (m ∷ ms) o (suc k) d h = let r = from_low (suc m.at) high ms o.2 k d (omega (arith, h)) in (omega (arith, r.0, o.0), r.1)

-- an earlier mark is lower
pub rises : (low high : ℕ) (ms : List Mark) → InOrder low high ms → (i j : ℕ) (d e : Mark) → i < j → j < length ms → (get_or ms i d).at < (get_or ms j e).at
rises low high [] o i j d e h k = absurd (omega (arith, k))
rises low high (m ∷ ms) o i zero d e h k = absurd (omega (arith, h))
rises low high (m ∷ ms) o zero (suc j) d e h k = let r = from_low (suc m.at) high ms o.2 j e (omega (arith, k)) in omega (arith, r.0)
rises low high (m ∷ ms) o (suc i) (suc j) d e h k = rises (suc m.at) high ms o.2 i j d e (omega (arith, h)) (omega (arith, k))

pub one_more : (low high : ℕ) (ms : List Mark) (a : Mark) → InOrder low high ms → ((k : ℕ) (d : Mark) → k < length ms → (get_or ms k d).at < a.at) → low ≤ a.at → a.at < high → InOrder low high (ms ++ a ∷ [])
one_more low high [] a o f h k = (h, k, tt)
one_more low high (m ∷ ms) a o f h k = (o.0, o.1, one_more (suc m.at) high ms a o.2 (λ i d q. f (suc i) d (omega (arith, q))) (let r = f zero m (omega arith) in omega (arith, r)) k)

pub without_first : (low high : ℕ) (ms : List Mark) → InOrder low high ms → InOrder low high (drop 1 ms)
without_first low high [] o = tt
without_first low high (m ∷ ms) o = widen (suc m.at) low high high ms (omega (arith, o.0)) (omega arith) o.2

-- some of the marks
pub some_kept : (keeps : Mark → Bool) (low high : ℕ) (ms : List Mark) → InOrder low high ms → InOrder low high (filter keeps ms)
some_kept keeps low high [] o = tt
some_kept keeps low high (m ∷ ms) o = go (some_kept keeps (suc m.at) high ms o.2) (keeps m)
  where
    go : InOrder (suc m.at) high (filter keeps ms) → (b : Bool) → InOrder low high (cond b (m ∷ filter keeps ms) (filter keeps ms))
    go r true = (o.0, o.1, r)
    go r false = widen (suc m.at) low high high (filter keeps ms) (omega (arith, o.0)) (omega arith) r

-- those from a position on
pub from_position : (low high x : ℕ) (ms : List Mark) → InOrder low high ms → InOrder x high (filter (λ m. nat_le x m.at) ms)
from_position low high x [] o = tt
from_position low high x (m ∷ ms) o =
    elim (cases_lt m.at x) [
      | inl h ↦ subst (λ b. InOrder x high (cond b (m ∷ filter (λ z. nat_le x z.at) ms) (filter (λ z. nat_le x z.at) ms))) (sym (lt-leb x m.at h)) (from_position (suc m.at) high x ms o.2)
      | inr h ↦ subst (λ b. InOrder x high (cond b (m ∷ filter (λ z. nat_le x z.at) ms) (filter (λ z. nat_le x z.at) ms))) (sym (le-leb x m.at h)) (h, o.1, kept (suc m.at) ms (omega (arith, h)) o.2)
    ]
  where
    kept : (y : ℕ) (ys : List Mark) → x ≤ y → InOrder y high ys → InOrder y high (filter (λ z. nat_le x z.at) ys)
    kept y [] q p = tt
    kept y (z ∷ zs) q p = subst (λ b. InOrder y high (cond b (z ∷ filter (λ w. nat_le x w.at) zs) (filter (λ w. nat_le x w.at) zs))) (sym (le-leb x z.at (omega (arith, q, p.0)))) (p.0, p.1, kept (suc z.at) zs (omega (arith, q, p.0)) p.2)

apart : (a b : ℕ) → (a ≡ b → ⊥) → int_eq (pos a) (pos b) ≡ false
apart a b n =
    elim (cases_lt a b) [
      | inl h ↦ ap (λ t. is_eq (cond t Less (cond (nat_lt b a) Greater Equal))) (lt-ltb a b h)
      | inr h ↦ ap (λ t. is_eq (cond t Less (cond (nat_lt b a) Greater Equal))) (le-ltb a b h) ∙ ap (λ t. is_eq (cond t Greater Equal)) (lt-ltb b a (above h))
    ]
  where
    above : b ≤ a → b < a
    above h = elim (cases_lt b a) [ inl q ↦ q | inr q ↦ absurd (n (omega (arith, h, q))) ]

all_kept : (low high p : ℕ) (ms : List Mark) → InOrder low high ms → p < low → filter (λ m. not (int_eq (pos m.at) (pos p))) ms ≡ ms
all_kept low high p [] o h = refl
all_kept low high p (m ∷ ms) o h =
    ap (λ b. cond (not b) (m ∷ filter (λ z. not (int_eq (pos z.at) (pos p))) ms) (filter (λ z. not (int_eq (pos z.at) (pos p))) ms)) (apart m.at p (λ e. omega (arith, e, h, o.0)))
    ∙ ap (λ ys. m ∷ ys) (all_kept (suc m.at) high p ms o.2 (omega (arith, h, o.0)))

-- the one mark at a position taken away
pub removed_is_filtered : (low high p : ℕ) (ms : List Mark) (k : ℕ) → InOrder low high ms → k < length ms → ((d : Mark) → (get_or ms k d).at ≡ p) → remove ms k ≡ filter (λ m. not (int_eq (pos m.at) (pos p))) ms
removed_is_filtered low high p [] k o h f = absurd (omega (arith, h))
removed_is_filtered low high p (m ∷ ms) zero o h f =
    let same : m.at ≡ p = f m in
    sym (ap (λ b. cond (not b) (m ∷ filter (λ z. not (int_eq (pos z.at) (pos p))) ms) (filter (λ z. not (int_eq (pos z.at) (pos p))) ms)) (ap (λ z. int_eq (pos z) (pos p)) same ∙ int_eq_equiv.refl (pos p)) ∙ all_kept (suc m.at) high p ms o.2 (omega (arith, same)))
removed_is_filtered low high p (m ∷ ms) (suc k) o h f =
    let later : m.at < p = let r = from_low (suc m.at) high ms o.2 k m (omega (arith, h)) in omega (arith, r.0, f m) in
    ap (λ ys. m ∷ ys) (removed_is_filtered (suc m.at) high p ms k o.2 (omega (arith, h)) f)
    ∙ sym (ap (λ b. cond (not b) (m ∷ filter (λ z. not (int_eq (pos z.at) (pos p))) ms) (filter (λ z. not (int_eq (pos z.at) (pos p))) ms)) (apart m.at p (λ e. omega (arith, later, e))))

pub word_some : (s : StackValue) (index : ℕ) (at : ℤ) → at ≡ pos (s.base + index) → index < length s.cells → IsSome (word_at s at)
word_some s index at e h =
    let inside : nat_le s.base (s.base + index) ≡ true = le-leb s.base (s.base + index) (omega arith) in
    let there : slice_get s.cells (s.base + index - s.base) ≡ slice_get s.cells index = ap (slice_get s.cells) (omega arith) in
    subst (λ z. IsSome (word_at s z)) (sym e) (subst IsSome (sym (ap (λ b. cond b (slice_get s.cells (s.base + index - s.base)) None) inside ∙ there)) (some_at s.cells index h))
  where
    some_at : (ws : List Word) (i : ℕ) → i < length ws → IsSome (slice_get ws i)
    some_at [] i q = absurd (omega (arith, q))
    some_at (w ∷ ws) zero q = refl
    some_at (w ∷ ws) (suc i) q = some_at ws i (omega (arith, q))

pub get_or_self : (ms : List Mark) (k : ℕ) (d : Mark) → k < length ms → get_or ms k (get_or ms k d) ≡ get_or ms k d
get_or_self [] k d h = absurd (omega (arith, h))
get_or_self (m ∷ ms) zero d h = refl
get_or_self (m ∷ ms) (suc k) d h = get_or_self ms k d (omega (arith, h))

pub get_or_any : (ys : List Mark) (n : ℕ) (a b : Mark) → n < length ys → get_or ys n a ≡ get_or ys n b
get_or_any [] n a b q = absurd (omega (arith, q))
get_or_any (y ∷ ys) zero a b q = refl
get_or_any (y ∷ ys) (suc n) a b q = get_or_any ys n a b (omega (arith, q))

-- all from a position on that the first is at or above
all_from : (low high x : ℕ) (ms : List Mark) → InOrder low high ms → x ≤ low → filter (λ m. nat_le x m.at) ms ≡ ms
all_from low high x [] o h = refl
all_from low high x (m ∷ ms) o h =
    ap (λ b. cond b (m ∷ filter (λ z. nat_le x z.at) ms) (filter (λ z. nat_le x z.at) ms)) (le-leb x m.at (omega (arith, h, o.0)))
    ∙ ap (λ ys. m ∷ ys) (all_from (suc m.at) high x ms o.2 (omega (arith, h, o.0)))

abbrev at_of : Option Mark → ℕ
at_of None = 0
at_of (Some m) = m.at

-- the first mark, and the list without it
pub first_from : (low high x : ℕ) (ms : List Mark) (m : Mark) → InOrder low high ms → slice_get ms 0 ≡ Some m → x ≤ m.at → filter (λ z. nat_le x z.at) ms ≡ ms
first_from low high x [] m o e h = refl
first_from low high x (first ∷ rest) m o e h = all_from first.at high x (first ∷ rest) (omega arith, o.1, o.2) (let same : first.at ≡ m.at = ap at_of e in omega (arith, h, same))

pub first_gone : (low high : ℕ) (ms : List Mark) (m : Mark) → InOrder low high ms → slice_get ms 0 ≡ Some m → filter (λ z. not (int_eq (pos z.at) (pos m.at))) ms ≡ drop 1 ms
first_gone low high [] m o e = refl
first_gone low high (first ∷ rest) m o e = sym (removed_is_filtered low high m.at (first ∷ rest) 0 o (omega arith) (λ _. ap at_of e))

pub below_gone : (low high x : ℕ) (ms : List Mark) (m : Mark) → InOrder low high ms → slice_get ms 0 ≡ Some m → m.at < x → filter (λ z. nat_le x z.at) (drop 1 ms) ≡ filter (λ z. nat_le x z.at) ms
below_gone low high x [] m o e h = refl
below_gone low high x (first ∷ rest) m o e h = sym (ap (λ b. cond b (first ∷ filter (λ z. nat_le x z.at) rest) (filter (λ z. nat_le x z.at) rest)) (lt-leb x first.at (let same : first.at ≡ m.at = ap at_of e in omega (arith, h, same))))

pub shorter : (ms : List Mark) (m : Mark) → slice_get ms 0 ≡ Some m → length (drop 1 ms) < length ms
shorter [] m e = absurd (false≢true (ap is_some e))
shorter (first ∷ rest) m e = omega arith

pub no_first : (ms : List Mark) → slice_get ms 0 ≡ None → ms ≡ []
no_first [] e = refl
no_first (first ∷ rest) e = absurd (false≢true (sym (ap is_some e)))
