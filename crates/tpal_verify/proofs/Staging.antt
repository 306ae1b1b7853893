-- What staging a shape and putting it in place keep.
use Rattle.std.proofs.Common.{◌≡◌, ◌≢◌, ℕ, zero, suc, ◌+◌, ◌<◌, ◌≤◌, List, [], ◌∷◌, ◌++◌, Some, None, refl, sym, ap, subst, ◌∙◌, length, map, slice_index_or, slice_set, Bool, true, false, ◌||◌, ◌==◌, replicate, arith}
use Rattle.std.proofs.lemmas.Bool.{false≢true}
use Rattle.std.proofs.lemmas.List.{map-set, get_or-set_other, set_past, replicate-append-replicate}
use Rattle.std.proofs.Math.Seq.{map-set_same}
use Rattle.tpal_verify.specs.declared.board.Slot.{Slot}
use Rattle.tpal_verify.specs.Shapes.{Shape}
use Rattle.tpal_verify.specs.Rounds.{Shapes, shape_at, with_shape, with_flow, holds_shape, holds}
use Rattle.tpal_verify.specs.Board.{Board, next_in, placed, with_staged, empty_slot, begun, is_in, is_some, staged_or, staged_at, AreNoted, AreSameBut}
use Rattle.tpal_verify.proofs.Kept.{flow_kept}

abbrev nexts : List Slot → Shapes
nexts xs = map next_in xs

abbrev standing : List Slot → Shapes
standing xs = map (λ s. s.shape) xs

abbrev slot_at : List Slot → ℕ → Slot
slot_at xs l = slice_index_or xs l empty_slot

-- ---- slots and shapes

pub set_twice : (xs : List Slot) (i : ℕ) (a b : Slot) → slice_set (slice_set xs i a) i b ≡ slice_set xs i b
set_twice [] i a b = refl
set_twice (x ∷ xs) zero a b = refl
set_twice (x ∷ xs) (suc i) a b = ap (λ ys. x ∷ ys) (set_twice xs i a b)

pub read_at : (xs : List Slot) (i : ℕ) (x : Slot) → i < length xs → x ≡ slice_index_or xs i x → x ≡ slot_at xs i
read_at [] i x b q = absurd (omega (arith, b))
read_at (y ∷ xs) zero x b q = q
read_at (y ∷ xs) (suc i) x b q = read_at xs i x (omega (arith, b)) q

pub next_at : (xs : List Slot) (l : ℕ) → shape_at (nexts xs) l ≡ next_in (slot_at xs l)
next_at [] l = refl
next_at (x ∷ xs) zero = refl
next_at (x ∷ xs) (suc l) = next_at xs l

pub standing_at : (xs : List Slot) (l : ℕ) → shape_at (standing xs) l ≡ (slot_at xs l).shape
standing_at [] l = refl
standing_at (x ∷ xs) zero = refl
standing_at (x ∷ xs) (suc l) = standing_at xs l

-- ---- staging

pub flowed_next : (xs : List Slot) (l : ℕ) (next s : Shape) → Some next ≡ with_shape (next_in (slot_at xs l)) s → nexts (slice_set xs l (with_staged (slot_at xs l) next)) ≡ with_flow (nexts xs) (l, s)
flowed_next xs l next s q =
    map-set next_in xs l (with_staged (slot_at xs l) next) ∙ ap (λ x. slice_set (nexts xs) l x) (q ∙ ap (λ x. with_shape x s) (sym (next_at xs l)))

pub staged_standing : (xs : List Slot) (l : ℕ) (next : Shape) → standing (slice_set xs l (with_staged (slot_at xs l) next)) ≡ standing xs
staged_standing xs l next = map-set_same (λ x. x.shape) xs l (with_staged (slot_at xs l) next) empty_slot refl

is_other : (l at : ℕ) → at == l ≡ false → l ≢ at
is_other l at q = grind (arith, q)

staged_other : (xs : List Slot) (at l : ℕ) (x : Slot) → at == l ≡ false → staged_at (slice_set xs at x) l ≡ staged_at xs l
staged_other xs at l x q = ap (λ s. s.staged) (get_or-set_other xs at l x empty_slot (is_other l at q))

pub noted_more : (xs : List Slot) (labels : List ℕ) (at : ℕ) (x : Slot) → AreNoted xs labels → AreNoted (slice_set xs at x) (labels ++ at ∷ [])
noted_more xs labels at x h l q = staged_other xs at l x (last labels q) ∙ h l (firsts labels q)
  where
    last : (ls : List ℕ) → is_in (ls ++ at ∷ []) l ≡ false → at == l ≡ false
    last [] p = grind (arith, p)
    last (y ∷ ls) p = last ls (grind (arith, p))

    firsts : (ls : List ℕ) → is_in (ls ++ at ∷ []) l ≡ false → is_in ls l ≡ false
    firsts [] p = refl
    firsts (y ∷ ls) p = let h = firsts ls (grind (arith, p)) in grind (arith, p, h)

pub noted_again : (xs : List Slot) (labels : List ℕ) (at : ℕ) (x : Slot) → is_some (staged_at xs at) ≡ true → AreNoted xs labels → AreNoted (slice_set xs at x) labels
noted_again xs labels at x s h l q = by (at == l) refl
  where
    by : (b : Bool) → at == l ≡ b → staged_at (slice_set xs at x) l ≡ None
    by false p = staged_other xs at l x p ∙ h l q
    by true p = let e : at ≡ l = grind (arith, p) in absurd (false≢true (ap is_some (sym (h l q)) ∙ subst (λ k. is_some (staged_at xs k) ≡ true) e s))

-- ---- putting in place

pub placed_next : (xs : List Slot) (l : ℕ) → nexts (slice_set xs l (placed (slot_at xs l))) ≡ nexts xs
placed_next xs l = map-set_same next_in xs l (placed (slot_at xs l)) empty_slot refl

placed_at : (xs : List Slot) (l : ℕ) (x : Slot) → x.staged ≡ None → staged_at (slice_set xs l x) l ≡ None
placed_at [] l x q = refl
placed_at (y ∷ xs) zero x q = q
placed_at (y ∷ xs) (suc l) x q = placed_at xs l x q

pub noted_less : (xs : List Slot) (labels : List ℕ) (at : ℕ) → AreNoted xs (at ∷ labels) → AreNoted (slice_set xs at (placed (slot_at xs at))) labels
noted_less xs labels at h l q = by (at == l) refl
  where
    by : (b : Bool) → at == l ≡ b → staged_at (slice_set xs at (placed (slot_at xs at))) l ≡ None
    by false p = staged_other xs at l (placed (slot_at xs at)) p ∙ h l (ap (λ b. b || is_in labels l) p ∙ q)
    by true p = let e : at ≡ l = grind (arith, p) in subst (λ k. staged_at (slice_set xs at (placed (slot_at xs at))) k ≡ None) e (placed_at xs at (placed (slot_at xs at)) refl)

by_staged : (s : Slot) → s.staged ≡ None → next_in s ≡ s.shape
by_staged s q = ap (λ x. staged_or x s.shape) q

pub all_placed : (xs : List Slot) → AreNoted xs [] → standing xs ≡ nexts xs
all_placed [] h = refl
all_placed (x ∷ xs) h = ap (λ y. y ∷ standing xs) (sym (by_staged x (h 0 refl))) ∙ ap (λ ys. next_in x ∷ ys) (all_placed xs (λ l q. h (suc l) refl))

pub same_but : (xs : List Slot) (labels : List ℕ) → AreNoted xs labels → AreSameBut labels (nexts xs) (standing xs)
same_but xs labels h l q = next_at xs l ∙ (by_staged (slot_at xs l) (h l q) ∙ sym (standing_at xs l))

-- ---- what is held or no block's changes nothing

pub held_next : (xs : List Slot) (l : ℕ) (s : Shape) → l < length xs → holds_shape (next_in (slot_at xs l)) s ≡ true → nexts xs ≡ with_flow (nexts xs) (l, s)
held_next xs l s b q = sym (flow_kept (nexts xs) (l, s) (by xs l b q))
  where
    by : (ys : List Slot) (k : ℕ) → k < length ys → holds_shape (next_in (slot_at ys k)) s ≡ true → holds (nexts ys) (k, s) ≡ true
    by [] k p r = grind (arith, p)
    by (y ∷ ys) zero p r = r
    by (y ∷ ys) (suc k) p r = by ys k (omega (arith, p)) r

pub past_next : (xs : Shapes) (l : ℕ) (s : Shape) → length xs ≤ l → xs ≡ with_flow xs (l, s)
past_next xs l s b = sym (set_past xs l (with_shape (shape_at xs l) s) b)

-- ---- after all is put in place

pub all_in_place : (xs : List Slot) (rest : List ℕ) → length rest ≡ 0 → AreNoted xs rest → standing xs ≡ nexts xs
all_in_place xs [] q h = all_placed xs h
all_in_place xs (l ∷ rest) q h = absurd (omega (arith, q))

pub settled_same : (before : List Slot) (changed result : List ℕ) (board : Board) (after : Shapes) → AreNoted before changed → result ≡ changed
    → board ≡ record { now = standing before; next = nexts before; changed = changed } → after ≡ board.next → AreSameBut result after board.now
settled_same before changed result board after n r v q l i =
    ap (λ xs. shape_at xs l) (q ∙ ap (λ x. x.next) v)
    ∙ (same_but before changed n l (ap (λ ls. is_in ls l) (sym r) ∙ i) ∙ ap (λ x. shape_at x.now l) (sym v))

-- ---- the first shapes

map_empty : {X : Type 0} (f : Slot → X) (n : ℕ) → map f (replicate n empty_slot) ≡ replicate n (f empty_slot)
map_empty f zero = refl
map_empty f (suc n) = ap (λ xs. f empty_slot ∷ xs) (map_empty f n)

pub begun_standing : (n : ℕ) (s : Shape) → standing (slice_set (replicate n empty_slot) 0 (begun s)) ≡ slice_set (replicate n None) 0 (Some s)
begun_standing n s = map-set (λ x. x.shape) (replicate n empty_slot) 0 (begun s) ∙ ap (λ xs. slice_set xs 0 (Some s)) (map_empty (λ x. x.shape) n)

pub begun_next : (n : ℕ) (s : Shape) → nexts (slice_set (replicate n empty_slot) 0 (begun s)) ≡ slice_set (replicate n None) 0 (Some s)
begun_next n s = map-set next_in (replicate n empty_slot) 0 (begun s) ∙ ap (λ xs. slice_set xs 0 (Some s)) (map_empty next_in n)

empty_at : (n l : ℕ) → staged_at (replicate n empty_slot) l ≡ None
empty_at zero l = refl
empty_at (suc n) zero = refl
empty_at (suc n) (suc l) = empty_at n l

pub begun_noted : (n : ℕ) (s : Shape) → AreNoted (slice_set (replicate n empty_slot) 0 (begun s)) []
begun_noted zero s l q = refl
begun_noted (suc n) s zero q = refl
begun_noted (suc n) s (suc l) q = empty_at n l

pub one_more_slot : (n : ℕ) → replicate n empty_slot ++ empty_slot ∷ [] ≡ replicate (n + 1) empty_slot
one_more_slot n = replicate-append-replicate n 1 empty_slot
