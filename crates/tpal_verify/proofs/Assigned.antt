-- Assignments of shapes in their order, and rounds below an assignment that holds what flows.
use Rattle.std.proofs.Common.{◌≡◌, ℕ, zero, suc, List, [], ◌∷◌, Option, Some, None, refl, ap, ◌∙◌, length, ◌+◌, arith}
use Rattle.std.proofs.Math.ListN.{length-set, length-replicate}
use Rattle.std.proofs.lemmas.Bool.{false≢true}
use Rattle.std.specs.Prelude.{Bool, true, false, map, replicate, slice_set, slice_get, slice_index_or}
use Rattle.tpal_syntax.specs.declared.blocks.Block.{Block}
use Rattle.tpal_verify.specs.Shapes.{Shape, joined, first_shape}
use Rattle.tpal_verify.specs.Flat.{Ground}
use Rattle.tpal_verify.specs.Walk.{Flow, block_walk}
use Rattle.tpal_verify.specs.Rounds.{Shapes, walks_from, walks, all_flows, trace_of, all_forks, traces, all_joins, comb_flows, flows_of, with_shape, with_flow, with_flows, round, holds_shape, holds_at, holds, holds_all, or_later, settled, start}
use Rattle.tpal_verify.proofs.Order.{and_left, and_right, and_both}
use Rattle.tpal_verify.proofs.ShapeOrder.{Below, shape_of, is_shape_below, below_same, trans, join_left, join_right, join_least}
use Rattle.tpal_verify.proofs.Proper.{Proper, proper_first, proper_joined, EachProper, proper_append, block_proper, comb_flows_proper}

-- ---- the order

abbrev pub ShapeBelow : Option Shape → Option Shape → Type 0
ShapeBelow None y = Unit {0}
ShapeBelow (Some s) None = ⊥
ShapeBelow (Some s) (Some t) = Below s t

-- one assignment is below another, block by block
abbrev pub AllBelow : Shapes → Shapes → Type 0
AllBelow [] [] = Unit {0}
AllBelow [] (b ∷ bs) = ⊥
AllBelow (a ∷ xs) [] = ⊥
AllBelow (a ∷ xs) (b ∷ bs) = ShapeBelow a b × AllBelow xs bs

abbrev pub ShapeProper : ℕ → Option Shape → Type 0
ShapeProper n None = Unit {0}
ShapeProper n (Some s) = Proper n s

abbrev pub AllProper : ℕ → Shapes → Type 0
AllProper n [] = Unit {0}
AllProper n (a ∷ xs) = ShapeProper n a × AllProper n xs

shape_same : (a : Option Shape) → ShapeBelow a a
shape_same None = tt
shape_same (Some s) = below_same s

pub all_same : (xs : Shapes) → AllBelow xs xs
all_same [] = tt
all_same (a ∷ xs) = (shape_same a, all_same xs)

shape_trans : (a b c : Option Shape) → ShapeBelow a b → ShapeBelow b c → ShapeBelow a c
shape_trans None b c x y = tt
shape_trans (Some s) None c x y = absurd x
shape_trans (Some s) (Some t) None x y = absurd y
shape_trans (Some s) (Some t) (Some u) x y = trans s t u x y

pub all_trans : (xs ys zs : Shapes) → AllBelow xs ys → AllBelow ys zs → AllBelow xs zs
all_trans [] [] zs x y = y
all_trans [] (b ∷ ys) zs x y = absurd x
all_trans (a ∷ xs) [] zs x y = absurd x
all_trans (a ∷ xs) (b ∷ ys) [] x y = absurd y
all_trans (a ∷ xs) (b ∷ ys) (c ∷ zs) x y = (shape_trans a b c x.0 y.0, all_trans xs ys zs x.1 y.1)

pub all_length : (xs ys : Shapes) → AllBelow xs ys → length xs ≡ length ys
all_length [] [] w = refl
all_length [] (b ∷ ys) w = absurd w
all_length (a ∷ xs) [] w = absurd w
all_length (a ∷ xs) (b ∷ ys) w = ap suc (all_length xs ys w.1)

-- ---- what is held stays held above

holds_shape_above : (a b : Option Shape) (s : Shape) → ShapeBelow a b → holds_shape a s ≡ true → holds_shape b s ≡ true
holds_shape_above None b s w q = absurd (false≢true q)
holds_shape_above (Some t) None s w q = absurd w
holds_shape_above (Some t) (Some u) s w q = is_shape_below s u (trans s t u (shape_of s t q) w)

holds_at_above : (xs ys : Shapes) (l : ℕ) (s : Shape) → AllBelow xs ys → holds_at (slice_get xs l) s ≡ true → holds_at (slice_get ys l) s ≡ true
holds_at_above [] [] l s w q = refl
holds_at_above [] (b ∷ ys) l s w q = absurd w
holds_at_above (a ∷ xs) [] l s w q = absurd w
holds_at_above (a ∷ xs) (b ∷ ys) zero s w q = holds_shape_above a b s w.0 q
holds_at_above (a ∷ xs) (b ∷ ys) (suc l) s w q = holds_at_above xs ys l s w.1 q

pub holds_above : (xs ys : Shapes) (f : Flow) → AllBelow xs ys → holds xs f ≡ true → holds ys f ≡ true
holds_above xs ys f w q = holds_at_above xs ys f.0 f.1 w q

pub all_held_above : (xs ys : Shapes) (fs : List Flow) → AllBelow xs ys → holds_all xs fs ≡ true → holds_all ys fs ≡ true
all_held_above xs ys [] w q = refl
all_held_above xs ys (f ∷ fs) w q =
    and_both (holds ys f) (holds_all ys fs) (holds_above xs ys f w (and_left (holds xs f) (holds_all xs fs) q)) (all_held_above xs ys fs w (and_right (holds xs f) (holds_all xs fs) q))

-- ---- one flow more

abbrev pub set_at : Shapes → ℕ → Shape → Shapes
set_at xs l s = slice_set xs l (with_shape (slice_index_or xs l None) s)

with_below : (a b : Option Shape) (s : Shape) → ShapeBelow a b → holds_shape b s ≡ true → ShapeBelow (with_shape a s) b
with_below a None s w q = absurd (false≢true q)
with_below None (Some t) s w q = shape_of s t q
with_below (Some u) (Some t) s w q = join_least u s t w (shape_of s t q)

set_below : (xs ys : Shapes) (l : ℕ) (s : Shape) → AllBelow xs ys → holds_at (slice_get ys l) s ≡ true → AllBelow (set_at xs l s) ys
set_below [] ys l s w q = w
set_below (a ∷ xs) [] l s w q = absurd w
set_below (a ∷ xs) (b ∷ ys) zero s w q = (with_below a b s w.0 q, w.1)
set_below (a ∷ xs) (b ∷ ys) (suc l) s w q = (w.0, set_below xs ys l s w.1 q)

with_grows : (a : Option Shape) (s : Shape) → ShapeBelow a (with_shape a s)
with_grows None s = tt
with_grows (Some t) s = join_left t s

set_grows : (xs : Shapes) (l : ℕ) (s : Shape) → AllBelow xs (set_at xs l s)
set_grows [] l s = tt
set_grows (a ∷ xs) zero s = (with_grows a s, all_same xs)
set_grows (a ∷ xs) (suc l) s = (shape_same a, set_grows xs l s)

with_holds : (a : Option Shape) (s : Shape) → holds_shape (with_shape a s) s ≡ true
with_holds None s = is_shape_below s s (below_same s)
with_holds (Some t) s = is_shape_below s (joined t s) (join_right t s)

set_holds : (xs : Shapes) (l : ℕ) (s : Shape) → holds_at (slice_get (set_at xs l s) l) s ≡ true
set_holds [] l s = refl
set_holds (a ∷ xs) zero s = with_holds a s
set_holds (a ∷ xs) (suc l) s = set_holds xs l s

with_proper : (n : ℕ) (a : Option Shape) (s : Shape) → ShapeProper n a → Proper n s → ShapeProper n (with_shape a s)
with_proper n None s v w = w
with_proper n (Some t) s v w = proper_joined n t s v w

set_proper : (n : ℕ) (xs : Shapes) (l : ℕ) (s : Shape) → AllProper n xs → Proper n s → AllProper n (set_at xs l s)
set_proper n [] l s v w = tt
set_proper n (a ∷ xs) zero s v w = (with_proper n a s v.0 w, v.1)
set_proper n (a ∷ xs) (suc l) s v w = (v.0, set_proper n xs l s v.1 w)

-- ---- all flows

pub flows_below : (xs ys : Shapes) (fs : List Flow) → AllBelow xs ys → holds_all ys fs ≡ true → AllBelow (with_flows xs fs) ys
flows_below xs ys [] w q = w
flows_below xs ys (f ∷ fs) w q =
    flows_below (with_flow xs f) ys fs (set_below xs ys f.0 f.1 w (and_left (holds ys f) (holds_all ys fs) q)) (and_right (holds ys f) (holds_all ys fs) q)

pub flows_grow : (xs : Shapes) (fs : List Flow) → AllBelow xs (with_flows xs fs)
flows_grow xs [] = all_same xs
flows_grow xs (f ∷ fs) = all_trans xs (with_flow xs f) (with_flows (with_flow xs f) fs) (set_grows xs f.0 f.1) (flows_grow (with_flow xs f) fs)

pub flows_held : (xs : Shapes) (fs : List Flow) → holds_all (with_flows xs fs) fs ≡ true
flows_held xs [] = refl
flows_held xs (f ∷ fs) =
    and_both (holds (with_flows (with_flow xs f) fs) f) (holds_all (with_flows (with_flow xs f) fs) fs)
    (holds_above (with_flow xs f) (with_flows (with_flow xs f) fs) f (flows_grow (with_flow xs f) fs) (set_holds xs f.0 f.1)) (flows_held (with_flow xs f) fs)

pub flows_proper : (n : ℕ) (xs : Shapes) (fs : List Flow) → AllProper n xs → EachProper n fs → AllProper n (with_flows xs fs)
flows_proper n xs [] v w = v
flows_proper n xs (f ∷ fs) v w = flows_proper n (with_flow xs f) fs (set_proper n xs f.0 f.1 v w.0) w.1

-- ---- what flows by a proper assignment is proper

module _ (n : ℕ) (whole : Ground) where
  walks_proper : (l : ℕ) (blocks : List Block) (xs : Shapes) → AllProper n xs → EachProper n (all_flows (walks_from whole l blocks xs)) × EachProper n (all_forks (map trace_of (walks_from whole l blocks xs)))
  walks_proper l [] xs v = (tt, tt)
  walks_proper l (b ∷ bs) [] v = (tt, tt)
  walks_proper l (b ∷ bs) (None ∷ xs) v = walks_proper (l + 1) bs xs v.1
  walks_proper l (b ∷ bs) (Some s ∷ xs) v =
      let w = block_proper n whole l b s v.0 in
      let z = walks_proper (l + 1) bs xs v.1 in (
        proper_append n (block_walk whole l b s).flows (all_flows (walks_from whole (l + 1) bs xs)) w.flows z.0,
        proper_append n (block_walk whole l b s).trace.forks (all_forks (map trace_of (walks_from whole (l + 1) bs xs))) w.forks z.1,
      )

  pub all_flows_proper : (xs : Shapes) → AllProper n xs → EachProper n (flows_of whole xs)
  all_flows_proper xs v =
      let z = walks_proper 0 whole.blocks xs v in
      proper_append n (all_flows (walks whole xs)) (comb_flows whole (all_joins (traces whole xs)) (all_forks (traces whole xs))) z.0 (comb_flows_proper n whole (all_joins (traces whole xs)) (all_forks (traces whole xs)) z.1)

  pub round_proper : (xs : Shapes) → AllProper n xs → AllProper n (round whole xs)
  round_proper xs v = flows_proper n xs (flows_of whole xs) v (all_flows_proper xs v)

  none_proper : (k : ℕ) → AllProper n (replicate k None)
  none_proper zero = tt
  none_proper (suc k) = (tt, none_proper k)

  set_first : (xs : Shapes) (s : Shape) → AllProper n xs → Proper n s → AllProper n (slice_set xs 0 (Some s))
  set_first [] s v w = tt
  set_first (a ∷ xs) s v w = (w, v.1)

pub start_proper : (whole : Ground) → AllProper whole.cells (start whole)
start_proper whole = set_first whole.cells whole (replicate (length whole.blocks) None) (first_shape whole.cells) (none_proper whole.cells whole (length whole.blocks)) (proper_first whole.cells)

-- ---- the start

none_below : (ys : Shapes) (k : ℕ) → length ys ≡ k → AllBelow (replicate k None) ys
none_below [] zero q = tt
none_below [] (suc k) q = absurd (omega (arith, q))
none_below (b ∷ ys) zero q = absurd (omega (arith, q))
none_below (b ∷ ys) (suc k) q = (tt, none_below ys k (less (length ys) k q))
  where
    less : (a c : ℕ) → suc a ≡ suc c → a ≡ c
    less a c z = omega (arith, z)

first_below : (xs ys : Shapes) (s : Shape) → AllBelow xs ys → holds_at (slice_get ys 0) s ≡ true → AllBelow (slice_set xs 0 (Some s)) ys
first_below [] ys s w q = w
first_below (a ∷ xs) [] s w q = absurd w
first_below (a ∷ xs) (None ∷ ys) s w q = absurd (false≢true q)
first_below (a ∷ xs) (Some t ∷ ys) s w q = (shape_of s t q, w.1)

pub start_below : (whole : Ground) (ys : Shapes) → length ys ≡ length whole.blocks → holds ys (0, first_shape whole.cells) ≡ true → AllBelow (start whole) ys
start_below whole ys e q = first_below (replicate (length whole.blocks) None) ys (first_shape whole.cells) (none_below ys (length whole.blocks) e) q

first_held : (xs : Shapes) (s : Shape) → holds_at (slice_get (slice_set xs 0 (Some s)) 0) s ≡ true
first_held [] s = refl
first_held (a ∷ xs) s = is_shape_below s s (below_same s)

pub start_holds : (whole : Ground) → holds (start whole) (0, first_shape whole.cells) ≡ true
start_holds whole = first_held (replicate (length whole.blocks) None) (first_shape whole.cells)

pub start_length : (whole : Ground) → length (start whole) ≡ length whole.blocks
start_length whole = length-set (replicate (length whole.blocks) None) 0 (Some (first_shape whole.cells)) ∙ length-replicate (length whole.blocks) None

-- ---- rounds

later_grows : (whole : Ground) (b : Bool) (xs : Shapes) (later : Unit {0} → Shapes) → AllBelow xs (later tt) → AllBelow xs (or_later b xs later)
later_grows whole true xs later w = all_same xs
later_grows whole false xs later w = w

pub settled_grows : (k : ℕ) (whole : Ground) (xs : Shapes) → AllBelow xs (settled k whole xs)
unfolding settled
settled_grows zero whole xs = all_same xs
settled_grows (suc k) whole xs =
    later_grows whole (holds_all xs (flows_of whole xs)) xs (λ _. settled k whole (round whole xs))
    (all_trans xs (round whole xs) (settled k whole (round whole xs)) (flows_grow xs (flows_of whole xs)) (settled_grows k whole (round whole xs)))

later_proper : (n : ℕ) (b : Bool) (xs : Shapes) (later : Unit {0} → Shapes) → AllProper n xs → AllProper n (later tt) → AllProper n (or_later b xs later)
later_proper n true xs later v w = v
later_proper n false xs later v w = w

pub settled_proper : (k n : ℕ) (whole : Ground) (xs : Shapes) → AllProper n xs → AllProper n (settled k whole xs)
unfolding settled
settled_proper zero n whole xs v = v
settled_proper (suc k) n whole xs v =
    later_proper n (holds_all xs (flows_of whole xs)) xs (λ _. settled k whole (round whole xs)) v (settled_proper k n whole (round whole xs) (round_proper n whole xs v))

later_below : (b : Bool) (xs ys : Shapes) (later : Unit {0} → Shapes) → AllBelow xs ys → AllBelow (later tt) ys → AllBelow (or_later b xs later) ys
later_below true xs ys later v w = v
later_below false xs ys later v w = w

-- Where what flows from below an assignment is held by it, rounds stay below.
pub settled_below : (k n : ℕ) (whole : Ground) (ys : Shapes) → ((xs : Shapes) → AllBelow xs ys → AllProper n xs → holds_all ys (flows_of whole xs) ≡ true)
    → (xs : Shapes) → AllBelow xs ys → AllProper n xs → AllBelow (settled k whole xs) ys
unfolding settled
settled_below zero n whole ys held xs w v = w
settled_below (suc k) n whole ys held xs w v =
    later_below (holds_all xs (flows_of whole xs)) xs ys (λ _. settled k whole (round whole xs)) w
    (settled_below k n whole ys held (round whole xs) (flows_below xs ys (flows_of whole xs) w (held xs w v)) (round_proper n whole xs v))
