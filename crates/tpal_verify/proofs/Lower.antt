-- A walk that breaks nothing and lets all flow into an assignment does so from each proper shape
-- below.
use Rattle.std.proofs.Common.{◌≡◌, ℕ, List, [], ◌∷◌, ◌++◌, Option, Some, None, refl, sym, subst, ◌∙◌, ◌+◌}
use Rattle.std.proofs.lemmas.Bool.{false≢true}
use Rattle.std.specs.Prelude.{Bool, true, false, not, ◌&&◌, ◌||◌, ◌==◌, if◌then◌else◌, slice_get, slice_index_or}
use Rattle.std.specs.List.{list_all}
use Rattle.tpal_syntax.specs.declared.blocks.Block.{Block}
use Rattle.tpal_syntax.specs.declared.instructions.Value.{Value}
use Rattle.tpal_syntax.specs.declared.instructions.Value.TheVariants.{Reg, Int, Label, Nil}
use Rattle.tpal_syntax.specs.declared.instructions.Instr.{Instr}
use Rattle.tpal_syntax.specs.declared.instructions.Instr.TheVariants.{Move, Calc, IfJump, Load, Store, Salloc, Sfree, PrmPush, PrmPop, PrmDrop, PrmEmpty, PrmSplit, JrAlloc, Fork, Fetch, Put, Rows, Cols, Make, Tick, Trap, Print, Emit}
use Rattle.tpal_syntax.specs.declared.instructions.Term.{Term}
use Rattle.tpal_syntax.specs.declared.instructions.Term.TheVariants.{Jump, Halt, Join, Leave}
use Rattle.tpal_syntax.specs.declared.notes.CarryAt.{CarryAt}
use Rattle.tpal_syntax.specs.declared.notes.CarryAt.TheVariants as carry
use Rattle.tpal_syntax.specs.declared.notes.Note.{Note}
use Rattle.tpal_syntax.specs.declared.notes.Note.TheVariants as note
use Rattle.tpal_verify.specs.declared.kinds.Kind.{Kind}
use Rattle.tpal_verify.specs.declared.kinds.Kind.TheVariants.{Number, Empty, Own, Up, Pend, Met, Back, Any}
use Rattle.tpal_verify.specs.declared.kinds.EndFact.{EndFact}
use Rattle.tpal_verify.specs.declared.kinds.EndFact.TheVariants.{Root, Side, Either}
use Rattle.tpal_verify.specs.declared.kinds.MarkFact.TheVariants.{Marked, Clear}
use Rattle.tpal_verify.specs.declared.phases.Phase.{Phase}
use Rattle.tpal_verify.specs.declared.phases.Phase.TheVariants.{Calm, Compared, Asked, Tested, Given}
use Rattle.tpal_verify.specs.Kinds.{is_root, is_side, kind_eq, end_below, met_below}
use Rattle.tpal_verify.specs.Shapes.{Shape, kind_at, cell_at, with_kind, with_cell, with_mark, handler_shape, root_shape, side_shape, child_shape, behind_shape}
use Rattle.tpal_verify.specs.Flat.{Ground, is_inner, is_flat}
use Rattle.tpal_verify.specs.Rules.{note_at, carries_of, label_kind, value_kind, compares, is_number_at, cuts_by_numbers, fork_cuts, has_numbers, marks_rightly, asks_rightly, may_fork, broken_rule}
use Rattle.tpal_verify.specs.Walk.{Flow, Going, goes, both_ways, jumps_only, nowhere, up_branch, branch, if_jump, fork_under, going, after_other, after_calc, Walked, only_flows, breaks, is_ready_for, back_flows, jump_back, join_met, join_own, join_of, end_walk, with_going, walk_on, unless_broken, walk, note_flows, block_walk}
use Rattle.tpal_verify.specs.Rounds.{Shapes, holds, holds_at, holds_all}
use Rattle.tpal_verify.proofs.Order.{and_left, and_right, and_both, if_is, KindBelow, same, to_any, own_up, nil_up, KindsBelow, end_side, end_root, mark_marked, mark_clear, grant_granted, met_some}
use Rattle.tpal_verify.proofs.ShapeOrder.{Below, shape_of, is_shape_below, trans, kind_at_below, cell_at_below, in_list, kind_below_set, cell_below_set, mark_below_set, handler_below, left_below, child_below, behind_below, root_below, side_below, root_above, side_above, root_under, side_under}
use Rattle.tpal_verify.proofs.Proper.{Proper, OnProper, going_proper, kind_proper}

pub some_none : {X Y : Type 0} (x : X) → Some x ≡ None → Y
some_none x q = cc

-- ---- kinds that the rules ask for

number_is : (k : Kind) → kind_eq k Number ≡ true → k ≡ Number
number_is Number q = refl
number_is Empty q = absurd (false≢true q)
number_is Own q = absurd (false≢true q)
number_is Up q = absurd (false≢true q)
number_is Pend q = absurd (false≢true q)
number_is Met q = absurd (false≢true q)
number_is (Back h) q = absurd (false≢true q)
number_is Any q = absurd (false≢true q)

pend_is : (k : Kind) → kind_eq k Pend ≡ true → k ≡ Pend
pend_is Pend q = refl
pend_is Number q = absurd (false≢true q)
pend_is Empty q = absurd (false≢true q)
pend_is Own q = absurd (false≢true q)
pend_is Up q = absurd (false≢true q)
pend_is Met q = absurd (false≢true q)
pend_is (Back h) q = absurd (false≢true q)
pend_is Any q = absurd (false≢true q)

-- below a kind that is neither Up nor Any stands that kind alone
abbrev IsLow : Kind → Type 0
IsLow Up = ⊥
IsLow Any = ⊥
IsLow _ = Unit {0}

low_is : (e : EndFact) (a b : Kind) → IsLow b → KindBelow e a b → a ≡ b
low_is e _ _ l (same k) = refl
low_is e _ _ l (to_any k) = absurd l
low_is e _ _ l own_up = absurd l
low_is e _ _ l (nil_up q) = absurd l

pub low_below : (e : EndFact) (a b k : Kind) → IsLow k → KindBelow e a b → b ≡ k → a ≡ k
low_below e a b k l w q = low_is e a k l (subst (λ x. KindBelow e a x) q w)

number_below : (e : EndFact) (a b : Kind) → KindBelow e a b → kind_eq b Number ≡ true → kind_eq a Number ≡ true
number_below e a b w q = subst (λ x. kind_eq x Number ≡ true) (sym (low_below e a b Number tt w (number_is b q))) refl

pend_below : (e : EndFact) (a b : Kind) → KindBelow e a b → kind_eq b Pend ≡ true → kind_eq a Pend ≡ true
pend_below e a b w q = subst (λ x. kind_eq x Pend ≡ true) (sym (low_below e a b Pend tt w (pend_is b q))) refl

-- ---- flows into an assignment

pub all_left : (A : Shapes) (fs gs : List Flow) → holds_all A (fs ++ gs) ≡ true → holds_all A fs ≡ true
all_left A [] gs q = refl
all_left A (f ∷ fs) gs q = and_both (holds A f) (holds_all A fs) (and_left (holds A f) (holds_all A (fs ++ gs)) q) (all_left A fs gs (and_right (holds A f) (holds_all A (fs ++ gs)) q))

pub all_right : (A : Shapes) (fs gs : List Flow) → holds_all A (fs ++ gs) ≡ true → holds_all A gs ≡ true
all_right A [] gs q = q
all_right A (f ∷ fs) gs q = all_right A fs gs (and_right (holds A f) (holds_all A (fs ++ gs)) q)

pub all_both : (A : Shapes) (fs gs : List Flow) → holds_all A fs ≡ true → holds_all A gs ≡ true → holds_all A (fs ++ gs) ≡ true
all_both A [] gs p q = q
all_both A (f ∷ fs) gs p q = and_both (holds A f) (holds_all A (fs ++ gs)) (and_left (holds A f) (holds_all A fs) p) (all_both A fs gs (and_right (holds A f) (holds_all A fs) p) q)

holds_below : (o : Option (Option Shape)) (s t : Shape) → Below s t → holds_at o t ≡ true → holds_at o s ≡ true
holds_below None s t w q = refl
holds_below (Some None) s t w q = q
holds_below (Some (Some u)) s t w q = is_shape_below s u (trans s t u w (shape_of t u q))

pub into_below : (A : Shapes) (l : ℕ) (s t : Shape) → Below s t → holds A (l, t) ≡ true → holds A (l, s) ≡ true
into_below A l s t w q = holds_below (slice_get A l) s t w q

one_below : (A : Shapes) (l : ℕ) (s t : Shape) → Below s t → holds_all A ((l, t) ∷ []) ≡ true → holds_all A ((l, s) ∷ []) ≡ true
one_below A l s t w q = and_both (holds A (l, s)) true (into_below A l s t w (and_left (holds A (l, t)) true q)) refl

-- ---- an instruction

-- as many forks, under the same targets, with shapes below
abbrev pub SameForks : List Flow → List Flow → Type 0
SameForks [] [] = Unit {0}
SameForks [] (g ∷ gs) = ⊥
SameForks (f ∷ fs) [] = ⊥
SameForks (f ∷ fs) (g ∷ gs) = (f.0 ≡ g.0) × Below f.1 g.1 × SameForks fs gs

abbrev pub OnBelow : Option (Phase × Shape) → Option (Phase × Shape) → Type 0
OnBelow None y = Unit {0}
OnBelow (Some x) None = ⊥
OnBelow (Some x) (Some y) = (x.0 ≡ y.0) × Below x.1 y.1

abbrev pub JoinBelow : Option (List Kind) → Option (List Kind) → Type 0
JoinBelow None y = Unit {0}
JoinBelow (Some xs) None = ⊥
JoinBelow (Some xs) (Some ys) = (e : EndFact) × KindsBelow e xs ys

-- forks as the upper walk's first ones
abbrev pub ForksBelow : List Flow → List Flow → Type 0
ForksBelow [] gs = Unit {0}
ForksBelow (f ∷ fs) [] = ⊥
ForksBelow (f ∷ fs) (g ∷ gs) = (f.0 ≡ g.0) × Below f.1 g.1 × ForksBelow fs gs

record GoingBelow (A : Shapes) (x y : Going) : Type 0 where
  flows : holds_all A x.flows ≡ true
  forks : SameForks x.forks y.forks
  on : OnBelow x.on y.on

module _ (A : Shapes) where
  goes_below : (p : Phase) (s t : Shape) → Below s t → GoingBelow A (goes p s) (goes p t)
  goes_below p s t w = record { flows = refl; forks = tt; on = (refl, w) }

  both_below : (l : ℕ) (s t : Shape) (p : Phase) (u v : Shape) → Below s t → Below u v → holds_all A ((l, t) ∷ []) ≡ true → GoingBelow A (both_ways l s p u) (both_ways l t p v)
  both_below l s t p u v w x q = record { flows = one_below A l s t w q; forks = tt; on = (refl, x) }

  only_below : (l : ℕ) (s t : Shape) → Below s t → holds_all A ((l, t) ∷ []) ≡ true → GoingBelow A (jumps_only l s) (jumps_only l t)
  only_below l s t w q = record { flows = one_below A l s t w q; forks = tt; on = tt }

  -- one way of the upper's two
  jumps_of_both : (l : ℕ) (s t : Shape) (p : Phase) (v : Shape) → Below s t → holds_all A ((l, t) ∷ []) ≡ true → GoingBelow A (jumps_only l s) (both_ways l t p v)
  jumps_of_both l s t p v w q = record { flows = one_below A l s t w q; forks = tt; on = tt }

  goes_of_both : (l : ℕ) (t : Shape) (p : Phase) (u v : Shape) → Below u v → GoingBelow A (goes p u) (both_ways l t p v)
  goes_of_both l t p u v x = record { flows = refl; forks = tt; on = (refl, x) }

  -- the end of the lower shape, by that of the upper one
  ends : (s t : Shape) (e f : EndFact) → s.at_end ≡ e → t.at_end ≡ f → Below s t → end_below e f ≡ true
  ends s t e f p q w = subst (λ x. end_below x f ≡ true) p (subst (λ x. end_below s.at_end x ≡ true) q w.at_end)

  no_root : (s : Shape) (e : EndFact) → s.at_end ≡ e → (is_root e ≡ true → ⊥) → is_root s.at_end ≡ true → ⊥
  no_root s e p n z = n (subst (λ x. is_root x ≡ true) p z)

  up_below : (r l : ℕ) (s t : Shape) (e f : EndFact) → s.at_end ≡ e → t.at_end ≡ f → Below s t → end_below e f ≡ true → holds_all A (up_branch f r l t).flows ≡ true → GoingBelow A (up_branch e r l s) (up_branch f r l t)
  up_below r l s t Root Root p q w b h = only_below l (root_shape r s) (root_shape r t) (root_below s t r w) h
  up_below r l s t Root Side p q w b h = absurd (false≢true b)
  up_below r l s t Root Either p q w b h = jumps_of_both l (root_shape r s) (root_shape r t) Calm (side_shape r t) (root_below s t r w) h
  up_below r l s t Side Root p q w b h = absurd (false≢true b)
  up_below r l s t Side Side p q w b h = goes_below Calm (side_shape r s) (side_shape r t) (side_below s t r (no_root s Side p false≢true) w)
  up_below r l s t Side Either p q w b h = goes_of_both l (root_shape r t) Calm (side_shape r s) (side_shape r t) (side_below s t r (no_root s Side p false≢true) w)
  up_below r l s t Either Root p q w b h = absurd (false≢true b)
  up_below r l s t Either Side p q w b h = absurd (false≢true b)
  up_below r l s t Either Either p q w b h = both_below l (root_shape r s) (root_shape r t) Calm (side_shape r s) (side_shape r t) (root_below s t r w) (side_below s t r (no_root s Either p false≢true) w) h

  not_side : (s : Shape) (e : EndFact) → s.at_end ≡ e → (e ≡ Side → ⊥) → s.at_end ≡ Side → ⊥
  not_side s e p n z = n (sym p ∙ z)

  not_root : (s : Shape) (e : EndFact) → s.at_end ≡ e → (e ≡ Root → ⊥) → s.at_end ≡ Root → ⊥
  not_root s e p n z = n (sym p ∙ z)

  -- nothing is known of the upper register
  up_any : (r l : ℕ) (s t : Shape) (e : EndFact) → s.at_end ≡ e → slice_index_or t.registers r Any ≡ Any → Below s t → holds_all A ((l, t) ∷ []) ≡ true → GoingBelow A (up_branch e r l s) (both_ways l t Calm t)
  up_any r l s t Root p k w h = jumps_of_both l (root_shape r s) t Calm t (root_under s t r (not_side s Root p (λ z. cc)) k w) h
  up_any r l s t Side p k w h = goes_of_both l t Calm (side_shape r s) t (side_under s t r (not_root s Side p (λ z. cc)) k w)
  up_any r l s t Either p k w h = both_below l (root_shape r s) t Calm (side_shape r s) t (root_under s t r (not_side s Either p (λ z. cc)) k w) (side_under s t r (not_root s Either p (λ z. cc)) k w) h

  any_branch : (a : Kind) (r l : ℕ) (s t : Shape) → kind_at s r ≡ a → kind_at t r ≡ Any → Below s t → holds_all A ((l, t) ∷ []) ≡ true → GoingBelow A (branch a r l s) (both_ways l t Calm t)
  any_branch Number r l s t p q w h = both_below l s t Calm s t w w h
  any_branch Empty r l s t p q w h = jumps_of_both l s t Calm t w h
  any_branch Own r l s t p q w h = goes_of_both l t Calm s t w
  any_branch Up r l s t p q w h = up_any r l s t s.at_end refl (in_list t r Any q (λ z. cc)) w h
  any_branch Pend r l s t p q w h = both_below l s t Calm s t w w h
  any_branch Met r l s t p q w h = both_below l s t Calm s t w w h
  any_branch (Back j) r l s t p q w h = both_below l s t Calm s t w w h
  any_branch Any r l s t p q w h = both_below l s t Calm s t w w h

  same_branch : (k : Kind) (r l : ℕ) (s t : Shape) → Below s t → holds_all A (branch k r l t).flows ≡ true → GoingBelow A (branch k r l s) (branch k r l t)
  same_branch Number r l s t w h = both_below l s t Calm s t w w h
  same_branch Empty r l s t w h = only_below l s t w h
  same_branch Own r l s t w h = goes_below Calm s t w
  same_branch Up r l s t w h = up_below r l s t s.at_end t.at_end refl refl w w.at_end h
  same_branch Pend r l s t w h = both_below l s t Calm s t w w h
  same_branch Met r l s t w h = both_below l s t Calm s t w w h
  same_branch (Back j) r l s t w h = both_below l s t Calm s t w w h
  same_branch Any r l s t w h = both_below l s t Calm s t w w h

  side_is : (e : EndFact) → is_side e ≡ true → e ≡ Side
  side_is Side q = refl
  side_is Root q = absurd (false≢true q)
  side_is Either q = absurd (false≢true q)

  root_is : (e : EndFact) → is_root e ≡ true → e ≡ Root
  root_is Root q = refl
  root_is Side q = absurd (false≢true q)
  root_is Either q = absurd (false≢true q)

  -- the record of a side's end, where the upper one may be nil
  own_branch : (r l : ℕ) (s t : Shape) (f : EndFact) → s.at_end ≡ Side → t.at_end ≡ f → kind_at s r ≡ Own → Below s t → GoingBelow A (goes Calm s) (up_branch f r l t)
  own_branch r l s t Root e q k w = absurd (false≢true (ends s t Side Root e q w))
  own_branch r l s t Side e q k w = goes_below Calm s (side_shape r t) (side_above s t r e (in_list s r Own k (λ z. cc)) w)
  own_branch r l s t Either e q k w = goes_of_both l (root_shape r t) Calm s (side_shape r t) (side_above s t r e (in_list s r Own k (λ z. cc)) w)

  nil_branch : (r l : ℕ) (s t : Shape) (f : EndFact) → s.at_end ≡ Root → t.at_end ≡ f → kind_at s r ≡ Empty → Below s t → holds_all A (up_branch f r l t).flows ≡ true → GoingBelow A (jumps_only l s) (up_branch f r l t)
  nil_branch r l s t Root e q k w h = only_below l s (root_shape r t) (root_above s t r e (in_list s r Empty k (λ z. cc)) w) h
  nil_branch r l s t Side e q k w h = absurd (false≢true (ends s t Root Side e q w))
  nil_branch r l s t Either e q k w h = jumps_of_both l s (root_shape r t) Calm (side_shape r t) (root_above s t r e (in_list s r Empty k (λ z. cc)) w) h

  branch_below : (n r l : ℕ) (s t : Shape) (a b : Kind) → kind_at s r ≡ a → kind_at t r ≡ b → Proper n s → Below s t → KindBelow s.at_end a b → holds_all A (branch b r l t).flows ≡ true → GoingBelow A (branch a r l s) (branch b r l t)
  branch_below n r l s t _ _ p q o w (same k) h = same_branch k r l s t w h
  branch_below n r l s t _ _ p q o w (to_any k) h = any_branch k r l s t p q w h
  branch_below n r l s t _ _ p q o w own_up h =
      own_branch r l s t t.at_end (side_is s.at_end (kind_proper n s r o (subst (λ x. kind_eq x Own ≡ true) (sym p) refl))) refl p w
  branch_below n r l s t _ _ p q o w (nil_up z) h = nil_branch r l s t t.at_end (root_is s.at_end z) refl p w h

  choose_below : (n : ℕ) (b : Bool) (r l : ℕ) (s t : Shape) → Proper n s → Below s t
      → holds_all A (if b then branch (kind_at t r) r l t else both_ways l t Calm t).flows ≡ true
      → GoingBelow A (if b then branch (kind_at s r) r l s else both_ways l s Calm s) (if b then branch (kind_at t r) r l t else both_ways l t Calm t)
  choose_below n true r l s t o w h = branch_below n r l s t (kind_at s r) (kind_at t r) refl refl o w (kind_at_below s t r w) h
  choose_below n false r l s t o w h = both_below l s t Calm s t w w h

  jump_below : (n : ℕ) (p : Phase) (x l : ℕ) (s t : Shape) → Proper n s → Below s t → holds_all A (if_jump p x l t).flows ≡ true → GoingBelow A (if_jump p x l s) (if_jump p x l t)
  jump_below n Calm x l s t o w h = both_below l s t Calm s t w w h
  jump_below n (Compared r y) x l s t o w h = choose_below n (y == x) r l s t o w h
  jump_below n (Asked r m) x l s t o w h = both_below l s t Calm s t w w h
  jump_below n (Tested r y m) x l s t o w h =
      both_below l (with_kind s r Empty) (with_kind t r Empty) (Given r m) (with_kind s r Pend) (with_kind t r Pend) (kind_below_set s t r Empty Empty (same Empty) w) (kind_below_set s t r Pend Pend (same Pend) w) h
  jump_below n (Given r m) x l s t o w h = both_below l s t Calm s t w w h

  nowhere_below : GoingBelow A nowhere nowhere
  nowhere_below = record { flows = refl; forks = tt; on = tt }

  fork_below : (p : Phase) (r c : ℕ) (s t : Shape) → Below s t → holds_all A (fork_under p t r c).flows ≡ true → GoingBelow A (fork_under p s r c) (fork_under p t r c)
  fork_below Calm r c s t w h = nowhere_below
  fork_below (Compared q x) r c s t w h = nowhere_below
  fork_below (Asked q l) r c s t w h = nowhere_below
  fork_below (Tested q x l) r c s t w h = nowhere_below
  fork_below (Given q l) r c s t w h = record {
    flows = one_below A c (child_shape r s) (child_shape r t) (child_below s t r w) h;
    forks = (refl, w, tt);
    on = (refl, left_below s t r w);
  }

  module _ (whole : Ground) where
    value_below : (s t : Shape) (v : Value) → Below s t → KindBelow s.at_end (value_kind whole s v) (value_kind whole t v)
    value_below s t (Reg r) w = kind_at_below s t r w
    value_below s t (Int z) w = same Number
    value_below s t (Label l) w = same (label_kind (note_at whole l))
    value_below s t Nil w = same Empty

    number_set : (s t : Shape) (r : ℕ) → Below s t → Below (with_kind s r Number) (with_kind t r Number)
    number_set s t r w = kind_below_set s t r Number Number (same Number) w

    going_below : (n : ℕ) (p : Phase) (s t : Shape) (i : Instr) → Proper n s → Below s t → holds_all A (going whole p t i).flows ≡ true → GoingBelow A (going whole p s i) (going whole p t i)
    going_below n p s t (Move to v) o w h = goes_below (after_other p) (with_kind s to (value_kind whole s v)) (with_kind t to (value_kind whole t v)) (kind_below_set s t to (value_kind whole s v) (value_kind whole t v) (value_below s t v w) w)
    going_below n p s t (Calc to left alu v) o w h = goes_below (after_calc p to left alu v) (with_kind s to Number) (with_kind t to Number) (number_set s t to w)
    going_below n p s t (IfJump x l) o w h = jump_below n p x l s t o w h
    going_below n p s t (Load to base off) o w h = goes_below (after_other p) (with_kind s to (cell_at s off)) (with_kind t to (cell_at t off)) (kind_below_set s t to (cell_at s off) (cell_at t off) (cell_at_below s t off w) w)
    going_below n p s t (Store base off v) o w h = goes_below (after_other p) (with_cell s off (value_kind whole s v)) (with_cell t off (value_kind whole t v)) (cell_below_set s t off (value_kind whole s v) (value_kind whole t v) (value_below s t v w) w)
    going_below n p s t (Salloc m) o w h = goes_below Calm s t w
    going_below n p s t (Sfree m) o w h = goes_below Calm s t w
    going_below n p s t (PrmPush base off cells split) o w h = goes_below Calm (with_mark s Marked) (with_mark t Marked) (mark_below_set s t Marked w)
    going_below n p s t (PrmPop base off) o w h = goes_below Calm (with_mark s Clear) (with_mark t Clear) (mark_below_set s t Clear w)
    going_below n p s t PrmDrop o w h = goes_below Calm (with_mark s Clear) (with_mark t Clear) (mark_below_set s t Clear w)
    going_below n p s t (PrmEmpty r) o w h = goes_below Calm (with_kind s r Number) (with_kind t r Number) (number_set s t r w)
    going_below n p s t (PrmSplit base split) o w h = goes_below Calm (with_kind (with_kind s base Number) split Any) (with_kind (with_kind t base Number) split Any) (kind_below_set (with_kind s base Number) (with_kind t base Number) split Any Any (same Any) (number_set s t base w))
    going_below n p s t (JrAlloc to target) o w h = goes_below (Asked to target) (with_kind s to Any) (with_kind t to Any) (kind_below_set s t to Any Any (same Any) w)
    going_below n p s t (Fork r c) o w h = fork_below p r c s t w h
    going_below n p s t (Fetch to table row col) o w h = goes_below Calm (with_kind s to Number) (with_kind t to Number) (number_set s t to w)
    going_below n p s t (Put table row col value) o w h = goes_below Calm s t w
    going_below n p s t (Rows to table) o w h = goes_below Calm (with_kind s to Number) (with_kind t to Number) (number_set s t to w)
    going_below n p s t (Cols to table) o w h = goes_below Calm (with_kind s to Number) (with_kind t to Number) (number_set s t to w)
    going_below n p s t (Make table rows cols place) o w h = goes_below Calm s t w
    going_below n p s t Tick o w h = goes_below Calm s t w
    going_below n p s t (Trap kind place) o w h = nowhere_below
    going_below n p s t (Print r) o w h = goes_below Calm s t w
    going_below n p s t (Emit table) o w h = goes_below Calm s t w

    -- ---- the rules of an instruction

    number_at : (s t : Shape) (r : ℕ) → Below s t → is_number_at t r ≡ true → is_number_at s r ≡ true
    number_at s t r w q = number_below s.at_end (kind_at s r) (kind_at t r) (kind_at_below s t r w) q

    and_below : (a b c d : Bool) → (a ≡ true → c ≡ true) → (b ≡ true → d ≡ true) → (a && b) ≡ true → (c && d) ≡ true
    and_below a b c d f g q = and_both c d (f (and_left a b q)) (g (and_right a b q))

    or_below : (a b c : Bool) → (b ≡ true → c ≡ true) → (a || b) ≡ true → (a || c) ≡ true
    or_below true b c f q = refl
    or_below false b c f q = f q

    cuts_below : (s t : Shape) (item : CarryAt) → Below s t → cuts_by_numbers t item ≡ true → cuts_by_numbers s item ≡ true
    cuts_below s t (carry.Rows table at) w q = number_at s t at w q
    cuts_below s t (carry.Cells table row at) w q = and_below (is_number_at t row) (is_number_at t at) (is_number_at s row) (is_number_at s at) (number_at s t row w) (number_at s t at w) q

    all_cuts : (s t : Shape) (items : List CarryAt) → Below s t → list_all (cuts_by_numbers t) items ≡ true → list_all (cuts_by_numbers s) items ≡ true
    all_cuts s t [] w q = refl
    all_cuts s t (i ∷ is) w q = and_below (cuts_by_numbers t i) (list_all (cuts_by_numbers t) is) (cuts_by_numbers s i) (list_all (cuts_by_numbers s) is) (cuts_below s t i w) (all_cuts s t is w) q

    -- the upper kind is that of the pending record, or the fork breaks another rule
    given_cuts : (a b c d : Bool) → a ≡ true → (c ≡ true → d ≡ true) → (not a || c) ≡ true → (not b || d) ≡ true
    given_cuts true true c d p f q = f q
    given_cuts true false c d p f q = refl
    given_cuts false b c d p f q = absurd (false≢true p)

    fork_numbers : (p : Phase) (s t : Shape) (r : ℕ) → Below s t → kind_eq (kind_at t r) Pend ≡ true → fork_cuts whole p t r ≡ true → fork_cuts whole p s r ≡ true
    fork_numbers Calm s t r w k q = refl
    fork_numbers (Compared x y) s t r w k q = refl
    fork_numbers (Asked x l) s t r w k q = refl
    fork_numbers (Tested x y l) s t r w k q = refl
    fork_numbers (Given x l) s t r w k q =
        given_cuts (kind_eq (kind_at t r) Pend) (kind_eq (kind_at s r) Pend) (list_all (cuts_by_numbers t) (carries_of (note_at whole l))) (list_all (cuts_by_numbers s) (carries_of (note_at whole l))) k (all_cuts s t (carries_of (note_at whole l)) w) q

    may_pend : (s : Shape) (r c : ℕ) → may_fork s (Fork r c) ≡ true → kind_eq (kind_at s r) Pend ≡ true
    may_pend s r c q = and_left (kind_eq (kind_at s r) Pend) s.granted q

    numbers_below : (p : Phase) (s t : Shape) (i : Instr) → Below s t → may_fork t i ≡ true → has_numbers whole p t i ≡ true → has_numbers whole p s i ≡ true
    numbers_below p s t (Calc to left alu v) w m q =
        or_below (compares alu) (is_number_at t left && kind_eq (value_kind whole t v) Number) (is_number_at s left && kind_eq (value_kind whole s v) Number)
        (and_below (is_number_at t left) (kind_eq (value_kind whole t v) Number) (is_number_at s left) (kind_eq (value_kind whole s v) Number) (number_at s t left w) (number_below s.at_end (value_kind whole s v) (value_kind whole t v) (value_below s t v w))) q
    numbers_below p s t (IfJump x l) w m q = number_at s t x w q
    numbers_below p s t (Load to base off) w m q = number_at s t base w q
    numbers_below p s t (Store base off v) w m q = number_at s t base w q
    numbers_below p s t (PrmPush base off cells split) w m q = number_at s t base w q
    numbers_below p s t (PrmPop base off) w m q = number_at s t base w q
    numbers_below p s t (Fork r c) w m q = fork_numbers p s t r w (may_pend t r c m) q
    numbers_below p s t (Fetch to table row col) w m q = and_below (is_number_at t row) (is_number_at t col) (is_number_at s row) (is_number_at s col) (number_at s t row w) (number_at s t col w) q
    numbers_below p s t (Put table row col value) w m q =
        and_below (is_number_at t row && is_number_at t col) (is_number_at t value) (is_number_at s row && is_number_at s col) (is_number_at s value)
        (and_below (is_number_at t row) (is_number_at t col) (is_number_at s row) (is_number_at s col) (number_at s t row w) (number_at s t col w)) (number_at s t value w) q
    numbers_below p s t (Make table rows cols place) w m q = and_below (is_number_at t rows) (is_number_at t cols) (is_number_at s rows) (is_number_at s cols) (number_at s t rows w) (number_at s t cols w) q
    numbers_below p s t (Print r) w m q = number_at s t r w q
    numbers_below p s t (Move to v) w m q = refl
    numbers_below p s t (Salloc n) w m q = refl
    numbers_below p s t (Sfree n) w m q = refl
    numbers_below p s t PrmDrop w m q = refl
    numbers_below p s t (PrmEmpty r) w m q = refl
    numbers_below p s t (PrmSplit base split) w m q = refl
    numbers_below p s t (JrAlloc to target) w m q = refl
    numbers_below p s t (Rows to table) w m q = refl
    numbers_below p s t (Cols to table) w m q = refl
    numbers_below p s t Tick w m q = refl
    numbers_below p s t (Trap kind place) w m q = refl
    numbers_below p s t (Emit table) w m q = refl

    marks_below : (s t : Shape) (i : Instr) → Below s t → marks_rightly t i ≡ true → marks_rightly s i ≡ true
    marks_below s t (PrmPush base off cells split) w q = mark_clear s.mark t.mark w.mark q
    marks_below s t PrmDrop w q = mark_marked s.mark t.mark w.mark q
    marks_below s t (PrmSplit base split) w q = mark_marked s.mark t.mark w.mark q
    marks_below s t (Fork r c) w q = mark_marked s.mark t.mark w.mark q
    marks_below s t (Move to v) w q = refl
    marks_below s t (Calc to left alu v) w q = refl
    marks_below s t (IfJump x l) w q = refl
    marks_below s t (Load to base off) w q = refl
    marks_below s t (Store base off v) w q = refl
    marks_below s t (Salloc n) w q = refl
    marks_below s t (Sfree n) w q = refl
    marks_below s t (PrmPop base off) w q = refl
    marks_below s t (PrmEmpty r) w q = refl
    marks_below s t (JrAlloc to target) w q = refl
    marks_below s t (Fetch to table row col) w q = refl
    marks_below s t (Put table row col value) w q = refl
    marks_below s t (Rows to table) w q = refl
    marks_below s t (Cols to table) w q = refl
    marks_below s t (Make table rows cols place) w q = refl
    marks_below s t Tick w q = refl
    marks_below s t (Trap kind place) w q = refl
    marks_below s t (Print r) w q = refl
    marks_below s t (Emit table) w q = refl

    may_below : (s t : Shape) (i : Instr) → Below s t → may_fork t i ≡ true → may_fork s i ≡ true
    may_below s t (Fork r c) w q =
        and_below (kind_eq (kind_at t r) Pend) t.granted (kind_eq (kind_at s r) Pend) s.granted (pend_below s.at_end (kind_at s r) (kind_at t r) (kind_at_below s t r w)) (grant_granted s.granted t.granted w.granted) q
    may_below s t (Move to v) w q = refl
    may_below s t (Calc to left alu v) w q = refl
    may_below s t (IfJump x l) w q = refl
    may_below s t (Load to base off) w q = refl
    may_below s t (Store base off v) w q = refl
    may_below s t (Salloc n) w q = refl
    may_below s t (Sfree n) w q = refl
    may_below s t (PrmPush base off cells split) w q = refl
    may_below s t (PrmPop base off) w q = refl
    may_below s t PrmDrop w q = refl
    may_below s t (PrmEmpty r) w q = refl
    may_below s t (PrmSplit base split) w q = refl
    may_below s t (JrAlloc to target) w q = refl
    may_below s t (Fetch to table row col) w q = refl
    may_below s t (Put table row col value) w q = refl
    may_below s t (Rows to table) w q = refl
    may_below s t (Cols to table) w q = refl
    may_below s t (Make table rows cols place) w q = refl
    may_below s t Tick w q = refl
    may_below s t (Trap kind place) w q = refl
    may_below s t (Print r) w q = refl
    may_below s t (Emit table) w q = refl

    abbrev rule_of : Bool → Bool → Bool → Bool → Bool → Option ℕ
    rule_of a b c d e =
        if not a then Some 1
        else (if not b then Some 2 else (if not c then Some 3 else (if not d then Some 4 else (if not e then Some 5 else None))))

    all_met : (a b c d e : Bool) → rule_of a b c d e ≡ None → (a ≡ true) × (b ≡ true) × (c ≡ true) × (d ≡ true) × (e ≡ true)
    all_met true true true true true q = (refl, refl, refl, refl, refl)
    all_met false b c d e q = some_none 1 q
    all_met true false c d e q = some_none 2 q
    all_met true true false d e q = some_none 3 q
    all_met true true true false e q = some_none 4 q
    all_met true true true true false q = some_none 5 q

    none_broken : (a b c d e : Bool) → a ≡ true → b ≡ true → c ≡ true → d ≡ true → e ≡ true → rule_of a b c d e ≡ None
    none_broken true true true true true p q r s t = refl
    none_broken false b c d e p q r s t = absurd (false≢true p)
    none_broken true false c d e p q r s t = absurd (false≢true q)
    none_broken true true false d e p q r s t = absurd (false≢true r)
    none_broken true true true false e p q r s t = absurd (false≢true s)
    none_broken true true true true false p q r s t = absurd (false≢true t)

    rules_below : (first : Bool) (p : Phase) (s t : Shape) (i : Instr) (rest : List Instr) → Below s t → broken_rule whole first p t i rest ≡ None → broken_rule whole first p s i rest ≡ None
    rules_below first p s t i rest w q =
        let r = all_met (is_flat whole first i) (has_numbers whole p t i) (marks_rightly t i) (asks_rightly whole i rest) (may_fork t i) q in
        none_broken (is_flat whole first i) (has_numbers whole p s i) (marks_rightly s i) (asks_rightly whole i rest) (may_fork s i)
        r.0 (numbers_below p s t i w r.4 r.1) (marks_below s t i w r.2) r.3 (may_below s t i w r.4)

    -- ---- the end of a block, and whole walks

    pub record WalkBelow (x y : Walked) : Type 0 where
      pub broken : x.trace.broken ≡ None
      pub flows : holds_all A x.flows ≡ true
      pub join : JoinBelow x.trace.join y.trace.join
      pub forks : ForksBelow x.trace.forks y.trace.forks

    abbrev IsUnbroken : Walked → Type 0
    IsUnbroken y = y.trace.broken ≡ None

    only_walk : (fs gs : List Flow) → holds_all A fs ≡ true → WalkBelow (only_flows fs) (only_flows gs)
    only_walk fs gs q = record { broken = refl; flows = q; join = tt; forks = tt }

    is_broken : {Y : Type 0} (at rule : ℕ) → IsUnbroken (breaks at rule) → Y
    is_broken at rule q = some_none (at, rule) q

    back_below : (h : ℕ) (s t : Shape) (l : ℕ) (blocks : List Block) → Below s t → holds_all A (back_flows h t l blocks) ≡ true → holds_all A (back_flows h s l blocks) ≡ true
    back_below h s t l [] w q = refl
    back_below h s t l (b ∷ bs) w q = by (is_ready_for h b.note) (back_below h s t (l + 1) bs w) q
      where
        by : (c : Bool) → (holds_all A (back_flows h t (l + 1) bs) ≡ true → holds_all A (back_flows h s (l + 1) bs) ≡ true)
            → holds_all A (if c then (l, t) ∷ back_flows h t (l + 1) bs else back_flows h t (l + 1) bs) ≡ true
            → holds_all A (if c then (l, s) ∷ back_flows h s (l + 1) bs else back_flows h s (l + 1) bs) ≡ true
        by true f z = and_below (holds A (l, t)) (holds_all A (back_flows h t (l + 1) bs)) (holds A (l, s)) (holds_all A (back_flows h s (l + 1) bs)) (into_below A l s t w) f z
        by false f z = f z

    jump_back_below : (a b : Kind) (e : EndFact) (at : ℕ) (s t : Shape) → KindBelow e a b → Below s t → IsUnbroken (jump_back whole b at t) → holds_all A (jump_back whole b at t).flows ≡ true → WalkBelow (jump_back whole a at s) (jump_back whole b at t)
    jump_back_below _ _ e at s t (same (Back h)) w u q = only_walk (back_flows h s 0 whole.blocks) (back_flows h t 0 whole.blocks) (back_below h s t 0 whole.blocks w q)
    jump_back_below _ _ e at s t (same Number) w u q = is_broken at 7 u
    jump_back_below _ _ e at s t (same Empty) w u q = is_broken at 7 u
    jump_back_below _ _ e at s t (same Own) w u q = is_broken at 7 u
    jump_back_below _ _ e at s t (same Up) w u q = is_broken at 7 u
    jump_back_below _ _ e at s t (same Pend) w u q = is_broken at 7 u
    jump_back_below _ _ e at s t (same Met) w u q = is_broken at 7 u
    jump_back_below _ _ e at s t (same Any) w u q = is_broken at 7 u
    jump_back_below _ _ e at s t (to_any k) w u q = is_broken at 7 u
    jump_back_below _ _ e at s t own_up w u q = is_broken at 7 u
    jump_back_below _ _ e at s t (nil_up z) w u q = is_broken at 7 u

    met_walk : (m o : Option ℕ) (at : ℕ) (s t : Shape) → met_below m o ≡ true → Below s t → IsUnbroken (join_met o at t) → holds_all A (join_met o at t).flows ≡ true → WalkBelow (join_met m at s) (join_met o at t)
    met_walk m None at s t b w u q = is_broken at 6 u
    met_walk m (Some l) at s t b w u q =
        subst (λ x. WalkBelow (join_met x at s) (join_met (Some l) at t)) (sym (met_some m l b))
        (only_walk ((l, behind_shape s) ∷ []) ((l, behind_shape t) ∷ []) (one_below A l (behind_shape s) (behind_shape t) (behind_below s t w) q))

    abbrev side_break : Bool → ℕ → Option (ℕ × ℕ)
    side_break b at = if b then None else Some (at, 6)

    unbroken_side : (b : Bool) (at : ℕ) → side_break b at ≡ None → b ≡ true
    unbroken_side true at q = refl
    unbroken_side false at q = some_none (at, 6) q

    own_walk : (at : ℕ) (s t : Shape) → Below s t → IsUnbroken (join_own at t) → WalkBelow (join_own at s) (join_own at t)
    own_walk at s t w u = record {
      broken = if_is (is_side s.at_end) None (Some (at, 6)) (λ x. x ≡ None) (end_side s.at_end t.at_end w.at_end (unbroken_side (is_side t.at_end) at u)) refl;
      flows = refl;
      join = (s.at_end, w.registers);
      forks = tt;
    }

    join_below : (a b : Kind) (e : EndFact) (at : ℕ) (s t : Shape) → KindBelow e a b → Below s t → IsUnbroken (join_of b at t) → holds_all A (join_of b at t).flows ≡ true → WalkBelow (join_of a at s) (join_of b at t)
    join_below _ _ e at s t (same Own) w u q = own_walk at s t w u
    join_below _ _ e at s t (same Met) w u q = met_walk s.met t.met at s t w.met w u q
    join_below _ _ e at s t (same Number) w u q = is_broken at 6 u
    join_below _ _ e at s t (same Empty) w u q = is_broken at 6 u
    join_below _ _ e at s t (same Up) w u q = is_broken at 6 u
    join_below _ _ e at s t (same Pend) w u q = is_broken at 6 u
    join_below _ _ e at s t (same (Back h)) w u q = is_broken at 6 u
    join_below _ _ e at s t (same Any) w u q = is_broken at 6 u
    join_below _ _ e at s t (to_any k) w u q = is_broken at 6 u
    join_below _ _ e at s t own_up w u q = is_broken at 6 u
    join_below _ _ e at s t (nil_up z) w u q = is_broken at 6 u

    register_below : (c : Bool) (at : ℕ) (s t : Shape) → Below s t → IsUnbroken (if c then jump_back whole (kind_at t 30) at t else breaks at 1)
        → holds_all A (if c then jump_back whole (kind_at t 30) at t else breaks at 1).flows ≡ true
        → WalkBelow (if c then jump_back whole (kind_at s 30) at s else breaks at 1) (if c then jump_back whole (kind_at t 30) at t else breaks at 1)
    register_below true at s t w u q = jump_back_below (kind_at s 30) (kind_at t 30) s.at_end at s t (kind_at_below s t 30 w) w u q
    register_below false at s t w u q = is_broken at 1 u

    label_below : (c : Bool) (at l : ℕ) (s t : Shape) → Below s t → IsUnbroken (if c then only_flows ((l, t) ∷ []) else breaks at 1)
        → holds_all A (if c then only_flows ((l, t) ∷ []) else breaks at 1).flows ≡ true
        → WalkBelow (if c then only_flows ((l, s) ∷ []) else breaks at 1) (if c then only_flows ((l, t) ∷ []) else breaks at 1)
    label_below true at l s t w u q = only_walk ((l, s) ∷ []) ((l, t) ∷ []) (one_below A l s t w q)
    label_below false at l s t w u q = is_broken at 1 u

    halt_below : (b c : Bool) (at : ℕ) → (c ≡ true → b ≡ true) → IsUnbroken (if c then only_flows [] else breaks at 6) → WalkBelow (if b then only_flows [] else breaks at 6) (if c then only_flows [] else breaks at 6)
    halt_below true true at f u = only_walk [] [] refl
    halt_below false true at f u = absurd (false≢true (f refl))
    halt_below b false at f u = is_broken at 6 u

    end_walks : (at : ℕ) (s t : Shape) (term : Term) → Below s t → IsUnbroken (end_walk whole at t term) → holds_all A (end_walk whole at t term).flows ≡ true → WalkBelow (end_walk whole at s term) (end_walk whole at t term)
    end_walks at s t (Jump (Reg r)) w u q = register_below (r == 30) at s t w u q
    end_walks at s t (Jump (Int z)) w u q = is_broken at 1 u
    end_walks at s t (Jump (Label l)) w u q = label_below (is_inner l) at l s t w u q
    end_walks at s t (Jump Nil) w u q = is_broken at 1 u
    end_walks at s t Halt w u q = halt_below (is_root s.at_end) (is_root t.at_end) at (end_root s.at_end t.at_end w.at_end) u
    end_walks at s t (Join r) w u q = join_below (kind_at s r) (kind_at t r) s.at_end at s t (kind_at_below s t r w) w u q
    end_walks at s t (Leave rec value) w u q = is_broken at 1 u

    append_forks : (fs gs xs ys : List Flow) → SameForks fs gs → ForksBelow xs ys → ForksBelow (fs ++ xs) (gs ++ ys)
    append_forks [] [] xs ys a b = b
    append_forks [] (g ∷ gs) xs ys a b = absurd a
    append_forks (f ∷ fs) [] xs ys a b = absurd a
    append_forks (f ∷ fs) (g ∷ gs) xs ys a b = (a.0, a.1, append_forks fs gs xs ys a.2 b)

    prefix_forks : (fs gs ys : List Flow) → SameForks fs gs → ForksBelow (fs ++ []) (gs ++ ys)
    prefix_forks [] gs ys a = tt
    prefix_forks (f ∷ fs) [] ys a = absurd a
    prefix_forks (f ∷ fs) (g ∷ gs) ys a = (a.0, a.1, prefix_forks fs gs ys a.2)

    abbrev Later : Type 0
    Later = Phase → Shape → Walked

    on_walks : (x y : Going) (ox oy : Option (Phase × Shape)) (n : ℕ) (later : Later) → OnBelow ox oy → OnProper n ox → SameForks x.forks y.forks → holds_all A x.flows ≡ true
        → ((p : Phase) (s t : Shape) → Proper n s → Below s t → IsUnbroken (later p t) → holds_all A (later p t).flows ≡ true → WalkBelow (later p s) (later p t))
        → IsUnbroken (walk_on oy later) → holds_all A (walk_on oy later).flows ≡ true
        → WalkBelow (with_going x.flows x.forks (walk_on ox later)) (with_going y.flows y.forks (walk_on oy later))
    on_walks x y None oy n later b o f h go u q = record {
      broken = refl;
      flows = all_both A x.flows [] h refl;
      join = tt;
      forks = prefix_forks x.forks y.forks (walk_on oy later).trace.forks f;
    }
    on_walks x y (Some v) None n later b o f h go u q = absurd b
    on_walks x y (Some v) (Some w) n later b o f h go u q =
        let z = subst (λ (r : Phase). WalkBelow (later r v.1) (later w.0 w.1)) (sym b.0) (go w.0 v.1 w.1 o b.1 u q) in
        record {
          broken = z.broken;
          flows = all_both A x.flows (later v.0 v.1).flows h z.flows;
          join = z.join;
          forks = append_forks x.forks y.forks (later v.0 v.1).trace.forks (later w.0 w.1).trace.forks f z.forks;
        }

    steps_below : (i : Instr) (n at : ℕ) (p : Phase) (s t : Shape) (next : Later) → Proper n s → Below s t
        → ((r : Phase) (k m : Shape) → Proper n k → Below k m → IsUnbroken (next r m) → holds_all A (next r m).flows ≡ true → WalkBelow (next r k) (next r m))
        → (a b : Option ℕ) → (b ≡ None → a ≡ None) → IsUnbroken (unless_broken b at (going whole p t i) next) → holds_all A (unless_broken b at (going whole p t i) next).flows ≡ true
        → WalkBelow (unless_broken a at (going whole p s i) next) (unless_broken b at (going whole p t i) next)
    steps_below i n at p s t next o w go a (Some r) f v z = is_broken at r v
    steps_below i n at p s t next o w go (Some r) None f v z = some_none r (f refl)
    steps_below i n at p s t next o w go None None f v z =
        let x = going whole p s i in
        let y = going whole p t i in
        let g = going_below n p s t i o w (all_left A y.flows (walk_on y.on next).flows z) in
        on_walks x y x.on y.on n next g.on (going_proper n whole p s i o).on g.forks g.flows go v (all_right A y.flows (walk_on y.on next).flows z)

    pub walks_below : (body : List Instr) (term : Term) (n : ℕ) (first : Bool) (at : ℕ) (p : Phase) (s t : Shape) → Proper n s → Below s t
        → IsUnbroken (walk whole first at p t body term) → holds_all A (walk whole first at p t body term).flows ≡ true
        → WalkBelow (walk whole first at p s body term) (walk whole first at p t body term)
    walks_below [] term n first at p s t o w u q = end_walks at s t term w u q
    walks_below (i ∷ rest) term n first at p s t o w u q =
        steps_below i n at p s t (λ r v. walk whole false (at + 1) r v rest term) o w
        (λ r k m o2 w2 u2 q2. walks_below rest term n false (at + 1) r k m o2 w2 u2 q2)
        (broken_rule whole first p s i rest) (broken_rule whole first p t i rest) (rules_below first p s t i rest w) u q

    note_below : (m : Note) (s t : Shape) → Below s t → holds_all A (note_flows m t) ≡ true → holds_all A (note_flows m s) ≡ true
    note_below note.Plain s t w q = refl
    note_below (note.Ready h) s t w q = one_below A h (handler_shape h s) (handler_shape h t) (handler_below s t h w) q
    note_below (note.Target target) s t w q = refl

    pub blocks_below : (l n : ℕ) (block : Block) (s t : Shape) → Proper n s → Below s t → IsUnbroken (block_walk whole l block t) → holds_all A (block_walk whole l block t).flows ≡ true
        → WalkBelow (block_walk whole l block s) (block_walk whole l block t)
    blocks_below l n block s t o w u q =
        let v = walk whole (l == 0) 0 Calm t block.body block.term in
        let z = walks_below block.body block.term n (l == 0) 0 Calm s t o w u (all_right A (note_flows block.note t) v.flows q) in
        record {
          broken = z.broken;
          flows = all_both A (note_flows block.note s) (walk whole (l == 0) 0 Calm s block.body block.term).flows (note_below block.note s t w (all_left A (note_flows block.note t) v.flows q)) z.flows;
          join = z.join;
          forks = z.forks;
        }
