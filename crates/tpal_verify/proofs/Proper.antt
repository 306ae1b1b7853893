-- What flows from proper shapes is proper: each register and cell has its kind, and the record of a
-- side's end is known only where the end is known to be a side's.
use Rattle.std.proofs.Common.{◌≡◌, ℕ, zero, suc, List, [], ◌∷◌, ◌++◌, Option, Some, None, refl, sym, ap, subst, ◌∙◌, ◌+◌, length, arith}
use Rattle.std.proofs.Math.ListN.{length-set, length-map, length-replicate}
use Rattle.std.proofs.lemmas.Bool.{false≢true}
use Rattle.std.specs.Prelude.{Bool, true, false, ◌&&◌, ◌==◌, if◌then◌else◌, map, replicate, slice_set, slice_index_or}
use Rattle.tpal_syntax.specs.declared.blocks.Block.{Block}
use Rattle.tpal_syntax.specs.declared.instructions.Value.{Value}
use Rattle.tpal_syntax.specs.declared.instructions.Value.TheVariants.{Reg, Int, Label, Nil}
use Rattle.tpal_syntax.specs.declared.instructions.Instr.{Instr}
use Rattle.tpal_syntax.specs.declared.instructions.Instr.TheVariants.{Move, Calc, IfJump, Load, Store, Salloc, Sfree, PrmPush, PrmPop, PrmDrop, PrmEmpty, PrmSplit, JrAlloc, Fork, Fetch, Put, Rows, Cols, Make, Tick, Trap, Print, Emit}
use Rattle.tpal_syntax.specs.declared.instructions.Term.{Term}
use Rattle.tpal_syntax.specs.declared.instructions.Term.TheVariants.{Jump, Halt, Join, Leave}
use Rattle.tpal_syntax.specs.declared.notes.Note.{Note}
use Rattle.tpal_syntax.specs.declared.notes.Note.TheVariants as note
use Rattle.tpal_syntax.specs.declared.notes.Target.{Target}
use Rattle.tpal_verify.specs.declared.kinds.Kind.{Kind}
use Rattle.tpal_verify.specs.declared.kinds.Kind.TheVariants.{Number, Empty, Own, Up, Pend, Met, Back, Any}
use Rattle.tpal_verify.specs.declared.kinds.EndFact.{EndFact}
use Rattle.tpal_verify.specs.declared.kinds.EndFact.TheVariants.{Root, Side, Either}
use Rattle.tpal_verify.specs.declared.kinds.MarkFact.{MarkFact}
use Rattle.tpal_verify.specs.declared.kinds.MarkFact.TheVariants.{Marked, Clear}
use Rattle.tpal_verify.specs.declared.phases.Phase.{Phase}
use Rattle.tpal_verify.specs.declared.phases.Phase.TheVariants.{Calm, Compared, Asked, Tested, Given}
use Rattle.tpal_verify.specs.Kinds.{is_root, is_side, kind_eq, kind_below, end_joined, parted, kept, unmet}
use Rattle.tpal_verify.specs.Shapes.{Shape, joined, kinds_joined, kind_at, cell_at, with_kind, with_cell, with_mark, first_shape, handler_shape, root_shape, side_shape, left_shape, behind_shape}
use Rattle.tpal_verify.specs.Flat.{Ground, is_inner}
use Rattle.tpal_verify.specs.Rules.{note_at, label_kind, value_kind, broken_rule}
use Rattle.tpal_verify.specs.Walk.{Flow, Going, goes, both_ways, jumps_only, nowhere, up_branch, branch, if_jump, fork_under, going, Walked, only_flows, breaks, is_ready_for, back_flows, jump_back, join_met, join_of, end_walk, with_going, walk_on, unless_broken, walk, note_flows, block_walk, after_calc, after_other}
use Rattle.tpal_verify.specs.Rounds.{each_has, found, left_kinds, right_kinds, comb_shape, comb_flow, each_comb_flow, comb_flows}
use Rattle.tpal_verify.proofs.Order.{if_either}

-- the record of a side's end is known only where the end is one
abbrev pub OwnsIn : EndFact → List Kind → Type 0
OwnsIn e [] = Unit {0}
OwnsIn e (k ∷ ks) = (kind_eq k Own ≡ true → is_side e ≡ true) × OwnsIn e ks

pub record Proper (n : ℕ) (s : Shape) : Type 0 where
  pub registers : OwnsIn s.at_end s.registers
  pub cells : OwnsIn s.at_end s.cells
  pub all_registers : length s.registers ≡ 31
  pub all_cells : length s.cells ≡ n

-- ---- lists

pub owns_at : (e : EndFact) (ks : List Kind) (r : ℕ) → OwnsIn e ks → kind_eq (slice_index_or ks r Any) Own ≡ true → is_side e ≡ true
owns_at e [] r o q = absurd (false≢true q)
owns_at e (k ∷ ks) zero o q = o.0 q
owns_at e (k ∷ ks) (suc r) o q = owns_at e ks r o.1 q

owns_set : (e : EndFact) (ks : List Kind) (r : ℕ) (k : Kind) → (kind_eq k Own ≡ true → is_side e ≡ true) → OwnsIn e ks → OwnsIn e (slice_set ks r k)
owns_set e [] r k p o = tt
owns_set e (j ∷ ks) zero k p o = (p, o.1)
owns_set e (j ∷ ks) (suc r) k p o = (o.0, owns_set e ks r k p o.1)

-- at a side anything is proper, and elsewhere what was
owns_side : (ks : List Kind) → OwnsIn Side ks
owns_side [] = tt
owns_side (k ∷ ks) = (λ _. refl, owns_side ks)

owns_as : (e f : EndFact) (ks : List Kind) → (is_side e ≡ true → is_side f ≡ true) → OwnsIn e ks → OwnsIn f ks
owns_as e f [] r o = tt
owns_as e f (k ∷ ks) r o = (λ q. r (o.0 q), owns_as e f ks r o.1)

owns_map : (e : EndFact) (g : Kind → Kind) (ks : List Kind) → ((k : Kind) → kind_eq (g k) Own ≡ true → kind_eq k Own ≡ true) → OwnsIn e ks → OwnsIn e (map g ks)
owns_map e g [] m o = tt
owns_map e g (k ∷ ks) m o = (λ q. o.0 (m k q), owns_map e g ks m o.1)

owns_empty : (e : EndFact) (n : ℕ) → OwnsIn e (replicate n Empty)
owns_empty e zero = tt
owns_empty e (suc n) = (λ q. absurd (false≢true q), owns_empty e n)

-- ---- shapes

pub proper_kind : (n : ℕ) (s : Shape) (r : ℕ) (k : Kind) → (kind_eq k Own ≡ true → is_side s.at_end ≡ true) → Proper n s → Proper n (with_kind s r k)
proper_kind n s r k p w = record {
  registers = owns_set s.at_end s.registers r k p w.registers;
  cells = w.cells;
  all_registers = length-set s.registers r k ∙ w.all_registers;
  all_cells = w.all_cells;
}

proper_cell : (n : ℕ) (s : Shape) (r : ℕ) (k : Kind) → (kind_eq k Own ≡ true → is_side s.at_end ≡ true) → Proper n s → Proper n (with_cell s r k)
proper_cell n s r k p w = record {
  registers = w.registers;
  cells = owns_set s.at_end s.cells r k p w.cells;
  all_registers = w.all_registers;
  all_cells = length-set s.cells r k ∙ w.all_cells;
}

proper_mark : (n : ℕ) (s : Shape) (m : MarkFact) → Proper n s → Proper n (with_mark s m)
proper_mark n s m w = record { registers = w.registers; cells = w.cells; all_registers = w.all_registers; all_cells = w.all_cells }

pub proper_first : (n : ℕ) → Proper n (first_shape n)
proper_first n = record {
  registers = owns_empty Root 31;
  cells = owns_empty Root n;
  all_registers = refl;
  all_cells = length-replicate n Empty;
}

proper_handler : (n h : ℕ) (s : Shape) → Proper n s → Proper n (handler_shape h s)
proper_handler n h s w = record {
  registers = owns_set s.at_end s.registers 30 (Back h) (λ q. absurd (false≢true q)) w.registers;
  cells = w.cells;
  all_registers = length-set s.registers 30 (Back h) ∙ w.all_registers;
  all_cells = w.all_cells;
}

proper_left : (n r : ℕ) (s : Shape) → Proper n s → Proper n (left_shape r s)
proper_left n r s w = record {
  registers = owns_side (slice_set (map parted s.registers) r Own);
  cells = owns_side (map parted s.cells);
  all_registers = length-set (map parted s.registers) r Own ∙ (length-map s.registers parted ∙ w.all_registers);
  all_cells = length-map s.cells parted ∙ w.all_cells;
}

unmet_own : (k : Kind) → kind_eq (unmet k) Own ≡ true → kind_eq k Own ≡ true
unmet_own Number q = q
unmet_own Empty q = q
unmet_own Own q = q
unmet_own Up q = q
unmet_own Pend q = q
unmet_own Met q = q
unmet_own (Back h) q = q
unmet_own Any q = q

kept_own : (k : Kind) → kind_eq (kept k) Own ≡ true → kind_eq k Own ≡ true
kept_own Number q = q
kept_own Empty q = q
kept_own Own q = q
kept_own Up q = q
kept_own Pend q = q
kept_own Met q = q
kept_own (Back h) q = q
kept_own Any q = q

proper_behind : (n : ℕ) (s : Shape) → Proper n s → Proper n (behind_shape s)
proper_behind n s w = record {
  registers = owns_map s.at_end unmet s.registers unmet_own w.registers;
  cells = owns_map s.at_end unmet s.cells unmet_own w.cells;
  all_registers = length-map s.registers unmet ∙ w.all_registers;
  all_cells = length-map s.cells unmet ∙ w.all_cells;
}

proper_side : (n r : ℕ) (s : Shape) → Proper n s → Proper n (side_shape r s)
proper_side n r s w = record {
  registers = owns_side (slice_set s.registers r Own);
  cells = owns_side s.cells;
  all_registers = length-set s.registers r Own ∙ w.all_registers;
  all_cells = w.all_cells;
}

-- where the end isn't that of a side, nothing is known to be its record
proper_root : (n r : ℕ) (s : Shape) → (is_side s.at_end ≡ true → ⊥) → Proper n s → Proper n (root_shape r s)
proper_root n r s m w = record {
  registers = owns_set Root s.registers r Empty (λ q. absurd (false≢true q)) (owns_as s.at_end Root s.registers (λ q. absurd (m q)) w.registers);
  cells = owns_as s.at_end Root s.cells (λ q. absurd (m q)) w.cells;
  all_registers = length-set s.registers r Empty ∙ w.all_registers;
  all_cells = w.all_cells;
}

-- ---- joins of shapes

own_is : (k : Kind) → kind_eq k Own ≡ true → k ≡ Own
own_is Own q = refl
own_is Number q = absurd (false≢true q)
own_is Empty q = absurd (false≢true q)
own_is Up q = absurd (false≢true q)
own_is Pend q = absurd (false≢true q)
own_is Met q = absurd (false≢true q)
own_is (Back h) q = absurd (false≢true q)
own_is Any q = absurd (false≢true q)

own_above : (f : EndFact) (a b : Kind) → kind_below f b a ≡ true → kind_eq a Own ≡ true → kind_eq b Own ≡ true
own_above f a b p q = subst (λ x. kind_below f b x ≡ true → kind_eq b Own ≡ true) (sym (own_is a q)) (only b) p
  where
    only : (k : Kind) → kind_below f k Own ≡ true → kind_eq k Own ≡ true
    only Number z = z
    only Empty z = z
    only Own z = z
    only Up z = z
    only Pend z = z
    only Met z = z
    only (Back h) z = z
    only Any z = z

both_side : (e f : EndFact) → is_side e ≡ true → is_side f ≡ true → is_side (end_joined e f) ≡ true
both_side Side Side p q = refl
both_side Side Root p q = absurd (false≢true q)
both_side Side Either p q = absurd (false≢true q)
both_side Root f p q = absurd (false≢true p)
both_side Either f p q = absurd (false≢true p)

joined_own : (e f : EndFact) (a b : Kind) (x y z : Bool) → (x ≡ true → kind_eq a Own ≡ true → kind_eq b Own ≡ true) → (y ≡ true → kind_eq b Own ≡ true → kind_eq a Own ≡ true)
    → (kind_eq a Own ≡ true → is_side e ≡ true) → (kind_eq b Own ≡ true → is_side f ≡ true)
    → kind_eq (if x then a else (if y then b else (if z then Up else Any))) Own ≡ true → is_side (end_joined e f) ≡ true
joined_own e f a b true y z l r p q o = both_side e f (p o) (q (l refl o))
joined_own e f a b false true z l r p q o = both_side e f (p (r refl o)) (q o)
joined_own e f a b false false true l r p q o = absurd (false≢true o)
joined_own e f a b false false false l r p q o = absurd (false≢true o)

owns_joined : (e f : EndFact) (xs ys : List Kind) → OwnsIn e xs → OwnsIn f ys → OwnsIn (end_joined e f) (kinds_joined e f xs ys)
owns_joined e f [] ys p q = tt
owns_joined e f (x ∷ xs) [] p q = tt
owns_joined e f (x ∷ xs) (y ∷ ys) p q =
    (joined_own e f x y (kind_below f y x) (kind_below e x y) (kind_below e x Up && kind_below f y Up) (own_above f x y) (own_above e y x) p.0 q.0, owns_joined e f xs ys p.1 q.1)

length_joined : (e f : EndFact) (xs ys : List Kind) (n : ℕ) → length xs ≡ n → length ys ≡ n → length (kinds_joined e f xs ys) ≡ n
length_joined e f xs ys n p q = same xs ys (p ∙ sym q) ∙ p
  where
    less : (a b : ℕ) → suc a ≡ suc b → a ≡ b
    less a b z = omega (arith, z)

    same : (us vs : List Kind) → length us ≡ length vs → length (kinds_joined e f us vs) ≡ length us
    same [] vs z = refl
    same (u ∷ us) [] z = sym z
    same (u ∷ us) (v ∷ vs) z = ap suc (same us vs (less (length us) (length vs) z))

pub proper_joined : (n : ℕ) (s t : Shape) → Proper n s → Proper n t → Proper n (joined s t)
proper_joined n s t v w = record {
  registers = owns_joined s.at_end t.at_end s.registers t.registers v.registers w.registers;
  cells = owns_joined s.at_end t.at_end s.cells t.cells v.cells w.cells;
  all_registers = length_joined s.at_end t.at_end s.registers t.registers 31 v.all_registers w.all_registers;
  all_cells = length_joined s.at_end t.at_end s.cells t.cells n v.all_cells w.all_cells;
}

-- ---- what a value has

pub kind_proper : (n : ℕ) (s : Shape) (r : ℕ) → Proper n s → kind_eq (kind_at s r) Own ≡ true → is_side s.at_end ≡ true
kind_proper n s r w q = by (r == 31) q
  where
    by : (b : Bool) → kind_eq (if b then Number else slice_index_or s.registers r Any) Own ≡ true → is_side s.at_end ≡ true
    by true z = absurd (false≢true z)
    by false z = owns_at s.at_end s.registers r w.registers z

label_proper : (m : Note) (e : EndFact) → kind_eq (label_kind m) Own ≡ true → is_side e ≡ true
label_proper note.Plain e q = absurd (false≢true q)
label_proper (note.Ready h) e q = absurd (false≢true q)
label_proper (note.Target t) e q = absurd (false≢true q)

value_proper : (whole : Ground) (n : ℕ) (s : Shape) (v : Value) → Proper n s → kind_eq (value_kind whole s v) Own ≡ true → is_side s.at_end ≡ true
value_proper whole n s (Reg r) w q = kind_proper n s r w q
value_proper whole n s (Int z) w q = absurd (false≢true q)
value_proper whole n s (Label l) w q = label_proper (note_at whole l) s.at_end q
value_proper whole n s Nil w q = absurd (false≢true q)

no_own : {A : Type 0} → false ≡ true → A
no_own q = absurd (false≢true q)

-- ---- flows

abbrev pub EachProper : ℕ → List Flow → Type 0
EachProper n [] = Unit {0}
EachProper n (f ∷ fs) = Proper n f.1 × EachProper n fs

pub proper_append : (n : ℕ) (fs gs : List Flow) → EachProper n fs → EachProper n gs → EachProper n (fs ++ gs)
proper_append n [] gs a b = b
proper_append n (f ∷ fs) gs a b = (a.0, proper_append n fs gs a.1 b)

abbrev pub OnProper : ℕ → Option (Phase × Shape) → Type 0
OnProper n None = Unit {0}
OnProper n (Some x) = Proper n x.1

pub record GoingProper (n : ℕ) (x : Going) : Type 0 where
  pub flows : EachProper n x.flows
  pub forks : EachProper n x.forks
  pub on : OnProper n x.on

module _ (n : ℕ) where
  goes_proper : (p : Phase) (s : Shape) → Proper n s → GoingProper n (goes p s)
  goes_proper p s w = record { flows = tt; forks = tt; on = w }

  both_proper : (l : ℕ) (t : Shape) (p : Phase) (s : Shape) → Proper n t → Proper n s → GoingProper n (both_ways l t p s)
  both_proper l t p s v w = record { flows = (v, tt); forks = tt; on = w }

  only_proper : (l : ℕ) (t : Shape) → Proper n t → GoingProper n (jumps_only l t)
  only_proper l t v = record { flows = (v, tt); forks = tt; on = tt }

  not_side : (s : Shape) (e : EndFact) → s.at_end ≡ e → (is_side e ≡ true → ⊥) → is_side s.at_end ≡ true → ⊥
  not_side s e q m z = m (subst (λ x. is_side x ≡ true) q z)

  up_proper : (e : EndFact) (r l : ℕ) (s : Shape) → s.at_end ≡ e → Proper n s → GoingProper n (up_branch e r l s)
  up_proper Root r l s q w = only_proper l (root_shape r s) (proper_root n r s (not_side s Root q false≢true) w)
  up_proper Side r l s q w = goes_proper Calm (side_shape r s) (proper_side n r s w)
  up_proper Either r l s q w = both_proper l (root_shape r s) Calm (side_shape r s) (proper_root n r s (not_side s Either q false≢true) w) (proper_side n r s w)

  branch_proper : (k : Kind) (r l : ℕ) (s : Shape) → Proper n s → GoingProper n (branch k r l s)
  branch_proper Number r l s w = both_proper l s Calm s w w
  branch_proper Empty r l s w = only_proper l s w
  branch_proper Own r l s w = goes_proper Calm s w
  branch_proper Up r l s w = up_proper s.at_end r l s refl w
  branch_proper Pend r l s w = both_proper l s Calm s w w
  branch_proper Met r l s w = both_proper l s Calm s w w
  branch_proper (Back h) r l s w = both_proper l s Calm s w w
  branch_proper Any r l s w = both_proper l s Calm s w w

  jump_proper : (p : Phase) (test l : ℕ) (s : Shape) → Proper n s → GoingProper n (if_jump p test l s)
  jump_proper Calm test l s w = both_proper l s Calm s w w
  jump_proper (Compared r x) test l s w = if_either (x == test) (branch (kind_at s r) r l s) (both_ways l s Calm s) (GoingProper n) (λ _. branch_proper (kind_at s r) r l s w) (both_proper l s Calm s w w)
  jump_proper (Asked r m) test l s w = both_proper l s Calm s w w
  jump_proper (Tested r x m) test l s w = both_proper l (with_kind s r Empty) (Given r m) (with_kind s r Pend) (proper_kind n s r Empty no_own w) (proper_kind n s r Pend no_own w)
  jump_proper (Given r m) test l s w = both_proper l s Calm s w w

  nowhere_proper : GoingProper n nowhere
  nowhere_proper = record { flows = tt; forks = tt; on = tt }

  fork_proper : (p : Phase) (s : Shape) (r c : ℕ) → Proper n s → GoingProper n (fork_under p s r c)
  fork_proper Calm s r c w = nowhere_proper
  fork_proper (Compared q x) s r c w = nowhere_proper
  fork_proper (Asked q l) s r c w = nowhere_proper
  fork_proper (Tested q x l) s r c w = nowhere_proper
  fork_proper (Given q l) s r c w = record {
    flows = (proper_mark n (left_shape r s) Clear (proper_left n r s w), tt);
    forks = (w, tt);
    on = proper_left n r s w;
  }

  module _ (whole : Ground) where
    pub going_proper : (p : Phase) (s : Shape) (i : Instr) → Proper n s → GoingProper n (going whole p s i)
    going_proper p s (Move to v) w = goes_proper (after_other p) (with_kind s to (value_kind whole s v)) (proper_kind n s to (value_kind whole s v) (value_proper whole n s v w) w)
    going_proper p s (Calc to left alu v) w = goes_proper (after_calc p to left alu v) (with_kind s to Number) (proper_kind n s to Number no_own w)
    going_proper p s (IfJump test l) w = jump_proper p test l s w
    going_proper p s (Load to base off) w = goes_proper (after_other p) (with_kind s to (cell_at s off)) (proper_kind n s to (cell_at s off) (owns_at s.at_end s.cells off w.cells) w)
    going_proper p s (Store base off v) w = goes_proper (after_other p) (with_cell s off (value_kind whole s v)) (proper_cell n s off (value_kind whole s v) (value_proper whole n s v w) w)
    going_proper p s (Salloc m) w = goes_proper Calm s w
    going_proper p s (Sfree m) w = goes_proper Calm s w
    going_proper p s (PrmPush base off cells split) w = goes_proper Calm (with_mark s Marked) (proper_mark n s Marked w)
    going_proper p s (PrmPop base off) w = goes_proper Calm (with_mark s Clear) (proper_mark n s Clear w)
    going_proper p s PrmDrop w = goes_proper Calm (with_mark s Clear) (proper_mark n s Clear w)
    going_proper p s (PrmEmpty r) w = goes_proper Calm (with_kind s r Number) (proper_kind n s r Number no_own w)
    going_proper p s (PrmSplit base split) w = goes_proper Calm (with_kind (with_kind s base Number) split Any) (proper_kind n (with_kind s base Number) split Any no_own (proper_kind n s base Number no_own w))
    going_proper p s (JrAlloc to target) w = goes_proper (Asked to target) (with_kind s to Any) (proper_kind n s to Any no_own w)
    going_proper p s (Fork r c) w = fork_proper p s r c w
    going_proper p s (Fetch to table row col) w = goes_proper Calm (with_kind s to Number) (proper_kind n s to Number no_own w)
    going_proper p s (Put table row col value) w = goes_proper Calm s w
    going_proper p s (Rows to table) w = goes_proper Calm (with_kind s to Number) (proper_kind n s to Number no_own w)
    going_proper p s (Cols to table) w = goes_proper Calm (with_kind s to Number) (proper_kind n s to Number no_own w)
    going_proper p s (Make table rows cols place) w = goes_proper Calm s w
    going_proper p s Tick w = goes_proper Calm s w
    going_proper p s (Trap kind place) w = nowhere_proper
    going_proper p s (Print r) w = goes_proper Calm s w
    going_proper p s (Emit table) w = goes_proper Calm s w

    pub record WalkProper (x : Walked) : Type 0 where
      pub flows : EachProper n x.flows
      pub forks : EachProper n x.trace.forks

    breaks_proper : (at rule : ℕ) → WalkProper (breaks at rule)
    breaks_proper at rule = record { flows = tt; forks = tt }

    one_proper : (l : ℕ) (s : Shape) → Proper n s → WalkProper (only_flows ((l, s) ∷ []))
    one_proper l s w = record { flows = (w, tt); forks = tt }

    back_proper : (h : ℕ) (s : Shape) (l : ℕ) (blocks : List Block) → Proper n s → EachProper n (back_flows h s l blocks)
    back_proper h s l [] w = tt
    back_proper h s l (b ∷ bs) w = if_either (is_ready_for h b.note) ((l, s) ∷ back_flows h s (l + 1) bs) (back_flows h s (l + 1) bs) (EachProper n) (λ _. (w, back_proper h s (l + 1) bs w)) (back_proper h s (l + 1) bs w)

    jump_back_proper : (k : Kind) (at : ℕ) (s : Shape) → Proper n s → WalkProper (jump_back whole k at s)
    jump_back_proper Number at s w = breaks_proper at 7
    jump_back_proper Empty at s w = breaks_proper at 7
    jump_back_proper Own at s w = breaks_proper at 7
    jump_back_proper Up at s w = breaks_proper at 7
    jump_back_proper Pend at s w = breaks_proper at 7
    jump_back_proper Met at s w = breaks_proper at 7
    jump_back_proper (Back h) at s w = record { flows = back_proper h s 0 whole.blocks w; forks = tt }
    jump_back_proper Any at s w = breaks_proper at 7

    met_proper : (m : Option ℕ) (at : ℕ) (s : Shape) → Proper n s → WalkProper (join_met m at s)
    met_proper None at s w = breaks_proper at 6
    met_proper (Some l) at s w = one_proper l (behind_shape s) (proper_behind n s w)

    join_proper : (k : Kind) (at : ℕ) (s : Shape) → Proper n s → WalkProper (join_of k at s)
    join_proper Number at s w = breaks_proper at 6
    join_proper Empty at s w = breaks_proper at 6
    join_proper Own at s w = record { flows = tt; forks = tt }
    join_proper Up at s w = breaks_proper at 6
    join_proper Pend at s w = breaks_proper at 6
    join_proper Met at s w = met_proper s.met at s w
    join_proper (Back h) at s w = breaks_proper at 6
    join_proper Any at s w = breaks_proper at 6

    end_proper : (at : ℕ) (s : Shape) (term : Term) → Proper n s → WalkProper (end_walk whole at s term)
    end_proper at s (Jump (Reg r)) w = if_either (r == 30) (jump_back whole (kind_at s 30) at s) (breaks at 1) WalkProper (λ _. jump_back_proper (kind_at s 30) at s w) (breaks_proper at 1)
    end_proper at s (Jump (Int z)) w = breaks_proper at 1
    end_proper at s (Jump (Label l)) w = if_either (is_inner l) (only_flows ((l, s) ∷ [])) (breaks at 1) WalkProper (λ _. one_proper l s w) (breaks_proper at 1)
    end_proper at s (Jump Nil) w = breaks_proper at 1
    end_proper at s Halt w = if_either (is_root s.at_end) (only_flows []) (breaks at 6) WalkProper (λ _. record { flows = tt; forks = tt }) (breaks_proper at 6)
    end_proper at s (Join r) w = join_proper (kind_at s r) at s w
    end_proper at s (Leave rec value) w = breaks_proper at 1

    on_proper : (o : Option (Phase × Shape)) (later : Phase → Shape → Walked) → OnProper n o → ((q : Phase) (t : Shape) → Proper n t → WalkProper (later q t)) → WalkProper (walk_on o later)
    on_proper None later w go = record { flows = tt; forks = tt }
    on_proper (Some x) later w go = go x.0 x.1 w

    with_proper : (fs gs : List Flow) (x : Walked) → EachProper n fs → EachProper n gs → WalkProper x → WalkProper (with_going fs gs x)
    with_proper fs gs x a b w = record { flows = proper_append n fs x.flows a w.flows; forks = proper_append n gs x.trace.forks b w.forks }

    unless_proper : (o : Option ℕ) (at : ℕ) (g : Going) (later : Phase → Shape → Walked) → GoingProper n g → ((q : Phase) (t : Shape) → Proper n t → WalkProper (later q t)) → WalkProper (unless_broken o at g later)
    unless_proper None at g later w go = with_proper g.flows g.forks (walk_on g.on later) w.flows w.forks (on_proper g.on later w.on go)
    unless_proper (Some rule) at g later w go = breaks_proper at rule

    pub walk_proper : (body : List Instr) (term : Term) (first : Bool) (at : ℕ) (p : Phase) (s : Shape) → Proper n s → WalkProper (walk whole first at p s body term)
    walk_proper [] term first at p s w = end_proper at s term w
    walk_proper (i ∷ rest) term first at p s w =
        unless_proper (broken_rule whole first p s i rest) at (going whole p s i) (λ q t. walk whole false (at + 1) q t rest term) (going_proper p s i w) (λ q t v. walk_proper rest term false (at + 1) q t v)

    note_proper : (m : Note) (s : Shape) → Proper n s → EachProper n (note_flows m s)
    note_proper note.Plain s w = tt
    note_proper (note.Ready h) s w = (proper_handler n h s w, tt)
    note_proper (note.Target t) s w = tt

    pub block_proper : (l : ℕ) (block : Block) (s : Shape) → Proper n s → WalkProper (block_walk whole l block s)
    block_proper l block s w = with_proper (note_flows block.note s) [] (walk whole (l == 0) 0 Calm s block.body block.term) (note_proper block.note s w) tt (walk_proper block.body block.term (l == 0) 0 Calm s w)

-- ---- combining blocks

module _ (joins : List (List Kind)) where
  found_own : (r : ℕ) → kind_eq (found joins r) Own ≡ true → ⊥
  found_own r q = by (each_has Number r joins) (each_has Own r joins) q
    where
      by : (x y : Bool) → kind_eq (if x then Number else (if y then Met else Any)) Own ≡ true → ⊥
      by true y z = false≢true z
      by false true z = false≢true z
      by false false z = false≢true z

  pub left_owns : (e : EndFact) (ks : List Kind) (ps : List (ℕ × ℕ)) → OwnsIn e ks → OwnsIn e (left_kinds joins ks ps)
  left_owns e ks [] o = o
  left_owns e ks (p ∷ ps) o = left_owns e (slice_set ks p.0 (found joins p.0)) ps (owns_set e ks p.0 (found joins p.0) (λ q. absurd (found_own p.0 q)) o)

  pub right_owns : (e : EndFact) (ks : List Kind) (ps : List (ℕ × ℕ)) → OwnsIn e ks → OwnsIn e (right_kinds joins ks ps)
  right_owns e ks [] o = o
  right_owns e ks (p ∷ ps) o = right_owns e (slice_set ks p.1 (found joins p.0)) ps (owns_set e ks p.1 (found joins p.0) (λ q. absurd (found_own p.0 q)) o)

  left_length : (ks : List Kind) (ps : List (ℕ × ℕ)) → length (left_kinds joins ks ps) ≡ length ks
  left_length ks [] = refl
  left_length ks (p ∷ ps) = left_length (slice_set ks p.0 (found joins p.0)) ps ∙ length-set ks p.0 (found joins p.0)

  right_length : (ks : List Kind) (ps : List (ℕ × ℕ)) → length (right_kinds joins ks ps) ≡ length ks
  right_length ks [] = refl
  right_length ks (p ∷ ps) = right_length (slice_set ks p.1 (found joins p.0)) ps ∙ length-set ks p.1 (found joins p.0)

  pub comb_proper : (n l : ℕ) (t : Target) (s : Shape) → Proper n s → Proper n (comb_shape joins l t s)
  comb_proper n l t s w = record {
    registers = right_owns s.at_end (left_kinds joins (replicate 31 Empty) t.renames) t.renames (left_owns s.at_end (replicate 31 Empty) t.renames (owns_empty s.at_end 31));
    cells = owns_map s.at_end kept s.cells kept_own w.cells;
    all_registers = right_length (left_kinds joins (replicate 31 Empty) t.renames) t.renames ∙ left_length (replicate 31 Empty) t.renames;
    all_cells = length-map s.cells kept ∙ w.all_cells;
  }

  comb_flow_proper : (n : ℕ) (m : Note) (f : Flow) → Proper n f.1 → EachProper n (comb_flow m joins f)
  comb_flow_proper n note.Plain f w = tt
  comb_flow_proper n (note.Ready h) f w = tt
  comb_flow_proper n (note.Target t) f w = (comb_proper n f.0 t f.1 w, tt)

  pub each_comb_proper : (n : ℕ) (whole : Ground) (fs : List Flow) → EachProper n fs → EachProper n (each_comb_flow whole joins fs)
  each_comb_proper n whole [] w = tt
  each_comb_proper n whole (f ∷ fs) w = proper_append n (comb_flow (note_at whole f.0) joins f) (each_comb_flow whole joins fs) (comb_flow_proper n (note_at whole f.0) f w.0) (each_comb_proper n whole fs w.1)

pub comb_flows_proper : (n : ℕ) (whole : Ground) (joins : List (List Kind)) (fs : List Flow) → EachProper n fs → EachProper n (comb_flows whole joins fs)
comb_flows_proper n whole [] fs w = tt
comb_flows_proper n whole (j ∷ js) fs w = each_comb_proper (j ∷ js) n whole fs w
