-- What a fork of a task that knows its place comes to, and what its sides merge to.
use Rattle.std.proofs.Common.{◌≡◌, ℕ, zero, suc, ◌+◌, ◌-◌, List, [], ◌∷◌, ◌++◌, Option, Some, None, Result, Ok, Err, refl, sym, ap, subst, ◌∙◌, length, drop, arith}
use Rattle.std.proofs.lemmas.Bool.{eqb-true, eq-eqb, ltb-true, le-leb, false≢true}
use Rattle.std.specs.Prelude.{Bool, true, false, not, ◌&&◌, ◌||◌, ◌==◌, if◌then◌else◌, nat_le, nat_lt, pos, slice_get, slice_set, replicate, filter}
use Rattle.stack_marks.specs.Stacks.{StackValue}
use Rattle.stack_marks.specs.declared.mark.Mark.{Mark}
use Rattle.tpal_syntax.specs.declared.blocks.Block.{Block}
use Rattle.tpal_syntax.specs.declared.instructions.Instr.{Instr}
use Rattle.tpal_syntax.specs.declared.instructions.Instr.TheVariants.{Fork}
use Rattle.tpal_syntax.specs.declared.words.Word.{Word}
use Rattle.tpal_syntax.specs.declared.words.Word.TheVariants as word
use Rattle.tpal_syntax.specs.Listing.{Listing}
use Rattle.tpal_machine.specs.declared.ends.Goal.{Goal}
use Rattle.tpal_machine.specs.declared.ends.Goal.TheVariants as goal
use Rattle.tpal_machine.specs.declared.ends.Tie.{Tie}
use Rattle.tpal_machine.specs.declared.faults.Fault.{Fault}
use Rattle.tpal_machine.specs.declared.faults.Fault.TheVariants as fault
use Rattle.tpal_machine.specs.Cut.{Forked}
use Rattle.tpal_machine.specs.State.{State}
use Rattle.tpal_verify.specs.declared.kinds.Kind.{Kind}
use Rattle.tpal_verify.specs.declared.kinds.Kind.TheVariants.{Number, Empty, Own, Up, Pend, Met, Back, Any}
use Rattle.tpal_verify.specs.declared.phases.Phase.{Phase}
use Rattle.tpal_verify.specs.declared.phases.Phase.TheVariants.{Calm, Compared, Asked, Tested, Given}
use Rattle.tpal_verify.specs.Kinds.{kind_eq}
use Rattle.std.specs.Prelude.{take, map, is_some}
use Rattle.std.specs.List.{list_all}
use Rattle.stack_marks.specs.Stacks as stacks
use Rattle.tpal_syntax.specs.declared.notes.CarryAt.{CarryAt}
use Rattle.tpal_syntax.specs.declared.notes.CarryAt.TheVariants as carry
use Rattle.tpal_syntax.specs.declared.notes.CutKind.{CutKind}
use Rattle.tpal_syntax.specs.declared.notes.CutKind.TheVariants as cut
use Rattle.tpal_syntax.specs.declared.notes.Note.{Note}
use Rattle.tpal_syntax.specs.declared.notes.Note.TheVariants as note
use Rattle.tpal_syntax.specs.declared.notes.Target.{Target}
use Rattle.tpal_syntax.specs.Conditions.{IsCode, IsNote, IsTarget, is_renamed}
use Rattle.tpal_syntax.specs.Parts.{is_register}
use Rattle.tpal_machine.specs.declared.cut.TableCut.{TableCut}
use Rattle.tpal_machine.specs.declared.cut.TableCut.TheVariants.{ByRows, ByCells}
use Rattle.tpal_machine.specs.declared.ends.Side.{Side}
use Rattle.tpal_machine.specs.declared.ends.SideName.TheVariants as side
use Rattle.tpal_machine.specs.Calculation.{on_number}
use Rattle.tpal_machine.specs.Cut.{carried_at, with_cut, carried, parts, on_record, on_pending, on_cuts, forked_at, fork_under}
use Rattle.tpal_machine.specs.Effect.{holds_cells, on_oldest}
use Rattle.tpal_machine.specs.Merge.{filled, renamed, merged_registers, merged_task}
use Rattle.tpal_machine.specs.Reading.{register, block_at, the_target}
use Rattle.tpal_machine.specs.Reading as reading
use Rattle.tpal_machine.specs.State.{no_words}
use Rattle.tpal_machine.specs.Step.{Step, executed, forked}
use Rattle.tpal_machine.proofs.Belonging.{note_right}
use Rattle.tpal_verify.specs.Breaks.{MeetsRules}
use Rattle.tpal_verify.specs.Flat.{Ground, ground_of, is_inner, is_flat_note, is_loop}
use Rattle.tpal_verify.specs.Kinds.{parted, kept}
use Rattle.tpal_verify.specs.Rounds.{Shapes, holds, holds_all, each_has, found, left_kinds, right_kinds, comb_shape, comb_flow, comb_flows}
use Rattle.tpal_verify.specs.Rules as rules
use Rattle.tpal_verify.specs.Rules.{note_at, carries_of, is_number_at, cuts_by_numbers}
use Rattle.tpal_verify.specs.Shapes.{Shape, kind_at, left_shape, child_shape}
use Rattle.tpal_verify.specs.Fits.{IsOwnWord, IsTiedWord, IsNumberWord, IsOfKind, AreOfKinds, IsTheMark, OneMark, MarkIs, GrantIs, HoldsIn, Holds, IsApart, IsGiven, Knows, IsFoundWord, AreFoundWords, AnyJoin, joins_of}
use Rattle.tpal_verify.proofs.Order.{and_left, and_right, and_both, if_is}
use Rattle.tpal_verify.proofs.Holding.{set_both, set_kind, all_kinds, parted_is, kept_is, register_is, holds_above}
use Rattle.tpal_verify.proofs.Walking.{stands_at, flat_at}
use Rattle.tpal_verify.proofs.Ahead.{set_other, not_same, no_test}
use Rattle.tpal_verify.proofs.Entering.{block_below, note_flat, at_start, StepKnows}
use Rattle.tpal_verify.proofs.Instructions.{Here, goes_on, marked_is}
use Rattle.tpal_verify.proofs.Numbers.{number_at}

-- ---- words

set_same : (ws : List Word) (r : ℕ) (w : Word) → register ws r ≡ w → slice_set ws r w ≡ ws
set_same [] r w q = refl
set_same (x ∷ ws) zero w q = ap (λ y. y ∷ ws) (sym q)
set_same (x ∷ ws) (suc r) w q = ap (λ ys. x ∷ ys) (set_same ws r w q)

take_all : (n : ℕ) (ws : List Word) → length ws ≡ n → take n ws ≡ ws
take_all zero [] q = refl
take_all (suc n) [] q = refl
take_all zero (w ∷ ws) q = absurd (omega (arith, q))
take_all (suc n) (w ∷ ws) q = ap (λ ys. w ∷ ys) (take_all n ws (omega (arith, q)))

-- ---- cuts

-- the places at which tables are cut are there, where registers hold numbers
pub record IsCut {X : Type 0} (r : Result X Fault) : Type 0 where
  pub value : X
  pub is : r ≡ Ok value

row_cut : (table : ℕ) (w : Word) → IsNumberWord w → IsCut {X = ℕ × TableCut} (on_number w (λ i. Ok (table, ByRows i)))
row_cut table (word.Int i) n = record { value = (table, ByRows i); is = refl }
row_cut table (word.Label l) n = absurd n
row_cut table (word.Rec k) n = absurd n
row_cut table word.Nil n = absurd n

cell_cut : (table : ℕ) (a b : Word) → IsNumberWord a → IsNumberWord b → IsCut {X = ℕ × TableCut} (on_number a (λ i. on_number b (λ j. Ok (table, ByCells i j))))
cell_cut table (word.Int i) (word.Int j) m n = record { value = (table, ByCells i j); is = refl }
cell_cut table (word.Int i) (word.Label l) m n = absurd n
cell_cut table (word.Int i) (word.Rec k) m n = absurd n
cell_cut table (word.Int i) word.Nil m n = absurd n
cell_cut table (word.Label l) b m n = absurd m
cell_cut table (word.Rec k) b m n = absurd m
cell_cut table word.Nil b m n = absurd m

both_cut : {c : Result (ℕ × TableCut) Fault} {cs : Result (List (ℕ × TableCut)) Fault} → IsCut c → IsCut cs → IsCut (with_cut c cs)
both_cut {c} {cs} x y = record { value = x.value ∷ y.value; is = (λ i. with_cut (x.is i) (y.is i)) }

module _ (s : Shape) (ws : List Word) (numbers : (r : ℕ) → is_number_at s r ≡ true → IsNumberWord (register ws r)) where
  one_cut : (c : CarryAt) → cuts_by_numbers s c ≡ true → IsCut (carried_at ws c)
  one_cut (carry.Rows table at) q = row_cut table (register ws at) (numbers at q)
  one_cut (carry.Cells table row at) q = cell_cut table (register ws row) (register ws at) (numbers row (and_left (is_number_at s row) (is_number_at s at) q)) (numbers at (and_right (is_number_at s row) (is_number_at s at) q))

  all_cut : (cs : List CarryAt) → list_all (cuts_by_numbers s) cs ≡ true → IsCut (carried ws cs)
  all_cut [] q = record { value = []; is = refl }
  all_cut (c ∷ cs) q = both_cut (one_cut c (and_left (cuts_by_numbers s c) (list_all (cuts_by_numbers s) cs) q)) (all_cut cs (and_right (cuts_by_numbers s c) (list_all (cuts_by_numbers s) cs) q))

-- ---- notes

target_same : (o : Option Block) → (reading.or_plain (reading.target_of (reading.note_of o))).carries ≡ carries_of (rules.note_of o)
target_same None = refl
target_same (Some b) = by b.note
  where
    by : (n : Note) → (reading.or_plain (reading.target_of n)).carries ≡ carries_of n
    by note.Plain = refl
    by (note.Ready handler) = refl
    by (note.Target target) = refl

-- ---- what a renaming fills in

module _ (whole : Ground) (g : Goal) (tie : Tie) (joins : List (List Kind)) where
  abbrev Of : Kind → Word → Type 0
  Of k w = IsOfKind whole g None (Some tie) k w

  found_by : (a b : Bool) (w : Word) → IsFoundWord (if a then Number else (if b then Met else Any)) tie.rec w → Of (if a then Number else (if b then Met else Any)) w
  found_by true b w i = i
  found_by false true w i = i
  found_by false false w i = tt

  found_is : (r : ℕ) (w : Word) → IsFoundWord (found joins r) tie.rec w → Of (found joins r) w
  found_is r w i = found_by (each_has Number r joins) (each_has Own r joins) w i

  left_filled : (ps : List (ℕ × ℕ)) (ws : List (ℕ × Word)) (ks : List Kind) (rs : List Word) → map (λ w. w.0) ws ≡ map (λ p. p.0) ps → AreFoundWords joins tie.rec ws → AreOfKinds Of ks rs → AreOfKinds Of (left_kinds joins ks ps) (filled rs ws)
  left_filled [] [] ks rs n f h = h
  left_filled [] (w ∷ ws) ks rs n f h = absurd (no_number n)
    where
      no_number : w.0 ∷ map (λ x. x.0) ws ≡ [] → ⊥
      no_number q = cc
  left_filled (p ∷ ps) [] ks rs n f h = absurd (no_number n)
    where
      no_number : [] ≡ p.0 ∷ map (λ x. x.0) ps → ⊥
      no_number q = cc
  left_filled (p ∷ ps) (w ∷ ws) ks rs n f h =
      let e : w.0 ≡ p.0 = cc in
      left_filled ps ws (slice_set ks p.0 (found joins p.0)) (slice_set rs w.0 w.1) (let z : map (λ x. x.0) ws ≡ map (λ x. x.0) ps = cc in z) f.1
      (subst (λ i. AreOfKinds Of (slice_set ks i (found joins i)) (slice_set rs w.0 w.1)) e (set_both Of ks rs w.0 (found joins w.0) w.1 (found_is w.0 w.1 f.0) h))

  right_filled : (ps : List (ℕ × ℕ)) (ws : List (ℕ × Word)) (ks : List Kind) (rs : List Word) → map (λ w. w.0) ws ≡ map (λ p. p.0) ps → AreFoundWords joins tie.rec ws → AreOfKinds Of ks rs → AreOfKinds Of (right_kinds joins ks ps) (filled rs (renamed ps ws))
  right_filled [] ws ks rs n f h = h
  right_filled (p ∷ ps) [] ks rs n f h = absurd (no_number n)
    where
      no_number : [] ≡ p.0 ∷ map (λ x. x.0) ps → ⊥
      no_number q = cc
  right_filled (p ∷ ps) (w ∷ ws) ks rs n f h =
      let e : w.0 ≡ p.0 = cc in
      right_filled ps ws (slice_set ks p.1 (found joins p.0)) (slice_set rs p.1 w.1) (let z : map (λ x. x.0) ws ≡ map (λ x. x.0) ps = cc in z) f.1
      (set_both Of ks rs p.1 (found joins p.0) w.1 (subst (λ i. Of (found joins i) w.1) e (found_is w.0 w.1 f.0)) h)

  empty_are : (n : ℕ) (w : Word) → AreOfKinds Of (replicate n Empty) (slice_set (replicate (suc n) word.Nil) n w)
  empty_are zero w = tt
  empty_are (suc n) w = (refl, empty_are n w)

-- ---- the base stays

not_31 : (r : ℕ) → is_renamed r ≡ true → r ≡ 31 → ⊥
not_31 r q = not_same r 31 (and_right (is_register r && not (r == 30)) (not (r == 31)) q)

abbrev AreRenamed : List (ℕ × ℕ) → Type 0
AreRenamed ps = list_all (λ p. is_renamed p.0 && is_renamed p.1) ps ≡ true

left_base_kept : (ps : List (ℕ × ℕ)) (ws : List (ℕ × Word)) (rs : List Word) → map (λ w. w.0) ws ≡ map (λ p. p.0) ps → AreRenamed ps → register (filled rs ws) 31 ≡ register rs 31
left_base_kept [] [] rs n a = refl
left_base_kept [] (w ∷ ws) rs n a = absurd (no_number n)
  where
    no_number : w.0 ∷ map (λ x. x.0) ws ≡ [] → ⊥
    no_number q = cc
left_base_kept (p ∷ ps) [] rs n a = absurd (no_number n)
  where
    no_number : [] ≡ p.0 ∷ map (λ x. x.0) ps → ⊥
    no_number q = cc
left_base_kept (p ∷ ps) (w ∷ ws) rs n a =
    let e : w.0 ≡ p.0 = cc in
    left_base_kept ps ws (slice_set rs w.0 w.1) (let z : map (λ x. x.0) ws ≡ map (λ x. x.0) ps = cc in z) (and_right (is_renamed p.0 && is_renamed p.1) (list_all (λ p. is_renamed p.0 && is_renamed p.1) ps) a)
    ∙ set_other rs w.0 31 w.1 (λ q. not_31 p.0 (and_left (is_renamed p.0) (is_renamed p.1) (and_left (is_renamed p.0 && is_renamed p.1) (list_all (λ p. is_renamed p.0 && is_renamed p.1) ps) a)) (sym e ∙ q))

right_base_kept : (ps : List (ℕ × ℕ)) (ws : List (ℕ × Word)) (rs : List Word) → AreRenamed ps → register (filled rs (renamed ps ws)) 31 ≡ register rs 31
right_base_kept [] ws rs a = refl
right_base_kept (p ∷ ps) [] rs a = refl
right_base_kept (p ∷ ps) (w ∷ ws) rs a =
    right_base_kept ps ws (slice_set rs p.1 w.1) (and_right (is_renamed p.0 && is_renamed p.1) (list_all (λ p. is_renamed p.0 && is_renamed p.1) ps) a)
    ∙ set_other rs p.1 31 w.1 (λ q. not_31 p.1 (and_right (is_renamed p.0) (is_renamed p.1) (and_left (is_renamed p.0 && is_renamed p.1) (list_all (λ p. is_renamed p.0 && is_renamed p.1) ps) a)) q)

base_there : (n : ℕ) (w : Word) → register (slice_set (replicate (suc n) word.Nil) n w) n ≡ w
base_there zero w = refl
base_there (suc n) w = base_there n w

-- ---- the stacks of a cut

module _ (whole : Ground) (st : StackValue) (m : Mark) (bottom : st.base ≡ 0) (size : length st.cells ≡ whole.cells) (is : IsTheMark whole m) (marks : st.marks ≡ m ∷ []) where
  all_held : holds_cells st m.base m.cells ≡ true
  all_held = let a = is.base in let b = is.cells in and_both (nat_le st.base m.base) (nat_le (m.base + m.cells) (st.base + length st.cells)) (le-leb st.base m.base (omega (arith, bottom, a))) (le-leb (m.base + m.cells) (st.base + length st.cells) (omega (arith, bottom, size, a, b)))

  left_bottom : (kind : CutKind) → kind ≡ cut.Loop → (stacks.left_of st m.base m.cells kind).base ≡ 0
  left_bottom kind q = ap (λ k. stacks.left_base k m.base m.cells) q ∙ is.base

  left_cells : (kind : CutKind) → kind ≡ cut.Loop → (stacks.left_of st m.base m.cells kind).cells ≡ st.cells
  left_cells kind q = let a = left_bottom kind q in ap (λ k. drop k st.cells) (let z : stacks.left_base kind m.base m.cells - st.base ≡ 0 = omega (arith, a, bottom) in z)

  left_marks : (kind : CutKind) → kind ≡ cut.Loop → (stacks.left_of st m.base m.cells kind).marks ≡ m ∷ []
  left_marks kind q =
      let a = left_bottom kind q in
      ap (λ ms. filter (λ x. nat_le (stacks.left_base kind m.base m.cells) x.at) ms) marks
      ∙ if_is (nat_le (stacks.left_base kind m.base m.cells) m.at) (m ∷ []) [] (λ x. x ≡ m ∷ []) (le-leb (stacks.left_base kind m.base m.cells) m.at (omega (arith, a))) refl

  rest_cells : (stacks.rest_of st m.base m.cells).cells ≡ st.cells
  rest_cells = let a = is.base in let b = is.cells in take_all (m.base + m.cells - st.base) st.cells (omega (arith, bottom, size, a, b))

  child_cells : (stacks.child_of st m.base m.cells).cells ≡ st.cells
  child_cells =
      let a = is.base in
      let b = is.cells in
      ap (λ k. take m.cells (drop k st.cells)) (let z : m.base - st.base ≡ 0 = omega (arith, a, bottom) in z) ∙ take_all m.cells st.cells (omega (arith, size, b))

-- ---- a fork

module _ (code : Listing) (A : Shapes) where
  -- the sides of a fork know their places, and so does what they are merged to where both come to a
  -- join with words as each join finds them
  abbrev pub ForkKnown : Forked → Type 0
  ForkKnown parts =
      Knows code A parts.left
      × Knows code A parts.child
      × ((x y : Side) (ticks : ℕ) (output : List ℕ) → AnyJoin (joins_of code A)
      → map (λ w. w.0) x.words ≡ map (λ p. p.0) (the_target code parts.rest.target).renames
      → map (λ w. w.0) y.words ≡ map (λ p. p.0) (the_target code parts.rest.target).renames
      → AreFoundWords (joins_of code A) parts.rest.rec x.words
      → AreFoundWords (joins_of code A) parts.rest.rec y.words
      → Knows code A (merged_task (the_target code parts.rest.target) parts.rest x y ticks output))

-- a join target and its block
pub record TargetAt (code : Listing) (l : ℕ) : Type 0 where
  pub block : Block
  pub found : block_at code l ≡ Some block
  pub target : Target
  pub is : block.note ≡ note.Target target

module _ (code : Listing) (A : Shapes) (meets : MeetsRules code A) (right_code : IsCode code.tables code.blocks) (heartbeat : ℕ) (allowed : Bool) where
  abbrev whole : Ground
  whole = ground_of code

  abbrev F : Forked → Type 0
  F = ForkKnown code A

  pub target_in : (l : ℕ) → reading.is_target code l ≡ true → TargetAt code l
  target_in l q = by (block_at code l) refl q
    where
      of : (b : Block) → block_at code l ≡ Some b → (n : Note) → b.note ≡ n → is_some (reading.target_of n) ≡ true → TargetAt code l
      of b e note.Plain f z = absurd (false≢true z)
      of b e (note.Ready handler) f z = absurd (false≢true z)
      of b e (note.Target target) f z = record { block = b; found = e; target = target; is = f }

      by : (o : Option Block) → block_at code l ≡ o → is_some (reading.target_of (reading.note_of o)) ≡ true → TargetAt code l
      by None e z = absurd (false≢true z)
      by (Some b) e z = of b e b.note refl z

  module _ (l : ℕ) (there : TargetAt code l) where
    the_same : the_target code l ≡ there.target
    the_same = ap (λ o. reading.or_plain (reading.target_of (reading.note_of o))) there.found ∙ ap (λ n. reading.or_plain (reading.target_of n)) there.is

    flat : (is_loop there.target.kind && is_inner there.target.comb) ≡ true
    flat = subst (λ n. is_flat_note n ≡ true) there.is (note_flat whole (l == 0) there.block (flat_at code A meets l there.block there.found))

    is_a_loop : (k : CutKind) → is_loop k ≡ true → k ≡ cut.Loop
    is_a_loop cut.Loop q = refl
    is_a_loop cut.Call q = absurd (false≢true q)

    kind_is : (the_target code l).kind ≡ cut.Loop
    kind_is = ap (λ t. t.kind) the_same ∙ is_a_loop there.target.kind (and_left (is_loop there.target.kind) (is_inner there.target.comb) flat)

    comb_inner : is_inner there.target.comb ≡ true
    comb_inner = and_right (is_loop there.target.kind) (is_inner there.target.comb) flat

    is_of_code : IsTarget (length code.tables) (length code.blocks) there.target
    is_of_code = subst (IsNote code.tables code.blocks) (ap reading.note_of there.found ∙ there.is) (note_right code l right_code)

  -- what flows into the combining block
  comb_into : (l : ℕ) (there : TargetAt code l) (s : Shape) (js : List (List Kind)) → AnyJoin js → holds_all A (comb_flows whole js ((l, s) ∷ [])) ≡ true → holds A (there.target.comb, comb_shape js l there.target s) ≡ true
  comb_into l there s [] a q = absurd a
  comb_into l there s (j ∷ js) a q =
      let f = comb_shape (j ∷ js) l there.target s in
      and_left (holds A (there.target.comb, f)) true
      (subst (λ n. holds_all A (comb_flow n (j ∷ js) (l, s) ++ []) ≡ true) (ap rules.note_of there.found ∙ there.is) q)

  -- a task before a fork under the record that it was given
  module _ (block : Block) (s : Shape) (first : Bool) (rest : List Instr) (t : State) (rec child l : ℕ) (h : Here code A heartbeat allowed F block (Given rec l) s first (Fork rec child) rest t) (tie : Tie) (pending : t.pending ≡ Some tie) (same : tie.target ≡ l) (word_is : register t.registers rec ≡ word.Rec tie.rec) (there : TargetAt code tie.target) (m : Mark) (marks : t.stack.marks ≡ m ∷ []) (the_mark : IsTheMark whole m) (cuts : List (ℕ × TableCut)) where
    abbrev target : Target
    target = the_target code tie.target

    abbrev parts_are : Forked
    parts_are = parts target child tie m cuts t

    loop : target.kind ≡ cut.Loop
    loop = kind_is tie.target there

    side_registers : (g : Goal) → IsOwnWord g (word.Rec tie.rec) → AreOfKinds (IsOfKind whole g None None) (slice_set (map parted s.registers) rec Own) t.registers
    side_registers g o = set_kind (IsOfKind whole g None None) (map parted s.registers) t.registers rec Own (subst (λ w. IsOwnWord g w) (sym word_is) o) (all_kinds (IsOfKind whole t.goal t.pending t.met) (IsOfKind whole g None None) parted s.registers t.registers (parted_is whole t.goal g t.pending None t.met None) h.holds.registers_are)

    side_cells : (g : Goal) (ws : List Word) → ws ≡ t.stack.cells → AreOfKinds (IsOfKind whole g None None) (map parted s.cells) ws
    side_cells g ws q = subst (λ x. AreOfKinds (IsOfKind whole g None None) (map parted s.cells) x) (sym q) (all_kinds (IsOfKind whole t.goal t.pending t.met) (IsOfKind whole g None None) parted s.cells t.stack.cells (parted_is whole t.goal g t.pending None t.met None) h.holds.cells_are)

    left_knows : Knows code A parts_are.left
    left_knows =
        let st = stacks.left_of t.stack m.base m.cells target.kind in
        let bottom = h.holds.stack_is.0 in
        let size = h.holds.stack_is.1 in
        let cells = left_cells whole t.stack m bottom size the_mark marks target.kind loop in
        goes_on code A heartbeat allowed F block rest t Calm (left_shape rec s) parts_are.left h.found refl h.rest_is h.on
        (record {
          registers_are = side_registers (goal.At tie.rec side.Left tie.target) refl;
          base_is = h.holds.base_is;
          cells_are = side_cells (goal.At tie.rec side.Left tie.target) st.cells cells;
          stack_is = (left_bottom whole t.stack m bottom size the_mark marks target.kind loop, ap length cells ∙ size);
          end_is = tt;
          mark_is = subst (λ ms. MarkIs whole s.mark ms) (marks ∙ sym (left_marks whole t.stack m bottom size the_mark marks target.kind loop)) h.holds.mark_is;
          grant_is = tt;
          met_is = tt;
        }) refl tt tt tt

    child_knows : Knows code A parts_are.child
    child_knows =
        let inner : is_inner child ≡ true = h.obeys.flat in
        let below = ltb-true child (length code.blocks) (and_right (nat_lt rec 32) (nat_lt child (length code.blocks)) h.right) in
        let b = block_below code child below in
        let into = and_left (holds A (child, child_shape rec s)) true h.flows in
        let stands = stands_at code A meets child b.block (child_shape rec s) b.is into in
        let st = stacks.child_of t.stack m.base m.cells in
        let bottom = h.holds.stack_is.0 in
        let size = h.holds.stack_is.1 in
        let cells = child_cells whole t.stack m bottom size the_mark marks in
        let base : pos m.base ≡ pos 0 = ap pos the_mark.base in
        let rs = slice_set t.registers 31 (word.Int (pos m.base)) in
        let rs_is : rs ≡ t.registers = set_same t.registers 31 (word.Int (pos m.base)) (h.holds.base_is ∙ ap word.Int (sym base)) in
        let g = goal.At tie.rec side.Right tie.target in
        at_start code A meets right_code heartbeat allowed F child b.block (child_shape rec s) stands.shape parts_are.child b.is inner stands.well
        (holds_above whole false (child_shape rec s) stands.shape rs st g None None false stands.below
        (record {
          registers_are = subst (λ ws. AreOfKinds (IsOfKind whole g None None) (slice_set (map parted s.registers) rec Own) ws) (sym rs_is) (side_registers g refl);
          base_is = ap (λ ws. register ws 31) rs_is ∙ h.holds.base_is;
          cells_are = side_cells g st.cells cells;
          stack_is = (the_mark.base, ap length cells ∙ size);
          end_is = tt;
          mark_is = refl;
          grant_is = tt;
          met_is = tt;
        })) refl tt tt refl refl

    module _ (x y : Side) (ticks : ℕ) (output : List ℕ) (any : AnyJoin (joins_of code A)) (fx : AreFoundWords (joins_of code A) tie.rec x.words) (fy : AreFoundWords (joins_of code A) tie.rec y.words) where
      abbrev renames : List (ℕ × ℕ)
      renames = there.target.renames

      abbrev begun : List Word
      begun = slice_set no_words 31 (word.Int (pos m.base))

      merged_holds : map (λ w. w.0) x.words ≡ map (λ p. p.0) renames → map (λ w. w.0) y.words ≡ map (λ p. p.0) renames
          → HoldsIn whole false (comb_shape (joins_of code A) tie.target there.target s) (merged_registers m.base renames x.words y.words) (stacks.rest_of t.stack m.base m.cells) t.goal None (Some tie) false
      merged_holds nx ny = record {
        registers_are = right_filled whole t.goal tie (joins_of code A) renames y.words (left_kinds (joins_of code A) (replicate 31 Empty) renames) (filled begun x.words) ny fy
            (left_filled whole t.goal tie (joins_of code A) renames x.words (replicate 31 Empty) begun nx fx (empty_are whole t.goal tie (joins_of code A) 31 (word.Int (pos m.base))));
        base_is =
            right_base_kept renames y.words (filled begun x.words) (is_of_code tie.target there).registers
            ∙ (left_base_kept renames x.words begun nx (is_of_code tie.target there).registers ∙ (base_there 31 (word.Int (pos m.base)) ∙ ap (λ n. word.Int (pos n)) the_mark.base));
        cells_are = subst (λ ws. AreOfKinds (IsOfKind whole t.goal None (Some tie)) (map kept s.cells) ws) (sym (rest_cells whole t.stack m h.holds.stack_is.0 h.holds.stack_is.1 the_mark marks))
            (all_kinds (IsOfKind whole t.goal t.pending t.met) (IsOfKind whole t.goal None (Some tie)) kept s.cells t.stack.cells (kept_is whole t.goal t.pending None t.met (Some tie)) h.holds.cells_are);
        stack_is = (h.holds.stack_is.0, ap length (rest_cells whole t.stack m h.holds.stack_is.0 h.holds.stack_is.1 the_mark marks) ∙ h.holds.stack_is.1);
        end_is = h.holds.end_is;
        mark_is = refl;
        grant_is = tt;
        met_is = refl;
      }

      merged_knows : map (λ w. w.0) x.words ≡ map (λ p. p.0) renames → map (λ w. w.0) y.words ≡ map (λ p. p.0) renames → Knows code A (merged_task there.target parts_are.rest x y ticks output)
      merged_knows nx ny =
          let comb = there.target.comb in
          let shape = comb_shape (joins_of code A) tie.target there.target s in
          let b = block_below code comb (is_of_code tie.target there).comb_is_block in
          let into = comb_into tie.target there s (joins_of code A) any (subst (λ k. holds_all A (comb_flows whole (joins_of code A) ((k, s) ∷ [])) ≡ true) (sym same) h.combines) in
          let stands = stands_at code A meets comb b.block shape b.is into in
          at_start code A meets right_code heartbeat allowed F comb b.block shape stands.shape (merged_task there.target parts_are.rest x y ticks output) b.is (comb_inner tie.target there) stands.well
          (holds_above whole false shape stands.shape (merged_registers m.base renames x.words y.words) (stacks.rest_of t.stack m.base m.cells) t.goal None (Some tie) false stands.below (merged_holds nx ny))
          refl (subst (λ o. IsApart t.goal o) pending h.pending_apart) tt refl refl

    pub forked_known : ForkKnown code A parts_are
    forked_known = (
      left_knows,
      child_knows,
      λ x y ticks output any nx ny fx fy.
          subst (λ g. Knows code A (merged_task g parts_are.rest x y ticks output)) (sym (the_same tie.target there))
          (merged_knows x y ticks output any fx fy
          (subst (λ (g : Target). map (λ w. w.0) x.words ≡ map (λ p. p.0) g.renames) (the_same tie.target there) nx)
          (subst (λ (g : Target). map (λ w. w.0) y.words ≡ map (λ p. p.0) g.renames) (the_same tie.target there) ny)),
    )

  abbrev Gives : Step → Type 0
  Gives x = StepKnows code A F x

  pend_kind : (k : Kind) → kind_eq k Pend ≡ true → k ≡ Pend
  pend_kind Pend q = refl
  pend_kind Number q = absurd (false≢true q)
  pend_kind Empty q = absurd (false≢true q)
  pend_kind Own q = absurd (false≢true q)
  pend_kind Up q = absurd (false≢true q)
  pend_kind Met q = absurd (false≢true q)
  pend_kind (Back h) q = absurd (false≢true q)
  pend_kind Any q = absurd (false≢true q)

  -- where no record is pending no fork stands
  not_calm : (s : Shape) (t : State) (rec : ℕ) → kind_eq (kind_at s rec) Pend ≡ true → Holds whole false s t → t.pending ≡ None → ⊥
  not_calm s t rec q h n =
      subst (λ o. IsTiedWord o (register t.registers rec)) n
      (subst (λ k. IsOfKind whole t.goal t.pending t.met k (register t.registers rec)) (pend_kind (kind_at s rec) q) (register_is whole false s t.registers t.stack t.goal t.pending t.met t.beat.granted h rec))

  module _ (block : Block) (s : Shape) (first : Bool) (rest : List Instr) (t : State) (rec child l : ℕ) (h : Here code A heartbeat allowed F block (Given rec l) s first (Fork rec child) rest t) (there : (tie : Tie) → t.pending ≡ Some tie → TargetAt code tie.target) where
    pending_there : kind_eq (kind_at s rec) Pend ≡ true
    pending_there = and_left (kind_eq (kind_at s rec) Pend) s.granted h.obeys.forks

    number_in : (r : ℕ) → is_number_at s r ≡ true → IsNumberWord (register t.registers r)
    number_in r q = number_at code A heartbeat allowed F block s t r q h.holds

    cuts_there : (tie : Tie) → tie.target ≡ l → IsCut (carried t.registers (the_target code tie.target).carries)
    cuts_there tie same =
        all_cut s t.registers number_in (the_target code tie.target).carries
        (subst (λ cs. list_all (cuts_by_numbers s) cs ≡ true) (sym (ap (λ k. (the_target code k).carries) same ∙ target_same (block_at code l)))
        (by (kind_eq (kind_at s rec) Pend) pending_there h.obeys.numbers))
      where
        by : (b : Bool) → b ≡ true → (not b || list_all (cuts_by_numbers s) (carries_of (note_at whole l))) ≡ true → list_all (cuts_by_numbers s) (carries_of (note_at whole l)) ≡ true
        by true q z = z
        by false q z = absurd (false≢true q)

    granted_is : (a b : Bool) → a ≡ true → GrantIs a b → b ≡ true
    granted_is true b q g = g
    granted_is false b q g = absurd (false≢true q)

    forks_under : (tie : Tie) → t.pending ≡ Some tie → tie.target ≡ l → register t.registers rec ≡ word.Rec tie.rec → Gives (forked (fork_under code child tie t))
    forks_under tie e same w =
        if_is t.beat.granted _ _ (λ x. Gives (forked x)) (granted_is s.granted t.beat.granted (and_right (kind_eq (kind_at s rec) Pend) s.granted h.obeys.forks) h.holds.grant_is)
        (by t.stack.marks refl (marked_is code A heartbeat allowed F block s.mark t.stack.marks h.obeys.marks h.holds.mark_is))
      where
        by : (ms : List Mark) → t.stack.marks ≡ ms → OneMark whole ms → Gives (forked (on_oldest (slice_get t.stack.marks 0) (λ mark. forked_at code child tie mark t)))
        by [] q o = absurd o
        by (m ∷ []) q o =
            let c = cuts_there tie same in
            subst (λ ms. Gives (forked (on_oldest (slice_get ms 0) (λ mark. forked_at code child tie mark t)))) (sym q)
            (if_is (holds_cells t.stack m.base m.cells) _ _ (λ x. Gives (forked x)) (all_held whole t.stack m h.holds.stack_is.0 h.holds.stack_is.1 o q)
            (subst (λ r. Gives (forked (on_cuts r (λ cuts. Ok (parts (the_target code tie.target) child tie m cuts t))))) (sym c.is)
            (forked_known block s first rest t rec child l h tie e same w (there tie e) m q o c.value)))
        by (m ∷ n ∷ ms) q o = absurd o

    given_forks : (o : Option Tie) → t.pending ≡ o → IsGiven l o (register t.registers rec) → Gives (executed code heartbeat allowed (Fork rec child) t)
    given_forks None e g = absurd g
    given_forks (Some tie) e g =
        subst (λ w. Gives (forked (on_record w (λ k. on_pending t.pending k (λ x. fork_under code child x t))))) (sym g.1)
        (subst (λ o. Gives (forked (on_pending o tie.rec (λ x. fork_under code child x t)))) (sym e)
        (if_is (tie.rec == tie.rec) (fork_under code child tie t) (Err fault.WrongRecord) (λ x. Gives (forked x)) (eq-eqb tie.rec tie.rec refl)
        (forks_under tie e g.0 g.1)))

  pub fork_comes : (block : Block) (p : Phase) (s : Shape) (first : Bool) (rest : List Instr) (t : State) (rec child : ℕ) → ((tie : Tie) → t.pending ≡ Some tie → TargetAt code tie.target) → Here code A heartbeat allowed F block p s first (Fork rec child) rest t → Gives (executed code heartbeat allowed (Fork rec child) t)
  fork_comes block Calm s first rest t rec child there h = absurd (not_calm s t rec (and_left (kind_eq (kind_at s rec) Pend) s.granted h.obeys.forks) h.holds h.in_phase)
  fork_comes block (Compared r x) s first rest t rec child there h = absurd (not_calm s t rec (and_left (kind_eq (kind_at s rec) Pend) s.granted h.obeys.forks) h.holds h.in_phase.0)
  fork_comes block (Asked r l) s first rest t rec child there h = absurd (no_test r (Fork rec child) rest refl h.ahead)
  fork_comes block (Tested r x l) s first rest t rec child there h = absurd (false≢true h.ahead)
  fork_comes block (Given r l) s first rest t rec child there h = by r (eqb-true rec r h.ahead) h
    where
      by : (q : ℕ) → rec ≡ q → Here code A heartbeat allowed F block (Given q l) s first (Fork rec child) rest t → Gives (executed code heartbeat allowed (Fork rec child) t)
      by q e g =
          let g2 = subst (λ k. Here code A heartbeat allowed F block (Given k l) s first (Fork rec child) rest t) (sym e) g in
          given_forks block s first rest t rec child l g2 there t.pending refl g2.in_phase
