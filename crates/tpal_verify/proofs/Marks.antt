-- What instructions on the activation and its mark come to.
use Rattle.std.proofs.Common.{◌≡◌, ℕ, zero, suc, ◌+◌, ◌<◌, ◌^◌, ◌+ℤ◌, List, [], ◌∷◌, ◌++◌, Option, Some, None, Ok, Err, refl, sym, ap, subst, ◌∙◌, length, drop, arith}
use Rattle.std.proofs.Math.IntN.{+ℤ_idl}
use Rattle.std.proofs.lemmas.Bool.{eqb-true, eq-eqb, leb-true, le-leb, false≢true}
use Rattle.std.proofs.lemmas.Bool.Decides.{nat_tests}
use Rattle.std.proofs.lemmas.Cmp.{int_eq_equiv}
use Rattle.std.specs.Prelude.{Bool, true, false, not, ◌&&◌, ◌==◌, if◌then◌else◌, nat_le, nat_lt, pos, slice_get, replicate, filter}
use Rattle.std.specs.Ordering.{int_eq}
use Rattle.stack_marks.specs.Stacks.{StackValue, pushed, unmarked}
use Rattle.stack_marks.specs.declared.mark.Mark.{Mark}
use Rattle.tpal_syntax.specs.declared.blocks.Block.{Block}
use Rattle.tpal_syntax.specs.declared.instructions.Instr.{Instr}
use Rattle.tpal_syntax.specs.declared.instructions.Instr.TheVariants.{Salloc, PrmPush, PrmPop, PrmSplit}
use Rattle.tpal_syntax.specs.declared.words.Word.TheVariants as word
use Rattle.tpal_syntax.specs.Listing.{Listing}
use Rattle.tpal_syntax.specs.Parts.{is_instr}
use Rattle.tpal_machine.specs.declared.faults.Fault.TheVariants as fault
use Rattle.tpal_machine.specs.Calculation.{on_number}
use Rattle.tpal_machine.specs.Cut.{Forked}
use Rattle.tpal_machine.specs.Effect as effect
use Rattle.tpal_machine.specs.Effect.{on_cell, on_oldest}
use Rattle.tpal_machine.specs.Reading.{with_register, block_at}
use Rattle.tpal_machine.specs.State.{State}
use Rattle.tpal_machine.specs.Step.{Step, stepped, executed}
use Rattle.tpal_verify.specs.declared.kinds.Kind.TheVariants.{Number, Any}
use Rattle.tpal_verify.specs.declared.kinds.MarkFact.TheVariants.{Marked, Clear}
use Rattle.tpal_verify.specs.declared.phases.Phase.{Phase}
use Rattle.tpal_verify.specs.declared.phases.Phase.TheVariants.{Calm}
use Rattle.tpal_verify.specs.Shapes.{Shape, with_kind, with_mark}
use Rattle.tpal_verify.specs.Flat.{Ground, ground_of, is_free, is_cell, is_mark}
use Rattle.tpal_verify.specs.Rounds.{Shapes}
use Rattle.tpal_verify.specs.Well.{GoesWell}
use Rattle.tpal_verify.specs.Fits.{IsOfKind, AreOfKinds, OneMark, OneMarkOrNone, Holds, IsApart, Knows}
use Rattle.tpal_verify.proofs.Order.{and_left, and_right}
use Rattle.tpal_verify.proofs.Lower.{some_none}
use Rattle.tpal_verify.proofs.Ahead.{calm_at}
use Rattle.tpal_machine.specs.State.{empty_stack}
use Rattle.tpal_verify.specs.Flat.{mark_named, or_else, mark_in, mark_of}
use Rattle.tpal_verify.proofs.Instructions.{cell_there, Here, goes_on, reg_holds, mark_holds, Comes, is_base, is_lower, in_cells, clear_is, marked_is, at_most_one}

true_by : {X : Type 0} (Q : X → Type 0) (b : Bool) (x y : X) → b ≡ true → Q x → Q (if b then x else y)
true_by Q true x y q f = f
true_by Q false x y q f = absurd (false≢true q)

false_by : {X : Type 0} (Q : X → Type 0) (b : Bool) (x y : X) → b ≡ false → Q y → Q (if b then x else y)
false_by Q true x y q f = absurd (false≢true (sym q))
false_by Q false x y q f = f

same_number : (a b : ℕ) → a ≡ b → (a == b) ≡ true
same_number a b q = eq-eqb a b q

-- ---- the cell of the mark

is_named : (o : Option ℕ) (at off : ℕ) → o ≡ Some at → is_mark o off ≡ true → at ≡ off
is_named None at off q m = some_none at (sym q)
is_named (Some c) at off q m = sym (some_is c at q) ∙ eqb-true c off m
  where
    some_is : (x y : ℕ) → Some x ≡ Some y → x ≡ y
    some_is x y q = ap of q
      where
        of : Option ℕ → ℕ
        of None = x
        of (Some z) = z

-- where an instruction names the mark's cell, the code has one
or_else_none : (a b : Option ℕ) → or_else a b ≡ None → (a ≡ None) × (b ≡ None)
or_else_none None b q = (refl, q)
or_else_none (Some c) b q = some_none c q

named_in : (body : List Instr) (at off : ℕ) (i : Instr) → slice_get body at ≡ Some i → mark_named i ≡ Some off → mark_in body ≡ None → ⊥
named_in [] at off i q m n = some_none i (sym q)
named_in (x ∷ body) zero off i q m n = some_none off (sym m ∙ (ap named (sym q) ∙ (or_else_none (mark_named x) (mark_in body) n).0))
  where
    named : Option Instr → Option ℕ
    named None = None
    named (Some y) = mark_named y
named_in (x ∷ body) (suc at) off i q m n = named_in body at off i q m (or_else_none (mark_named x) (mark_in body) n).1

named_of : (blocks : List Block) (l at off : ℕ) (block : Block) (i : Instr) → slice_get blocks l ≡ Some block → slice_get block.body at ≡ Some i → mark_named i ≡ Some off → mark_of blocks ≡ None → ⊥
named_of [] l at off block i f q m n = some_none block (sym f)
named_of (x ∷ blocks) zero at off block i f q m n = named_in x.body at off i (ap get f ∙ q) m (or_else_none (mark_in x.body) (mark_of blocks) n).0
  where
    get : Option Block → Option Instr
    get None = None
    get (Some b) = slice_get b.body at
named_of (x ∷ blocks) (suc l) at off block i f q m n = named_of blocks l at off block i f q m (or_else_none (mark_in x.body) (mark_of blocks) n).1

-- the cell that an instruction of the code names is the mark's
mark_there : (code : Listing) (l at off : ℕ) (block : Block) (i : Instr) → slice_get code.blocks l ≡ Some block → slice_get block.body at ≡ Some i → mark_named i ≡ Some off → is_mark (mark_of code.blocks) off ≡ true → mark_of code.blocks ≡ Some off
mark_there code l at off block i f q m is = by (mark_of code.blocks) refl is
  where
    by : (o : Option ℕ) → mark_of code.blocks ≡ o → is_mark o off ≡ true → o ≡ Some off
    by None e v = absurd (named_of code.blocks l at off block i f q m e)
    by (Some c) e v = ap Some (eqb-true c off v)

module _ (code : Listing) (A : Shapes) (heartbeat : ℕ) (allowed : Bool) (F : Forked → Type 0) (block : Block) where
  abbrev whole : Ground
  whole = ground_of code

  abbrev Gives : Step → Type 0
  Gives x = Comes code A heartbeat allowed F block x

  abbrev IsHere : Phase → Shape → Bool → Instr → List Instr → State → Type 0
  IsHere p s first i rest t = Here code A heartbeat allowed F block p s first i rest t

  -- ---- the mark is taken away

  unmarked_none : (off : ℕ) (ms : List Mark) → OneMarkOrNone whole ms → is_mark whole.mark off ≡ true → filter (λ m. not (int_eq (pos m.at) (pos off))) ms ≡ []
  unmarked_none off [] o is = refl
  unmarked_none off (m ∷ []) o is = by (int_eq (pos m.at) (pos off)) (same_int m.at off (is_named whole.mark m.at off o.at is))
    where
      same_int : (a b : ℕ) → a ≡ b → int_eq (pos a) (pos b) ≡ true
      same_int a b q = subst (λ k. int_eq (pos a) (pos k) ≡ true) q (int_eq_equiv.refl (pos a))

      by : (b : Bool) → b ≡ true → (if not b then m ∷ [] else []) ≡ []
      by true q = refl
      by false q = absurd (false≢true q)
  unmarked_none off (m ∷ n ∷ ms) o is = absurd o

  pub pop_comes : (p : Phase) (s : Shape) (first : Bool) (rest : List Instr) (t : State) (base off : ℕ) → IsHere p s first (PrmPop base off) rest t → Gives (executed code heartbeat allowed (PrmPop base off) t)
  pop_comes p s first rest t base off h =
      let cell = and_left (is_cell whole.cells base off) (is_mark whole.mark off) h.obeys.flat in
      let none = ap (λ at. filter (λ m. not (int_eq (pos m.at) at)) t.stack.marks) (+ℤ_idl (pos off)) ∙ unmarked_none off t.stack.marks (at_most_one code A heartbeat allowed F block s.mark t.stack.marks h.holds.mark_is) (and_right (is_cell whole.cells base off) (is_mark whole.mark off) h.obeys.flat) in
      subst (λ x. Gives (stepped (on_number x (λ i. effect.without_mark (i +ℤ pos off) t)))) (sym (is_base code A heartbeat allowed F block t s base (and_left (base == 31) (nat_lt off whole.cells) cell) h.holds))
      (subst (λ o. Gives (stepped (on_cell o (λ w. Ok (effect.with_stack t (unmarked t.stack (pos 0 +ℤ pos off))))))) (sym (cell_there t.stack h.holds.stack_is.0 off (in_cells code A heartbeat allowed F block s t base off cell h.holds)))
      (subst (λ ms. Knows code A (record t { stack = record { base = t.stack.base; cells = t.stack.cells; marks = ms } })) (sym none)
      (goes_on code A heartbeat allowed F block rest t Calm (with_mark s Clear) (record t { stack = record t.stack { marks = [] } }) h.found refl h.rest_is h.on (mark_holds code A heartbeat allowed F block s t Clear [] refl h.holds)
      (calm_at p (PrmPop base off) rest t.registers t.pending tt h.ahead h.in_phase) tt h.met_apart h.pending_apart)))

  -- ---- the mark is set

  push_holds : (st : StackValue) (off cells split : ℕ) → st.base ≡ 0 → length st.cells ≡ cells → off < cells → effect.holds_mark st (record { at = 0 + off; base = 0; cells = cells; split = split }) ≡ true
  push_holds st off cells split b n lt = grind (arith, nat_tests)

  pub push_comes : (p : Phase) (s : Shape) (first : Bool) (rest : List Instr) (t : State) (base off cells split : ℕ) (l at : ℕ) → slice_get code.blocks l ≡ Some block → slice_get block.body at ≡ Some (PrmPush base off cells split)
      → IsHere p s first (PrmPush base off cells split) rest t → Gives (executed code heartbeat allowed (PrmPush base off cells split) t)
  push_comes p s first rest t base off cells split l at found there h =
      let three = and_left (is_cell whole.cells base off && cells == whole.cells && is_mark whole.mark off) _ h.obeys.flat in
      let two = and_left (is_cell whole.cells base off && cells == whole.cells) (is_mark whole.mark off) three in
      let cell = and_left (is_cell whole.cells base off) (cells == whole.cells) two in
      let size : cells ≡ whole.cells = eqb-true cells whole.cells (and_right (is_cell whole.cells base off) (cells == whole.cells) two) in
      let named = and_right (is_cell whole.cells base off && cells == whole.cells) (is_mark whole.mark off) three in
      let lt = is_lower code A heartbeat allowed F block off whole.cells (and_right (base == 31) (nat_lt off whole.cells) cell) in
      let none : t.stack.marks ≡ [] = clear_is code A heartbeat allowed F block s.mark t.stack.marks h.obeys.marks h.holds.mark_is in
      let m : Mark = record { at = 0 + off; base = 0; cells = cells; split = split } in
      let n = h.holds.stack_is.1 in
      subst (λ x. Gives (stepped (on_number x (λ i. effect.with_mark_from t i off cells split)))) (sym (is_base code A heartbeat allowed F block t s base (and_left (base == 31) (nat_lt off whole.cells) cell) h.holds))
      (true_by (λ x. Gives (stepped x)) (effect.holds_mark t.stack m) _ _ (push_holds t.stack off cells split h.holds.stack_is.0 (n ∙ sym size) (omega (arith, lt, size)))
      (subst (λ ms. Gives (stepped (if effect.is_marked_from ms m.at then Err fault.MarkOrder else Ok (record t { stack = record { base = t.stack.base; cells = t.stack.cells; marks = ms ++ m ∷ [] } })))) (sym none)
      (goes_on code A heartbeat allowed F block rest t Calm (with_mark s Marked) (record t { stack = record t.stack { marks = m ∷ [] } }) h.found refl h.rest_is h.on
      (mark_holds code A heartbeat allowed F block s t Marked (m ∷ []) (record { at = mark_there code l at off block (PrmPush base off cells split) found there refl named ∙ ap Some (let z : off ≡ 0 + off = omega arith in z); base = refl; cells = size }) h.holds)
      (calm_at p (PrmPush base off cells split) rest t.registers t.pending tt h.ahead h.in_phase) tt h.met_apart h.pending_apart)))

  -- ---- what the mark says

  pub split_comes : (p : Phase) (s : Shape) (first : Bool) (rest : List Instr) (t : State) (base split : ℕ) → IsHere p s first (PrmSplit base split) rest t → Gives (executed code heartbeat allowed (PrmSplit base split) t)
  split_comes p s first rest t base split h = by t.stack.marks (marked_is code A heartbeat allowed F block s.mark t.stack.marks h.obeys.marks h.holds.mark_is)
    where
      by : (ms : List Mark) → OneMark whole ms → Gives (stepped (on_oldest (slice_get ms 0) (λ m. Ok (with_register (with_register t base (word.Int (pos m.base))) split (word.Label m.split)))))
      by [] o = absurd o
      by (m ∷ []) o =
          goes_on code A heartbeat allowed F block rest t Calm (with_kind (with_kind s base Number) split Any) (with_register (with_register t base (word.Int (pos m.base))) split (word.Label m.split)) h.found refl h.rest_is h.on
          (reg_holds code A heartbeat allowed F block (with_kind s base Number) (with_register t base (word.Int (pos m.base))) split Any (word.Label m.split) (and_right (is_free base) (is_free split) h.obeys.flat) tt
          (reg_holds code A heartbeat allowed F block s t base Number (word.Int (pos m.base)) (and_left (is_free base) (is_free split) h.obeys.flat) tt h.holds))
          (calm_at p (PrmSplit base split) rest t.registers t.pending tt h.ahead h.in_phase) tt h.met_apart h.pending_apart
      by (m ∷ n ∷ ms) o = absurd o

  -- ---- the activation is made

  salloc_holds : (s : Shape) (n : ℕ) (t : State) → whole.cells ≡ n → Holds whole true s t → Holds whole false s (effect.with_stack t (pushed t.stack n))
  salloc_holds s n t size h = record {
    registers_are = h.registers_are;
    base_is = h.base_is;
    cells_are = subst (λ ws. AreOfKinds (IsOfKind whole t.goal t.pending t.met) s.cells ws) (made ∙ ap (λ st. (pushed st n).cells) (sym h.stack_is)) h.cells_are;
    stack_is = (ap (λ st. st.base) h.stack_is, ap length (ap (λ st. (pushed st n).cells) h.stack_is) ∙ (ap length (sym made) ∙ length-replicate whole.cells));
    end_is = h.end_is;
    mark_is = h.mark_is;
    grant_is = h.grant_is;
    met_is = h.met_is;
  }
    where
      made : replicate whole.cells word.Nil ≡ (pushed empty_stack n).cells
      made = ap (λ k. replicate k word.Nil) size

      length-replicate : (k : ℕ) → length (replicate k word.Nil) ≡ k
      length-replicate zero = refl
      length-replicate (suc k) = ap suc (length-replicate k)

  pub salloc_comes : (s : Shape) (rest : List Instr) (t : State) (n : ℕ) → block_at code t.block ≡ Some block → drop t.at block.body ≡ rest → is_instr (length code.tables) (length code.blocks) (Salloc n) ≡ true → whole.cells ≡ n
      → GoesWell whole A false t.at Calm s rest block.term → Holds whole true s t → t.pending ≡ None → IsApart t.goal t.met → IsApart t.goal t.pending → Gives (executed code heartbeat allowed (Salloc n) t)
  salloc_comes s rest t n found is r size on h pn ma pa =
      true_by (λ x. Gives (stepped x)) (nat_le (t.stack.base + length t.stack.cells + n) (2 ^ 62)) _ _
      (let a = leb-true n 512 r in let b = ap (λ (st : StackValue). st.base + length st.cells) h.stack_is in le-leb (t.stack.base + length t.stack.cells + n) (2 ^ 62) (omega (arith, a, b)))
      (goes_on code A heartbeat allowed F block rest t Calm s (effect.with_stack t (pushed t.stack n)) found refl is on (salloc_holds s n t size h) pn tt ma pa)
