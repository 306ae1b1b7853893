-- What the instructions of a task that knows its place come to, but for jumps, questions and forks.
use Rattle.std.proofs.Common.{◌≡◌, ℕ, ℤ, zero, suc, ◌-◌, ◌<◌, ◌+ℤ◌, List, [], ◌∷◌, Option, Some, None, Ok, refl, sym, ap, subst, ◌∙◌, length, drop, arith}
use Rattle.std.proofs.Math.IntN.{+ℤ_idl}
use Rattle.std.proofs.lemmas.Bool.{eqb-true, ltb-true, le-leb, false≢true}
use Rattle.std.proofs.lemmas.List.{length-set}
use Rattle.std.specs.Prelude.{Bool, true, false, ◌==◌, if◌then◌else◌, nat_le, nat_lt, pos, slice_get, slice_set}
use Rattle.stack_marks.specs.Stacks.{StackValue, word_at, with_word}
use Rattle.stack_marks.specs.declared.mark.Mark.{Mark}
use Rattle.tpal_syntax.specs.declared.blocks.Block.{Block}
use Rattle.tpal_syntax.specs.declared.instructions.Value.{Value}
use Rattle.tpal_syntax.specs.declared.instructions.Instr.{Instr}
use Rattle.tpal_syntax.specs.declared.instructions.Instr.TheVariants.{Move, Load, Store, PrmDrop, PrmEmpty, Rows, Cols}
use Rattle.tpal_syntax.specs.declared.words.Word.{Word}
use Rattle.tpal_syntax.specs.declared.words.Word.TheVariants as word
use Rattle.tpal_syntax.specs.Listing.{Listing}
use Rattle.tpal_syntax.specs.Parts.{is_instr}
use Rattle.tpal_machine.specs.declared.ends.Goal.{Goal}
use Rattle.tpal_machine.specs.declared.ends.Tie.{Tie}
use Rattle.tpal_machine.specs.Calculation.{on_number}
use Rattle.tpal_machine.specs.Cut.{Forked}
use Rattle.tpal_machine.specs.Effect as effect
use Rattle.tpal_machine.specs.Effect.{on_cell, on_oldest}
use Rattle.tpal_machine.specs.Reading.{register, operand, with_register, block_at}
use Rattle.tpal_machine.specs.State.{State}
use Rattle.tpal_machine.specs.Step.{Step, stepped, executed}
use Rattle.tpal_verify.specs.declared.kinds.Kind.{Kind}
use Rattle.tpal_verify.specs.declared.kinds.Kind.TheVariants.{Number, Empty, Own, Up, Pend, Met, Back, Any}
use Rattle.tpal_verify.specs.declared.kinds.MarkFact.{MarkFact}
use Rattle.tpal_verify.specs.declared.kinds.MarkFact.TheVariants.{Marked, Clear, Maybe}
use Rattle.tpal_verify.specs.declared.phases.Phase.{Phase}
use Rattle.tpal_verify.specs.declared.phases.Phase.TheVariants.{Calm}
use Rattle.tpal_verify.specs.Kinds.{kind_eq, is_marked, is_clear}
use Rattle.tpal_verify.specs.Shapes.{Shape, cell_at, with_kind, with_cell, with_mark}
use Rattle.tpal_verify.specs.Flat.{Ground, ground_of, is_free, is_flat_value, is_cell}
use Rattle.tpal_verify.specs.Rules.{value_kind}
use Rattle.tpal_verify.specs.Walk.{going, after_other}
use Rattle.tpal_verify.specs.Rounds.{Shapes, holds_all, comb_flows}
use Rattle.tpal_verify.specs.Well.{GoesWell}
use Rattle.tpal_verify.specs.Fits.{IsNumberWord, IsOfKind, OneMark, OneMarkOrNone, MarkIs, Holds, IsApart, InPhase, Ahead, Knows}
use Rattle.tpal_verify.proofs.Order.{and_left, and_right, if_is}
use Rattle.tpal_verify.proofs.Holding.{set_both, kind_is, operand_is}
use Rattle.tpal_verify.proofs.Walking.{joins, OnWell}
use Rattle.tpal_verify.proofs.Ahead.{Obeys, calm_at, set_other, not_same, after_write, ahead_of_write, move_writes, load_writes, after_store}
use Rattle.tpal_verify.proofs.Entering.{StepKnows}

-- ---- words

pub number_kind : (whole : Ground) (g : Goal) (p m : Option Tie) (k : Kind) (w : Word) → kind_eq k Number ≡ true → IsOfKind whole g p m k w → IsNumberWord w
number_kind whole g p m Number w q is = is
number_kind whole g p m Empty w q is = absurd (false≢true q)
number_kind whole g p m Own w q is = absurd (false≢true q)
number_kind whole g p m Up w q is = absurd (false≢true q)
number_kind whole g p m Pend w q is = absurd (false≢true q)
number_kind whole g p m Met w q is = absurd (false≢true q)
number_kind whole g p m (Back h) w q is = absurd (false≢true q)
number_kind whole g p m Any w q is = absurd (false≢true q)

-- ---- cells

module _ (st : StackValue) (bottom : st.base ≡ 0) where
  from_bottom : (off : ℕ) → word_at st (pos off) ≡ slice_get st.cells off
  from_bottom off =
      (λ i. if nat_le (bottom i) off then slice_get st.cells (off - bottom i) else None)
      ∙ if_is (nat_le 0 off) (slice_get st.cells (off - 0)) None (λ x. x ≡ slice_get st.cells off) (le-leb 0 off (omega arith)) (ap (slice_get st.cells) (let z : off - 0 ≡ off = omega arith in z))

  pub cell_there : (off : ℕ) → off < length st.cells → word_at st (pos 0 +ℤ pos off) ≡ Some (register st.cells off)
  cell_there off lt = ap (word_at st) (+ℤ_idl (pos off)) ∙ (from_bottom off ∙ there st.cells off lt)
    where
      there : (ws : List Word) (i : ℕ) → i < length ws → slice_get ws i ≡ Some (register ws i)
      there [] i lt = absurd (omega (arith, lt))
      there (w ∷ ws) zero lt = refl
      there (w ∷ ws) (suc i) lt = there ws i (omega (arith, lt))

  pub cell_set : (off : ℕ) (w : Word) → with_word st (pos 0 +ℤ pos off) w ≡ record st { cells = slice_set st.cells off w }
  cell_set off w =
      ap (λ i. with_word st i w) (+ℤ_idl (pos off))
      ∙ (λ i. record { base = st.base; cells = slice_set st.cells (off - bottom i) w; marks = st.marks })
      ∙ ap (λ k. record { base = st.base; cells = slice_set st.cells k w; marks = st.marks }) (let z : off - 0 ≡ off = omega arith in z)

-- ---- a task that has counted an instruction and stands behind it

module _ (code : Listing) (A : Shapes) (heartbeat : ℕ) (allowed : Bool) (F : Forked → Type 0) (block : Block) where
  abbrev whole : Ground
  whole = ground_of code

  pub record Here (p : Phase) (s : Shape) (first : Bool) (i : Instr) (rest : List Instr) (t : State) : Type 0 where
    pub found : block_at code t.block ≡ Some block
    pub rest_is : drop t.at block.body ≡ rest
    pub obeys : Obeys whole first p s i rest
    pub flows : holds_all A (going whole p s i).flows ≡ true
    pub combines : holds_all A (comb_flows whole (joins whole A) (going whole p s i).forks) ≡ true
    pub on : OnWell whole A t.at rest block.term (going whole p s i).on
    pub holds : Holds whole false s t
    pub in_phase : InPhase p t.registers t.pending
    pub ahead : Ahead p (i ∷ rest)
    pub met_apart : IsApart t.goal t.met
    pub pending_apart : IsApart t.goal t.pending
    pub count : length t.registers ≡ 32
    pub right : is_instr (length code.tables) (length code.blocks) i ≡ true

  module _ (rest : List Instr) (t : State) where
    -- a task that goes on behind the instruction
    pub goes_on : (q : Phase) (u : Shape) (v : State) → block_at code v.block ≡ Some block → v.at ≡ t.at → drop t.at block.body ≡ rest
        → GoesWell whole A false t.at q u rest block.term → Holds whole false u v → InPhase q v.registers v.pending → Ahead q rest → IsApart v.goal v.met → IsApart v.goal v.pending → Knows code A v
    goes_on q u v found at is w h ph ah ma pa = record {
      first = false;
      shape = u;
      phase = q;
      block = block;
      found = found;
      good = subst (λ k. GoesWell whole A false k q u (drop k block.body) block.term) (sym at) (subst (λ b. GoesWell whole A false t.at q u b block.term) (sym is) w);
      holds = h;
      in_phase = ph;
      ahead = subst (λ k. Ahead q (drop k block.body)) (sym at) (subst (λ b. Ahead q b) (sym is) ah);
      opens = tt;
      met_apart = ma;
      pending_apart = pa;
    }

  pub not_base : (to : ℕ) → is_free to ≡ true → to ≡ 31 → ⊥
  not_base to f = not_same to 31 f

  pub reg_holds : (s : Shape) (t : State) (to : ℕ) (k : Kind) (w : Word) → is_free to ≡ true → IsOfKind whole t.goal t.pending t.met k w → Holds whole false s t → Holds whole false (with_kind s to k) (with_register t to w)
  reg_holds s t to k w f is h = record {
    registers_are = set_both (IsOfKind whole t.goal t.pending t.met) s.registers t.registers to k w is h.registers_are;
    base_is = set_other t.registers to 31 w (not_base to f) ∙ h.base_is;
    cells_are = h.cells_are;
    stack_is = h.stack_is;
    end_is = h.end_is;
    mark_is = h.mark_is;
    grant_is = h.grant_is;
    met_is = h.met_is;
  }

  cell_holds : (s : Shape) (t : State) (off : ℕ) (k : Kind) (w : Word) → IsOfKind whole t.goal t.pending t.met k w → Holds whole false s t → Holds whole false (with_cell s off k) (record t { stack = record t.stack { cells = slice_set t.stack.cells off w } })
  cell_holds s t off k w is h = record {
    registers_are = h.registers_are;
    base_is = h.base_is;
    cells_are = set_both (IsOfKind whole t.goal t.pending t.met) s.cells t.stack.cells off k w is h.cells_are;
    stack_is = (h.stack_is.0, length-set t.stack.cells off w ∙ h.stack_is.1);
    end_is = h.end_is;
    mark_is = h.mark_is;
    grant_is = h.grant_is;
    met_is = h.met_is;
  }

  pub mark_holds : (s : Shape) (t : State) (m : MarkFact) (ms : List Mark) → MarkIs whole m ms → Holds whole false s t → Holds whole false (with_mark s m) (record t { stack = record t.stack { marks = ms } })
  mark_holds s t m ms is h = record {
    registers_are = h.registers_are;
    base_is = h.base_is;
    cells_are = h.cells_are;
    stack_is = h.stack_is;
    end_is = h.end_is;
    mark_is = is;
    grant_is = h.grant_is;
    met_is = h.met_is;
  }

  abbrev pub Comes : Step → Type 0
  Comes x = StepKnows code A F x

  pub is_base : (t : State) (s : Shape) (base : ℕ) → (base == 31) ≡ true → Holds whole false s t → register t.registers base ≡ word.Int (pos 0)
  is_base t s base q h = ap (register t.registers) (eqb-true base 31 q) ∙ h.base_is

  pub is_lower : (a b : ℕ) → nat_lt a b ≡ true → a < b
  is_lower a b q = ltb-true a b q

  -- ---- moves, loads and stores

  pub move_comes : (p : Phase) (s : Shape) (first : Bool) (rest : List Instr) (t : State) (to : ℕ) (value : Value) → Here p s first (Move to value) rest t → Comes (executed code heartbeat allowed (Move to value) t)
  move_comes p s first rest t to value h =
      let c = move_writes p to value rest h.ahead in
      let fl = h.obeys.flat in
      let w = operand t.registers value in
      goes_on rest t (after_other p) (with_kind s to (value_kind whole s value)) (with_register t to w) h.found refl h.rest_is h.on
      (reg_holds s t to (value_kind whole s value) w (and_left (is_free to) (is_flat_value value) fl) (operand_is whole false s t.registers t.stack t.goal t.pending t.met t.beat.granted h.holds value (and_right (is_free to) (is_flat_value value) fl)) h.holds)
      (after_write p to w t.registers t.pending (Move to value ∷ rest) rest c h.in_phase) (ahead_of_write p to (Move to value ∷ rest) rest c) h.met_apart h.pending_apart

  pub in_cells : (s : Shape) (t : State) (base off : ℕ) → is_cell whole.cells base off ≡ true → Holds whole false s t → off < length t.stack.cells
  in_cells s t base off q h = let a = is_lower off whole.cells (and_right (base == 31) (nat_lt off whole.cells) q) in let b = h.stack_is.1 in omega (arith, a, b)

  pub load_comes : (p : Phase) (s : Shape) (first : Bool) (rest : List Instr) (t : State) (to base off : ℕ) → Here p s first (Load to base off) rest t → Comes (executed code heartbeat allowed (Load to base off) t)
  load_comes p s first rest t to base off h =
      let c = load_writes p to base off rest h.ahead in
      let fl = h.obeys.flat in
      let cell = and_right (is_free to) (is_cell whole.cells base off) fl in
      let w = register t.stack.cells off in
      subst (λ x. Comes (stepped (on_number x (λ i. on_cell (word_at t.stack (i +ℤ pos off)) (λ y. Ok (with_register t to y)))))) (sym (is_base t s base (and_left (base == 31) (nat_lt off whole.cells) cell) h.holds))
      (subst (λ o. Comes (stepped (on_cell o (λ y. Ok (with_register t to y))))) (sym (cell_there t.stack h.holds.stack_is.0 off (in_cells s t base off cell h.holds)))
      (goes_on rest t (after_other p) (with_kind s to (cell_at s off)) (with_register t to w) h.found refl h.rest_is h.on
      (reg_holds s t to (cell_at s off) w (and_left (is_free to) (is_cell whole.cells base off) fl) (kind_is (IsOfKind whole t.goal t.pending t.met) s.cells t.stack.cells off (λ y. tt) h.holds.cells_are) h.holds)
      (after_write p to w t.registers t.pending (Load to base off ∷ rest) rest c h.in_phase) (ahead_of_write p to (Load to base off ∷ rest) rest c) h.met_apart h.pending_apart))

  pub store_comes : (p : Phase) (s : Shape) (first : Bool) (rest : List Instr) (t : State) (base off : ℕ) (value : Value) → Here p s first (Store base off value) rest t → Comes (executed code heartbeat allowed (Store base off value) t)
  store_comes p s first rest t base off value h =
      let fl = h.obeys.flat in
      let cell = and_left (is_cell whole.cells base off) (is_flat_value value) fl in
      let w = operand t.registers value in
      let a = after_store p base off value rest t.registers t.pending h.ahead h.in_phase in
      subst (λ x. Comes (stepped (on_number x (λ i. on_cell (word_at t.stack (i +ℤ pos off)) (λ before. Ok (effect.with_stack t (with_word t.stack (i +ℤ pos off) w))))))) (sym (is_base t s base (and_left (base == 31) (nat_lt off whole.cells) cell) h.holds))
      (subst (λ o. Comes (stepped (on_cell o (λ before. Ok (effect.with_stack t (with_word t.stack (pos 0 +ℤ pos off) w)))))) (sym (cell_there t.stack h.holds.stack_is.0 off (in_cells s t base off cell h.holds)))
      (subst (λ st. Knows code A (effect.with_stack t st)) (sym (cell_set t.stack h.holds.stack_is.0 off w))
      (goes_on rest t (after_other p) (with_cell s off (value_kind whole s value)) (record t { stack = record t.stack { cells = slice_set t.stack.cells off w } }) h.found refl h.rest_is h.on
      (cell_holds s t off (value_kind whole s value) w (operand_is whole false s t.registers t.stack t.goal t.pending t.met t.beat.granted h.holds value (and_right (is_cell whole.cells base off) (is_flat_value value) fl)) h.holds)
      a.0 a.1 h.met_apart h.pending_apart)))

  -- ---- marks

  pub clear_is : (m : MarkFact) (ms : List Mark) → is_clear m ≡ true → MarkIs whole m ms → ms ≡ []
  clear_is Marked ms q h = absurd (false≢true q)
  clear_is Clear ms q h = h
  clear_is Maybe ms q h = absurd (false≢true q)

  pub marked_is : (m : MarkFact) (ms : List Mark) → is_marked m ≡ true → MarkIs whole m ms → OneMark whole ms
  marked_is Marked ms q h = h
  marked_is Clear ms q h = absurd (false≢true q)
  marked_is Maybe ms q h = absurd (false≢true q)

  pub at_most_one : (m : MarkFact) (ms : List Mark) → MarkIs whole m ms → OneMarkOrNone whole ms
  at_most_one Marked [] h = tt
  at_most_one Marked (x ∷ ms) h = h
  at_most_one Clear ms h = subst (OneMarkOrNone whole) (sym h) tt
  at_most_one Maybe ms h = h

  pub drop_comes : (p : Phase) (s : Shape) (first : Bool) (rest : List Instr) (t : State) → Here p s first PrmDrop rest t → Comes (executed code heartbeat allowed PrmDrop t)
  drop_comes p s first rest t h = by t.stack.marks refl (marked_is s.mark t.stack.marks h.obeys.marks h.holds.mark_is)
    where
      by : (ms : List Mark) → t.stack.marks ≡ ms → OneMark whole ms → Comes (stepped (on_oldest (slice_get ms 0) (λ m. Ok (effect.with_stack t (record { base = t.stack.base; cells = t.stack.cells; marks = drop 1 ms })))))
      by [] q o = absurd o
      by (m ∷ []) q o = goes_on rest t Calm (with_mark s Clear) (record t { stack = record t.stack { marks = [] } }) h.found refl h.rest_is h.on (mark_holds s t Clear [] refl h.holds)
          (calm_at p PrmDrop rest t.registers t.pending tt h.ahead h.in_phase) tt h.met_apart h.pending_apart
      by (m ∷ n ∷ ms) q o = absurd o

  -- ---- registers that get numbers

  pub number_comes : (p : Phase) (s : Shape) (rest : List Instr) (t v : State) (to : ℕ) (n : ℤ) → block_at code v.block ≡ Some block → v.at ≡ t.at → drop t.at block.body ≡ rest → GoesWell whole A false t.at Calm (with_kind s to Number) rest block.term
      → is_free to ≡ true → v.pending ≡ None → Holds whole false s v → IsApart v.goal v.met → IsApart v.goal v.pending → Knows code A (with_register v to (word.Int n))
  number_comes p s rest t v to n found at is w f pn h ma pa =
      goes_on rest t Calm (with_kind s to Number) (with_register v to (word.Int n)) found at is w (reg_holds s v to Number (word.Int n) f tt h) pn tt ma pa

  pub empty_comes : (p : Phase) (s : Shape) (first : Bool) (rest : List Instr) (t : State) (r : ℕ) → Here p s first (PrmEmpty r) rest t → Comes (executed code heartbeat allowed (PrmEmpty r) t)
  empty_comes p s first rest t r h = number_comes p s rest t t r _ h.found refl h.rest_is h.on h.obeys.flat (calm_at p (PrmEmpty r) rest t.registers t.pending tt h.ahead h.in_phase) h.holds h.met_apart h.pending_apart

  pub rows_comes : (p : Phase) (s : Shape) (first : Bool) (rest : List Instr) (t : State) (to table : ℕ) → Here p s first (Rows to table) rest t → Comes (executed code heartbeat allowed (Rows to table) t)
  rows_comes p s first rest t to table h = number_comes p s rest t t to _ h.found refl h.rest_is h.on h.obeys.flat (calm_at p (Rows to table) rest t.registers t.pending tt h.ahead h.in_phase) h.holds h.met_apart h.pending_apart

  pub cols_comes : (p : Phase) (s : Shape) (first : Bool) (rest : List Instr) (t : State) (to table : ℕ) → Here p s first (Cols to table) rest t → Comes (executed code heartbeat allowed (Cols to table) t)
  cols_comes p s first rest t to table h = number_comes p s rest t t to _ h.found refl h.rest_is h.on h.obeys.flat (calm_at p (Cols to table) rest t.registers t.pending tt h.ahead h.in_phase) h.holds h.met_apart h.pending_apart
