-- What tests, jumps by them and questions for a record come to.
use Rattle.std.proofs.Common.{◌≡◌, ℕ, ℤ, zero, suc, ◌<◌, List, [], ◌∷◌, Option, Some, None, Result, Ok, Err, refl, sym, ap, subst, ◌∙◌, ◌⊎◌, inl, inr, ⊎_elim, length, drop, arith}
use Rattle.std.proofs.lemmas.Bool.{eqb-true, eq-eqb, ltb-true, false≢true}
use Rattle.std.specs.Prelude.{Bool, true, false, not, ◌&&◌, ◌||◌, ◌==◌, if◌then◌else◌, nat_lt, pos, slice_set}
use Rattle.std.specs.Ordering.{int_eq}
use Rattle.tpal_syntax.specs.declared.blocks.Block.{Block}
use Rattle.tpal_syntax.specs.declared.instructions.Alu.{Alu}
use Rattle.tpal_syntax.specs.declared.instructions.Alu.TheVariants as alu
use Rattle.tpal_syntax.specs.declared.instructions.Value.{Value}
use Rattle.tpal_syntax.specs.declared.instructions.Value.TheVariants as value
use Rattle.tpal_syntax.specs.declared.instructions.Instr.{Instr}
use Rattle.tpal_syntax.specs.declared.instructions.Instr.TheVariants.{Calc, IfJump, JrAlloc}
use Rattle.tpal_syntax.specs.declared.words.Word.{Word}
use Rattle.tpal_syntax.specs.declared.words.Word.TheVariants as word
use Rattle.tpal_syntax.specs.Conditions.{IsCode}
use Rattle.tpal_syntax.specs.Listing.{Listing}
use Rattle.tpal_syntax.specs.Parts.{is_instr}
use Rattle.tpal_machine.specs.declared.ends.Goal.{Goal}
use Rattle.tpal_machine.specs.declared.ends.Goal.TheVariants as goal
use Rattle.tpal_machine.specs.declared.ends.Tie.{Tie}
use Rattle.tpal_machine.specs.declared.faults.Fault.{Fault}
use Rattle.tpal_machine.specs.declared.faults.Fault.TheVariants as fault
use Rattle.tpal_machine.specs.Calculation.{on_numbers, divided, calculated, are_same, is_nil}
use Rattle.tpal_machine.specs.Cut.{Forked}
use Rattle.tpal_machine.specs.Effect as effect
use Rattle.tpal_machine.specs.Reading.{register, operand, with_register, block_at}
use Rattle.tpal_machine.specs.State.{State}
use Rattle.tpal_machine.specs.Step.{Step, stepped, executed}
use Rattle.tpal_verify.specs.declared.kinds.Kind.{Kind}
use Rattle.tpal_verify.specs.declared.kinds.Kind.TheVariants.{Number, Empty, Own, Up, Pend, Met, Back, Any}
use Rattle.tpal_verify.specs.declared.phases.Phase.{Phase}
use Rattle.tpal_verify.specs.declared.phases.Phase.TheVariants.{Calm, Compared, Asked, Tested, Given}
use Rattle.tpal_verify.specs.Kinds.{kind_eq}
use Rattle.tpal_verify.specs.Shapes.{Shape, kind_at, with_kind}
use Rattle.tpal_verify.specs.Flat.{Ground, ground_of, is_free, is_flat_value}
use Rattle.tpal_verify.specs.Rules.{compares, is_number_at, value_kind}
use Rattle.tpal_verify.specs.Walk.{after_other}
use Rattle.tpal_verify.specs.Rounds.{Shapes, holds_all}
use Rattle.tpal_verify.specs.Safe.{IsAllowed}
use Rattle.tpal_verify.specs.Well.{GoesWell}
use Rattle.tpal_verify.specs.Fits.{IsNumberWord, IsOfKind, AreOfKinds, Holds, IsApart, InPhase, Ahead, Knows}
use Rattle.tpal_verify.proofs.Order.{and_left, and_right}
use Rattle.tpal_verify.proofs.Lower.{some_none}
use Rattle.tpal_verify.proofs.Holding.{set_both, register_is, operand_is}
use Rattle.tpal_verify.proofs.Walking.{OnWell}
use Rattle.tpal_verify.proofs.Ahead.{calm_at, set_other, not_same, Writes, after_write, ahead_of_write}
use Rattle.tp_value.specs.Number.{wrapped, truth}
use Rattle.std.specs.Prelude.{int_div, int_rem, is_some}
use Rattle.tpal_syntax.specs.declared.notes.Note.{Note}
use Rattle.tpal_syntax.specs.declared.notes.Note.TheVariants as note
use Rattle.tpal_machine.specs.Reading as reading
use Rattle.tpal_machine.specs.Step.{asked, if_jump, enters}
use Rattle.schedule_core.specs.Machine.{left}
use Rattle.tpal_verify.specs.declared.kinds.EndFact.{EndFact}
use Rattle.tpal_verify.specs.declared.kinds.EndFact.TheVariants.{Root, Side as IsSide, Either}
use Rattle.tpal_verify.specs.Breaks.{MeetsRules}
use Rattle.tpal_verify.specs.Flat.{is_inner}
use Rattle.tpal_verify.specs.Rounds.{holds}
use Rattle.tpal_verify.specs.Rules as rules
use Rattle.tpal_verify.specs.Rules.{note_at, is_eq, jumps_by, tests_first, leads_to_fork}
use Rattle.tpal_verify.specs.Shapes.{root_shape, side_shape}
use Rattle.tpal_verify.specs.Walk.{compared, after_test, after_calc, Going, up_branch, branch}
use Rattle.tpal_verify.specs.Fits.{IsOwnWord, IsUpWord, IsTiedWord, EndIs, nil_truth, IsGiven, IsAnswer, jumps_first}
use Rattle.tpal_verify.proofs.Holding.{set_kind, same_kinds, from_calm}
use Rattle.tpal_verify.proofs.Ahead.{no_test, answer_else, given_else}
use Rattle.tpal_verify.proofs.Entering.{block_below, enters_knows}
use Rattle.tpal_verify.proofs.Instructions.{number_kind, Here, goes_on, reg_holds, Comes, not_base}
use Rattle.tpal_verify.proofs.Numbers.{number_at}

-- ---- calculations

abbrev ResultIs : Result Word Fault → Type 0
ResultIs (Ok w) = IsNumberWord w
ResultIs (Err f) = IsAllowed f

two_numbers : (a b : Word) (go : ℤ → ℤ → Result Word Fault) → IsNumberWord a → IsNumberWord b → ((m n : ℤ) → ResultIs (go m n)) → ResultIs (on_numbers a b go)
two_numbers (word.Int m) (word.Int n) go a b f = f m n
two_numbers (word.Int m) (word.Label l) go a b f = absurd b
two_numbers (word.Int m) (word.Rec k) go a b f = absurd b
two_numbers (word.Int m) word.Nil go a b f = absurd b
two_numbers (word.Label l) y go a b f = absurd a
two_numbers (word.Rec k) y go a b f = absurd a
two_numbers word.Nil y go a b f = absurd a

quotient_is : (n q : ℤ) → ResultIs (divided n q)
quotient_is n q = by (int_eq n (pos 0))
  where
    by : (b : Bool) → ResultIs (if b then Err fault.DivZero else Ok (word.Int (wrapped q)))
    by true = tt
    by false = tt

calculated_is : (op : Alu) (a b : Word) → (compares op ≡ false → IsNumberWord a × IsNumberWord b) → ResultIs (calculated op a b)
calculated_is alu.Add a b n = two_numbers a b _ (n refl).0 (n refl).1 (λ x y. tt)
calculated_is alu.Sub a b n = two_numbers a b _ (n refl).0 (n refl).1 (λ x y. tt)
calculated_is alu.Mul a b n = two_numbers a b _ (n refl).0 (n refl).1 (λ x y. tt)
calculated_is alu.Div a b n = two_numbers a b _ (n refl).0 (n refl).1 (λ x y. quotient_is y (int_div x y))
calculated_is alu.Rem a b n = two_numbers a b _ (n refl).0 (n refl).1 (λ x y. quotient_is y (int_rem x y))
calculated_is alu.Eq a b n = tt
calculated_is alu.Ne a b n = tt
calculated_is alu.Lt a b n = two_numbers a b _ (n refl).0 (n refl).1 (λ x y. tt)
calculated_is alu.Le a b n = two_numbers a b _ (n refl).0 (n refl).1 (λ x y. tt)
calculated_is alu.Min a b n = two_numbers a b _ (n refl).0 (n refl).1 (λ x y. tt)
calculated_is alu.Max a b n = two_numbers a b _ (n refl).0 (n refl).1 (λ x y. tt)
calculated_is alu.Affine a b n = two_numbers a b _ (n refl).0 (n refl).1 (λ x y. tt)

set_here : (ws : List Word) (r : ℕ) (w : Word) → r < length ws → register (slice_set ws r w) r ≡ w
set_here [] r w lt = absurd (omega (arith, lt))
set_here (x ∷ ws) zero w lt = refl
set_here (x ∷ ws) (suc r) w lt = set_here ws r w (omega (arith, lt))

same_nil : (w : Word) → are_same w word.Nil ≡ is_nil w
same_nil (word.Int n) = refl
same_nil (word.Label l) = refl
same_nil (word.Rec k) = refl
same_nil word.Nil = refl

if_known : (P : Phase → Type 0) (b : Bool) (x y : Phase) → P x → (b ≡ false → P y) → P (if b then x else y)
if_known P true x y f g = f
if_known P false x y f g = g refl

or_left : (a b : Bool) → (a || b) ≡ false → a ≡ false
or_left true b q = q
or_left false b q = refl

other_than : (a b : ℕ) → (a == b) ≡ false → a ≡ b → ⊥
other_than a b q e = false≢true (sym q ∙ eq-eqb a b e)

-- what follows a test of an answer against nil
pub record TestsFirst (r x left : ℕ) (rest : List Instr) : Type 0 where
  pub of_answer : left ≡ r
  pub elsewhere : x ≡ r → ⊥
  pub jumps : jumps_first r x rest ≡ true

tests_are : (r x left : ℕ) (rest : List Instr) → tests_first r (Calc x left alu.Eq value.Nil ∷ rest) ≡ true → TestsFirst r x left rest
tests_are r x left [] q = absurd (false≢true q)
tests_are r x left (jump ∷ body) q = by (left == r && not (x == r)) refl q
  where
    by : (b : Bool) → (left == r && not (x == r)) ≡ b → (jumps_by (if b && true && true then Some x else None) jump && leads_to_fork r body) ≡ true → TestsFirst r x left (jump ∷ body)
    by true e z = record {
      of_answer = eqb-true left r (and_left (left == r) (not (x == r)) e);
      elsewhere = not_same x r (and_right (left == r) (not (x == r)) e);
      jumps = z;
    }
    by false e z = absurd (false≢true z)

-- a calculation that isn't a test against nil
abbrev IsPlain : Alu → Value → Type 0
IsPlain alu.Add v = Unit {0}
IsPlain alu.Sub v = Unit {0}
IsPlain alu.Mul v = Unit {0}
IsPlain alu.Div v = Unit {0}
IsPlain alu.Rem v = Unit {0}
IsPlain alu.Eq (value.Reg q) = Unit {0}
IsPlain alu.Eq (value.Int z) = Unit {0}
IsPlain alu.Eq (value.Label l) = Unit {0}
IsPlain alu.Eq value.Nil = ⊥
IsPlain alu.Ne v = Unit {0}
IsPlain alu.Lt v = Unit {0}
IsPlain alu.Le v = Unit {0}
IsPlain alu.Min v = Unit {0}
IsPlain alu.Max v = Unit {0}
IsPlain alu.Affine v = Unit {0}

plain_phase : (p : Phase) (to left : ℕ) (op : Alu) (v : Value) → IsPlain op v → after_calc p to left op v ≡ after_other p
plain_phase p to left alu.Add v i = refl
plain_phase p to left alu.Sub v i = refl
plain_phase p to left alu.Mul v i = refl
plain_phase p to left alu.Div v i = refl
plain_phase p to left alu.Rem v i = refl
plain_phase p to left alu.Eq (value.Reg q) i = refl
plain_phase p to left alu.Eq (value.Int z) i = refl
plain_phase p to left alu.Eq (value.Label l) i = refl
plain_phase p to left alu.Eq value.Nil i = absurd i
plain_phase p to left alu.Ne v i = refl
plain_phase p to left alu.Lt v i = refl
plain_phase p to left alu.Le v i = refl
plain_phase p to left alu.Min v i = refl
plain_phase p to left alu.Max v i = refl
plain_phase p to left alu.Affine v i = refl

plain_is : (op : Alu) (v : Value) → IsPlain op v → (is_eq op && rules.is_nil v) ≡ false
plain_is alu.Add v i = refl
plain_is alu.Sub v i = refl
plain_is alu.Mul v i = refl
plain_is alu.Div v i = refl
plain_is alu.Rem v i = refl
plain_is alu.Eq (value.Reg q) i = refl
plain_is alu.Eq (value.Int z) i = refl
plain_is alu.Eq (value.Label l) i = refl
plain_is alu.Eq value.Nil i = absurd i
plain_is alu.Ne v i = refl
plain_is alu.Lt v i = refl
plain_is alu.Le v i = refl
plain_is alu.Min v i = refl
plain_is alu.Max v i = refl
plain_is alu.Affine v i = refl

plain_tests : (r to left : ℕ) (op : Alu) (v : Value) (rest : List Instr) → IsPlain op v → tests_first r (Calc to left op v ∷ rest) ≡ true → ⊥
plain_tests r to left op v rest i q = no_test r (Calc to left op v) rest (off (left == r && not (to == r)) (is_eq op) (rules.is_nil v) (plain_is op v i)) q
  where
    off : (a b c : Bool) → (b && c) ≡ false → (if a && b && c then Some to else None) ≡ None
    off false b c z = refl
    off true false c z = refl
    off true true false z = refl
    off true true true z = absurd (false≢true (sym z))

calc_writes : (p : Phase) (to left : ℕ) (op : Alu) (v : Value) (rest : List Instr) → IsPlain op v → Ahead p (Calc to left op v ∷ rest) → Writes to p (Calc to left op v ∷ rest) rest
calc_writes Calm to left op v rest i a = tt
calc_writes (Compared r x) to left op v rest i a = tt
calc_writes (Asked r l) to left op v rest i a = plain_tests r to left op v rest i a
calc_writes (Tested r x l) to left op v rest i a = absurd (false≢true a)
calc_writes (Given r l) to left op v rest i a = (and_left (not (to == r)) (leads_to_fork r rest) a, and_right (not (to == r)) (leads_to_fork r rest) a)

plain_or_test : (op : Alu) (v : Value) → IsPlain op v ⊎ ((op ≡ alu.Eq) × (v ≡ value.Nil))
plain_or_test alu.Add v = inl tt
plain_or_test alu.Sub v = inl tt
plain_or_test alu.Mul v = inl tt
plain_or_test alu.Div v = inl tt
plain_or_test alu.Rem v = inl tt
plain_or_test alu.Eq (value.Reg q) = inl tt
plain_or_test alu.Eq (value.Int z) = inl tt
plain_or_test alu.Eq (value.Label l) = inl tt
plain_or_test alu.Eq value.Nil = inr (refl, refl)
plain_or_test alu.Ne v = inl tt
plain_or_test alu.Lt v = inl tt
plain_or_test alu.Le v = inl tt
plain_or_test alu.Min v = inl tt
plain_or_test alu.Max v = inl tt
plain_or_test alu.Affine v = inl tt

module _ (code : Listing) (A : Shapes) (heartbeat : ℕ) (allowed : Bool) (F : Forked → Type 0) (block : Block) where
  abbrev whole : Ground
  whole = ground_of code

  abbrev Gives : Step → Type 0
  Gives x = Comes code A heartbeat allowed F block x

  abbrev IsHere : Phase → Shape → Bool → Instr → List Instr → State → Type 0
  IsHere p s first i rest t = Here code A heartbeat allowed F block p s first i rest t

  -- ---- calculations

  result_by : (t : State) (to : ℕ) (r : Result Word Fault) → ResultIs r → ((w : Word) → IsNumberWord w → r ≡ Ok w → Knows code A (with_register t to w)) → Gives (stepped (effect.put_result t to r))
  result_by t to (Ok w) is f = f w is refl
  result_by t to (Err e) is f = is

  operands_are : (p : Phase) (s : Shape) (first : Bool) (rest : List Instr) (t : State) (to left : ℕ) (op : Alu) (v : Value) → IsHere p s first (Calc to left op v) rest t → compares op ≡ false → IsNumberWord (register t.registers left) × IsNumberWord (operand t.registers v)
  operands_are p s first rest t to left op v h c =
      let n = by (compares op) c h.obeys.numbers in (
        number_at code A heartbeat allowed F block s t left (and_left (is_number_at s left) (kind_eq (value_kind whole s v) Number) n) h.holds,
        number_kind whole t.goal t.pending t.met (value_kind whole s v) (operand t.registers v) (and_right (is_number_at s left) (kind_eq (value_kind whole s v) Number) n)
            (operand_is whole false s t.registers t.stack t.goal t.pending t.met t.beat.granted h.holds v (and_right (is_free to) (is_flat_value v) h.obeys.flat)),
      )
    where
      by : (b : Bool) → b ≡ false → (b || (is_number_at s left && kind_eq (value_kind whole s v) Number)) ≡ true → (is_number_at s left && kind_eq (value_kind whole s v) Number) ≡ true
      by true q z = absurd (false≢true (sym q))
      by false q z = z

  to_below : (t : State) (to left : ℕ) (op : Alu) (v : Value) → is_instr (length code.tables) (length code.blocks) (Calc to left op v) ≡ true → length t.registers ≡ 32 → to < length t.registers
  to_below t to left op v r n = let a = ltb-true to 32 (and_left (nat_lt to 32) (nat_lt left 32) (and_left (nat_lt to 32 && nat_lt left 32) _ r)) in omega (arith, a, n)

  plain_comes : (p : Phase) (s : Shape) (first : Bool) (rest : List Instr) (t : State) (to left : ℕ) (op : Alu) (v : Value) → IsPlain op v → IsHere p s first (Calc to left op v) rest t → Gives (executed code heartbeat allowed (Calc to left op v) t)
  plain_comes p s first rest t to left op v i h =
      let c = calc_writes p to left op v rest i h.ahead in
      result_by t to (calculated op (register t.registers left) (operand t.registers v)) (calculated_is op (register t.registers left) (operand t.registers v) (operands_are p s first rest t to left op v h)) (λ w n e.
      goes_on code A heartbeat allowed F block rest t (after_other p) (with_kind s to Number) (with_register t to w) h.found refl h.rest_is
      (subst (λ q. GoesWell whole A false t.at q (with_kind s to Number) rest block.term) (plain_phase p to left op v i) h.on)
      (reg_holds code A heartbeat allowed F block s t to Number w (and_left (is_free to) (is_flat_value v) h.obeys.flat) n h.holds)
      (after_write p to w t.registers t.pending (Calc to left op v ∷ rest) rest c h.in_phase) (ahead_of_write p to (Calc to left op v ∷ rest) rest c) h.met_apart h.pending_apart)

  -- the word that a test against nil gives
  tested : (t : State) (to left : ℕ) → to < length t.registers → (to ≡ left → ⊥) →
      register (slice_set t.registers to (word.Int (truth (are_same (register t.registers left) word.Nil)))) to ≡ nil_truth (register (slice_set t.registers to (word.Int (truth (are_same (register t.registers left) word.Nil)))) left)
  tested t to left lt ne =
      let w = word.Int (truth (are_same (register t.registers left) word.Nil)) in
      set_here t.registers to w lt ∙ (ap (λ b. word.Int (truth b)) (same_nil (register t.registers left)) ∙ ap nil_truth (sym (set_other t.registers to left w ne)))

  test_comes : (p : Phase) (s : Shape) (first : Bool) (rest : List Instr) (t : State) (to left : ℕ) → IsHere p s first (Calc to left alu.Eq value.Nil) rest t → Gives (executed code heartbeat allowed (Calc to left alu.Eq value.Nil) t)
  test_comes p s first rest t to left h = by p h.on h.in_phase h.ahead
    where
      w : Word
      w = word.Int (truth (are_same (register t.registers left) word.Nil))

      lt : to < length t.registers
      lt = to_below t to left alu.Eq value.Nil h.right h.count

      go : (q : Phase) → GoesWell whole A false t.at q (with_kind s to Number) rest block.term → InPhase q (slice_set t.registers to w) t.pending → Ahead q rest → Knows code A (with_register t to w)
      go q on ph ah = goes_on code A heartbeat allowed F block rest t q (with_kind s to Number) (with_register t to w) h.found refl h.rest_is on
          (reg_holds code A heartbeat allowed F block s t to Number w (and_left (is_free to) true h.obeys.flat) tt h.holds) ph ah h.met_apart h.pending_apart

      calmly : t.pending ≡ None → OnWell whole A t.at rest block.term (Some (compared to left, with_kind s to Number)) → Knows code A (with_register t to w)
      calmly pn on = go (compared to left) on
          (if_known (λ q. InPhase q (slice_set t.registers to w) t.pending) (to == left || left == 31) Calm (Compared left to) pn (λ e. (pn, tested t to left lt (other_than to left (or_left (to == left) (left == 31) e)))))
          (if_known (λ q. Ahead q rest) (to == left || left == 31) Calm (Compared left to) tt (λ e. tt))

      by : (q : Phase) → OnWell whole A t.at rest block.term (Some (after_test q to left, with_kind s to Number)) → InPhase q t.registers t.pending → Ahead q (Calc to left alu.Eq value.Nil ∷ rest) → Knows code A (with_register t to w)
      by Calm on ph ah = calmly ph on
      by (Compared r x) on ph ah = calmly ph.0 on
      by (Asked r l) on ph ah =
          let f = tests_are r to left rest ah in
          go (Tested r to l) on
          (answer_else t.pending l r to t.registers w f.elsewhere ph, subst (λ k. register (slice_set t.registers to w) to ≡ nil_truth (register (slice_set t.registers to w) k)) f.of_answer (tested t to left lt (λ e. f.elsewhere (e ∙ f.of_answer)))) f.jumps
      by (Tested r x l) on ph ah = absurd (false≢true ah)
      by (Given r l) on ph ah =
          go (Given r l) on (given_else t.pending l r to t.registers w (not_same to r (and_left (not (to == r)) (leads_to_fork r rest) ah)) ph) (and_right (not (to == r)) (leads_to_fork r rest) ah)

  pub calc_comes : (p : Phase) (s : Shape) (first : Bool) (rest : List Instr) (t : State) (to left : ℕ) (op : Alu) (v : Value) → IsHere p s first (Calc to left op v) rest t → Gives (executed code heartbeat allowed (Calc to left op v) t)
  calc_comes p s first rest t to left op v h = ⊎_elim
      (λ (i : IsPlain op v). plain_comes p s first rest t to left op v i h)
      (λ (e : (op ≡ alu.Eq) × (v ≡ value.Nil)).
      subst (λ o. (y : Value) → y ≡ value.Nil → IsHere p s first (Calc to left o y) rest t → Gives (executed code heartbeat allowed (Calc to left o y) t)) (sym e.0)
      (λ y q. subst (λ z. IsHere p s first (Calc to left alu.Eq z) rest t → Gives (executed code heartbeat allowed (Calc to left alu.Eq z) t)) (sym q) (test_comes p s first rest t to left)) v e.1 h)
      (plain_or_test op v)

  -- ---- jumps by a test

  module _ (meets : MeetsRules code A) (right_code : IsCode code.tables code.blocks) (label : ℕ) (t : State) (inner : is_inner label ≡ true) (below : label < length code.blocks) (ma : IsApart t.goal t.met) (pa : IsApart t.goal t.pending) where
    abbrev Jumps : Word → Step
    Jumps w = if_jump code heartbeat allowed w label t

    enter : (s : Shape) → holds A (label, s) ≡ true → Holds whole false s t → t.pending ≡ None → Gives (enters code heartbeat allowed label t)
    enter s into h n = enters_knows code A meets right_code heartbeat allowed F label s t (block_below code label below) inner into h n ma pa

    both_ways : (w : Word) → IsNumberWord w → Knows code A t → Gives (enters code heartbeat allowed label t) → Gives (Jumps w)
    both_ways (word.Int n) i f g = by (int_eq n (pos 0))
      where
        by : (b : Bool) → Gives (if b then Rattle.tpal_machine.specs.Step.Goes t else enters code heartbeat allowed label t)
        by true = f
        by false = g
    both_ways (word.Label l) i f g = absurd i
    both_ways (word.Rec k) i f g = absurd i
    both_ways word.Nil i f g = absurd i

    -- where what was tested is nil, and where it isn't
    nil_jumps : (w : Word) → w ≡ word.Nil → Gives (enters code heartbeat allowed label t) → Gives (Jumps (nil_truth w))
    nil_jumps w q g = subst (λ x. Gives (Jumps (nil_truth x))) (sym q) g

    record_stays : (w : Word) (k : ℕ) → w ≡ word.Rec k → Knows code A t → Gives (Jumps (nil_truth w))
    record_stays w k q f = subst (λ x. Gives (Jumps (nil_truth x))) (sym q) f

    root_holds : (s : Shape) (r : ℕ) → t.goal ≡ goal.Root → register t.registers r ≡ word.Nil → Holds whole false s t → Holds whole false (root_shape r s) t
    root_holds s r q w h = record {
      registers_are = set_kind (IsOfKind whole t.goal t.pending t.met) s.registers t.registers r Empty w h.registers_are;
      base_is = h.base_is;
      cells_are = h.cells_are;
      stack_is = h.stack_is;
      end_is = subst (λ g. EndIs Root g) (sym q) tt;
      mark_is = h.mark_is;
      grant_is = h.grant_is;
      met_is = h.met_is;
    }

    side_holds : (s : Shape) (r : ℕ) → IsOwnWord t.goal (register t.registers r) → EndIs IsSide t.goal → Holds whole false s t → Holds whole false (side_shape r s) t
    side_holds s r w e h = record {
      registers_are = set_kind (IsOfKind whole t.goal t.pending t.met) s.registers t.registers r Own w h.registers_are;
      base_is = h.base_is;
      cells_are = h.cells_are;
      stack_is = h.stack_is;
      end_is = e;
      mark_is = h.mark_is;
      grant_is = h.grant_is;
      met_is = h.met_is;
    }

    module _ (rest : List Instr) (s : Shape) (r : ℕ) (h : Holds whole false s t) (n : t.pending ≡ None) (found : block_at code t.block ≡ Some block) (rest_is : drop t.at block.body ≡ rest) where
      on_calm : (u : Shape) → GoesWell whole A false t.at Calm u rest block.term → Holds whole false u t → Knows code A t
      on_calm u on ho = goes_on code A heartbeat allowed F block rest t Calm u t found refl rest_is on ho n tt ma pa

      abbrev Lets : Going → Type 0
      Lets x = (holds_all A x.flows ≡ true) × OnWell whole A t.at rest block.term x.on

      one_flow : (u : Shape) → holds_all A ((label, u) ∷ []) ≡ true → holds A (label, u) ≡ true
      one_flow u q = and_left (holds A (label, u)) true q

      up_jumps : (e : EndFact) (g : Goal) → t.goal ≡ g → EndIs e g → IsUpWord g (register t.registers r) → Lets (up_branch e r label s) → Gives (Jumps (nil_truth (register t.registers r)))
      up_jumps Root goal.Root q e w l = nil_jumps (register t.registers r) w (enter (root_shape r s) (one_flow (root_shape r s) l.0) (root_holds s r q w h) n)
      up_jumps Root (goal.At k side target) q e w l = absurd e
      up_jumps IsSide goal.Root q e w l = absurd e
      up_jumps IsSide (goal.At k side target) q e w l = record_stays (register t.registers r) k w (on_calm (side_shape r s) l.1 (side_holds s r (subst (λ g. IsOwnWord g (register t.registers r)) (sym q) w) (subst (λ g. EndIs IsSide g) (sym q) tt) h))
      up_jumps Either goal.Root q e w l = nil_jumps (register t.registers r) w (enter (root_shape r s) (one_flow (root_shape r s) l.0) (root_holds s r q w h) n)
      up_jumps Either (goal.At k side target) q e w l = record_stays (register t.registers r) k w (on_calm (side_shape r s) l.1 (side_holds s r (subst (λ g. IsOwnWord g (register t.registers r)) (sym q) w) (subst (λ g. EndIs IsSide g) (sym q) tt) h))

      own_stays : (g : Goal) (w : Word) → IsOwnWord g w → Knows code A t → Gives (Jumps (nil_truth w))
      own_stays goal.Root w o f = absurd o
      own_stays (goal.At k side target) w o f = record_stays w k o f

      any_jumps : Lets (Rattle.tpal_verify.specs.Walk.both_ways label s Calm s) → Gives (Jumps (nil_truth (register t.registers r)))
      any_jumps l = both_ways (nil_truth (register t.registers r)) tt (on_calm s l.1 h) (enter s (one_flow s l.0) h n)

      pub branches : (k : Kind) → IsOfKind whole t.goal t.pending t.met k (register t.registers r) → Lets (branch k r label s) → Gives (Jumps (nil_truth (register t.registers r)))
      branches Number is l = any_jumps l
      branches Empty is l = nil_jumps (register t.registers r) is (enter s (one_flow s l.0) h n)
      branches Own is l = own_stays t.goal (register t.registers r) is (on_calm s l.1 h)
      branches Up is l = up_jumps s.at_end t.goal refl h.end_is is l
      branches Pend is l = any_jumps l
      branches Met is l = any_jumps l
      branches (Back b) is l = any_jumps l
      branches Any is l = any_jumps l

  -- `if-jump`, by what stands before it
  if_register : (p : Phase) (s : Shape) (first : Bool) (rest : List Instr) (t : State) (test label : ℕ) → IsHere p s first (IfJump test label) rest t → IsNumberWord (register t.registers test)
  if_register p s first rest t test label h = number_at code A heartbeat allowed F block s t test h.obeys.numbers h.holds

  pub if_comes : MeetsRules code A → IsCode code.tables code.blocks → (p : Phase) (s : Shape) (first : Bool) (rest : List Instr) (t : State) (test label : ℕ) → IsHere p s first (IfJump test label) rest t → Gives (executed code heartbeat allowed (IfJump test label) t)
  if_comes meets right_code p s first rest t test label h = by p h.on h.flows h.in_phase h.ahead
    where
      below : label < length code.blocks
      below = ltb-true label (length code.blocks) (and_right (nat_lt test 32) (nat_lt label (length code.blocks)) h.right)

      inner : is_inner label ≡ true
      inner = h.obeys.flat

      into : (u : Shape) → holds A (label, u) ≡ true → Holds whole false u t → t.pending ≡ None → Gives (enters code heartbeat allowed label t)
      into u q ho n = enter meets right_code label t inner below h.met_apart h.pending_apart u q ho n

      on_in : (q : Phase) (u : Shape) → GoesWell whole A false t.at q u rest block.term → Holds whole false u t → InPhase q t.registers t.pending → Ahead q rest → Knows code A t
      on_in q u on ho ph ah = goes_on code A heartbeat allowed F block rest t q u t h.found refl h.rest_is on ho ph ah h.met_apart h.pending_apart

      calmly : t.pending ≡ None → holds_all A ((label, s) ∷ []) ≡ true → GoesWell whole A false t.at Calm s rest block.term → Gives (if_jump code heartbeat allowed (register t.registers test) label t)
      calmly n q on = both_ways meets right_code label t inner below h.met_apart h.pending_apart (register t.registers test) (if_register p s first rest t test label h) (on_in Calm s on h.holds n tt) (into s (and_left (holds A (label, s)) true q) h.holds n)

      compared_by : (r x : ℕ) (b : Bool) → (x == test) ≡ b → t.pending ≡ None → register t.registers x ≡ nil_truth (register t.registers r)
          → holds_all A (if b then branch (kind_at s r) r label s else Rattle.tpal_verify.specs.Walk.both_ways label s Calm s).flows ≡ true
          → OnWell whole A t.at rest block.term (if b then branch (kind_at s r) r label s else Rattle.tpal_verify.specs.Walk.both_ways label s Calm s).on
          → Gives (if_jump code heartbeat allowed (register t.registers test) label t)
      compared_by r x true e n w q on =
          subst (λ y. Gives (if_jump code heartbeat allowed y label t)) (sym (ap (register t.registers) (sym (eqb-true x test e)) ∙ w))
          (branches meets right_code label t inner below h.met_apart h.pending_apart rest s r h.holds n h.found h.rest_is (kind_at s r)
          (register_is whole false s t.registers t.stack t.goal t.pending t.met t.beat.granted h.holds r) (q, on))
      compared_by r x false e n w q on = calmly n q on

      known : (r : ℕ) (k : Kind) → IsOfKind whole t.goal t.pending t.met k (register t.registers r) → Holds whole false (with_kind s r k) t
      known r k is = record {
        registers_are = set_kind (IsOfKind whole t.goal t.pending t.met) s.registers t.registers r k is h.holds.registers_are;
        base_is = h.holds.base_is;
        cells_are = h.holds.cells_are;
        stack_is = h.holds.stack_is;
        end_is = h.holds.end_is;
        mark_is = h.holds.mark_is;
        grant_is = h.holds.grant_is;
        met_is = h.holds.met_is;
      }

      answer_by : (r l : ℕ) (o : Option Tie) → t.pending ≡ o → IsAnswer l o (register t.registers r) → register t.registers test ≡ nil_truth (register t.registers r) → leads_to_fork r rest ≡ true
          → holds A (label, with_kind s r Empty) ≡ true → GoesWell whole A false t.at (Given r l) (with_kind s r Pend) rest block.term → Gives (if_jump code heartbeat allowed (register t.registers test) label t)
      answer_by r l None e a w ah q on =
          subst (λ y. Gives (if_jump code heartbeat allowed y label t)) (sym (w ∙ ap nil_truth a))
          (into (with_kind s r Empty) q (known r Empty a) e)
      answer_by r l (Some tie) e a w ah q on =
          subst (λ y. Gives (if_jump code heartbeat allowed y label t)) (sym (w ∙ ap nil_truth a.1))
          (on_in (Given r l) (with_kind s r Pend) on (known r Pend (subst (λ o. IsTiedWord o (register t.registers r)) (sym e) a.1)) (subst (λ o. IsGiven l o (register t.registers r)) (sym e) a) ah)

      by : (q : Phase) → OnWell whole A t.at rest block.term (Rattle.tpal_verify.specs.Walk.if_jump q test label s).on → holds_all A (Rattle.tpal_verify.specs.Walk.if_jump q test label s).flows ≡ true
          → InPhase q t.registers t.pending → Ahead q (IfJump test label ∷ rest) → Gives (if_jump code heartbeat allowed (register t.registers test) label t)
      by Calm on fl ph ah = calmly ph fl on
      by (Compared r x) on fl ph ah = compared_by r x (x == test) refl ph.0 ph.1 fl on
      by (Asked r l) on fl ph ah = absurd (no_test r (IfJump test label) rest refl ah)
      by (Tested r x l) on fl ph ah =
          answer_by r l t.pending refl ph.0 (ap (register t.registers) (eqb-true test x (and_left (test == x) (leads_to_fork r rest) ah)) ∙ ph.1) (and_right (test == x) (leads_to_fork r rest) ah)
          (and_left (holds A (label, with_kind s r Empty)) true fl) on
      by (Given r l) on fl ph ah = absurd (false≢true ah)

  -- ---- questions for a record

  target_there : (l : ℕ) (o : Option Block) → block_at code l ≡ o → rules.is_target (rules.note_of o) ≡ true → reading.is_target code l ≡ true
  target_there l o q i = subst (λ x. is_some (reading.target_of (reading.note_of x)) ≡ true) (sym q) (by o i)
    where
      of : (n : Note) → rules.is_target n ≡ true → is_some (reading.target_of n) ≡ true
      of note.Plain z = absurd (false≢true z)
      of (note.Ready handler) z = absurd (false≢true z)
      of (note.Target target) z = refl

      by : (x : Option Block) → rules.is_target (rules.note_of x) ≡ true → is_some (reading.target_of (reading.note_of x)) ≡ true
      by None z = absurd (false≢true z)
      by (Some b) z = of b.note z

  asks_by : (o : Option Tie) (b : Bool) (t : State) (wait : _) → o ≡ None → b ≡ true → Gives (Rattle.tpal_machine.specs.Step.Asks (record t { waiting = Some wait })) → Gives (asked (if is_some o then Err fault.Pending else (if b then Ok (record t { waiting = Some wait }) else Err fault.BadTarget)))
  asks_by None true t wait p q g = g
  asks_by None false t wait p q g = absurd (false≢true q)
  asks_by (Some tie) b t wait p q g = some_none tie p

  pub jralloc_comes : (p : Phase) (s : Shape) (first : Bool) (rest : List Instr) (t : State) (to target : ℕ) → IsHere p s first (JrAlloc to target) rest t → Gives (executed code heartbeat allowed (JrAlloc to target) t)
  jralloc_comes p s first rest t to target h =
      let pn : t.pending ≡ None = calm_at p (JrAlloc to target) rest t.registers t.pending tt h.ahead h.in_phase in
      let free = and_left (is_free to) (is_inner target) h.obeys.flat in
      let ahead = and_right (rules.is_target (note_at whole target)) (tests_first to rest) h.obeys.asks in
      let lt : to < length t.registers = let a = ltb-true to 32 (and_left (nat_lt to 32) (nat_lt target (length code.blocks)) h.right) in let b = h.count in omega (arith, a, b) in
      asks_by t.pending (reading.is_target code target) t (record { to = to; target = target }) pn
      (target_there target (block_at code target) refl (and_left (rules.is_target (note_at whole target)) (tests_first to rest) h.obeys.asks)) (
        goes_on code A heartbeat allowed F block rest t (Asked to target) (with_kind s to Any) (record (with_register t to word.Nil) { waiting = None }) h.found refl h.rest_is h.on
            (reg_holds code A heartbeat allowed F block s t to Any word.Nil free tt h.holds)
            (subst (λ o. IsAnswer target o (register (slice_set t.registers to word.Nil) to)) (sym pn) (set_here t.registers to word.Nil lt)) ahead h.met_apart h.pending_apart,
        λ k not_left not_right.
            let tie : Tie = record { rec = k; target = target } in
            goes_on code A heartbeat allowed F block rest t (Asked to target) (with_kind s to Any) (record (with_register t to (word.Rec k)) { pending = Some tie; waiting = None }) h.found refl h.rest_is h.on
            (record {
              registers_are = set_both (IsOfKind whole t.goal (Some tie) t.met) s.registers t.registers to Any (word.Rec k) tt (anew tie pn s.registers t.registers h.holds.registers_are);
              base_is = set_other t.registers to 31 (word.Rec k) (not_base code A heartbeat allowed F block to free) ∙ h.holds.base_is;
              cells_are = anew tie pn s.cells t.stack.cells h.holds.cells_are;
              stack_is = h.holds.stack_is;
              end_is = h.holds.end_is;
              mark_is = h.holds.mark_is;
              grant_is = h.holds.grant_is;
              met_is = h.holds.met_is;
            })
            (refl, set_here t.registers to (word.Rec k) lt) ahead h.met_apart (not_left, not_right, and_right (is_free to) (is_inner target) h.obeys.flat),
      )
    where
      anew : (tie : Tie) → t.pending ≡ None → (ks : List Kind) (ws : List Word) → AreOfKinds (IsOfKind whole t.goal t.pending t.met) ks ws → AreOfKinds (IsOfKind whole t.goal (Some tie) t.met) ks ws
      anew tie pn ks ws is = same_kinds (IsOfKind whole t.goal None t.met) (IsOfKind whole t.goal (Some tie) t.met) ks ws (λ k w. from_calm whole t.goal (Some tie) t.met k w) (subst (λ o. AreOfKinds (IsOfKind whole t.goal o t.met) ks ws) pn is)
