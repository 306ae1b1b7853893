-- What the ends of blocks come to.
use Rattle.std.proofs.Common.{◌≡◌, ℕ, zero, suc, ◌+◌, List, [], ◌∷◌, Option, Some, None, refl, sym, ap, subst, ◌∙◌, length, arith}
use Rattle.std.proofs.lemmas.Bool.{eqb-true, eq-eqb, ltb-true, false≢true}
use Rattle.std.specs.Prelude.{Bool, true, false, ◌==◌, if◌then◌else◌, slice_get, slice_index_or}
use Rattle.tp_value.specs.declared.values.Stop.{Stop}
use Rattle.tp_value.specs.declared.values.Stop.TheVariants as stop
use Rattle.tpal_syntax.specs.declared.blocks.Block.{Block}
use Rattle.tpal_syntax.specs.declared.instructions.Value.{Value}
use Rattle.tpal_syntax.specs.declared.words.Word.{Word}
use Rattle.tpal_syntax.specs.declared.words.Word.TheVariants as word
use Rattle.tpal_syntax.specs.Listing.{Listing}
use Rattle.tpal_machine.specs.declared.ends.Goal.{Goal}
use Rattle.tpal_machine.specs.declared.ends.Goal.TheVariants as goal
use Rattle.tpal_machine.specs.declared.ends.Tie.{Tie}
use Rattle.tpal_machine.specs.declared.faults.Fault.TheVariants as fault
use Rattle.tpal_machine.specs.Cut.{Forked}
use Rattle.tpal_machine.specs.Effect as effect
use Rattle.tpal_machine.specs.Ended.{ended_at}
use Rattle.tpal_machine.specs.Reading.{register, operand}
use Rattle.tpal_machine.specs.State.{State}
use Rattle.tpal_verify.specs.declared.kinds.Kind.{Kind}
use Rattle.tpal_verify.specs.declared.kinds.Kind.TheVariants.{Number, Empty, Own, Up, Pend, Met, Back, Any}
use Rattle.tpal_verify.specs.Kinds.{kind_eq}
use Rattle.tpal_verify.specs.Shapes.{Shape, kind_at}
use Rattle.tpal_verify.specs.Flat.{Ground, ground_of}
use Rattle.tpal_verify.proofs.Order.{and_left, and_right, if_is}
use Rattle.tpal_verify.proofs.Lower.{some_none}
use Rattle.std.specs.Prelude.{is_some}
use Rattle.tpal_syntax.specs.declared.instructions.Term.{Term}
use Rattle.tpal_syntax.specs.declared.instructions.Term.TheVariants as term
use Rattle.tpal_syntax.specs.declared.instructions.Value.TheVariants as value
use Rattle.tpal_syntax.specs.Conditions.{IsCode}
use Rattle.tpal_syntax.specs.Parts.{is_term}
use Rattle.tpal_machine.specs.declared.ends.SideName.{SideName}
use Rattle.tpal_machine.specs.declared.ends.SideName.TheVariants as side
use Rattle.tpal_machine.specs.Ended.{words_of}
use Rattle.tpal_machine.specs.Reading.{the_target}
use Rattle.tpal_machine.specs.Step.{Step, Stuck, halting, jump, enters, halt, is_end, join_end, join_met, joined, join, finished}
use Rattle.schedule_core.specs.Machine.{left, right}
use Rattle.tpal_verify.specs.declared.kinds.EndFact.{EndFact}
use Rattle.tpal_verify.specs.declared.kinds.EndFact.TheVariants.{Root, Side as IsSide, Either}
use Rattle.tpal_verify.specs.Breaks.{MeetsRules}
use Rattle.tpal_verify.specs.Flat.{is_inner}
use Rattle.tpal_verify.specs.Kinds.{is_root, unmet}
use Rattle.tpal_verify.specs.Rounds.{Shapes, holds, holds_all, each_has, found}
use Rattle.tpal_verify.specs.Rules as rules
use Rattle.tpal_verify.specs.Rules.{note_at}
use Rattle.tpal_verify.specs.Shapes.{behind_shape}
use Rattle.tpal_verify.specs.Walk.{only_flows, breaks, is_ready_for, back_flows, jump_back, join_of, end_walk}
use Rattle.tpal_verify.specs.Walk as walking
use Rattle.tpal_verify.specs.Well.{IsJoinOf, IsWell}
use Rattle.tpal_verify.specs.Fits.{IsOwnWord, IsTiedWord, IsOfKind, AreOfKinds, EndIs, MetIs, Holds, IsApart, IsFoundWord, AreFoundWords, AnyJoin, joins_of}
use Rattle.tpal_verify.proofs.Holding.{kind_is, register_is, all_kinds, unmet_is}
use Rattle.tpal_verify.proofs.Instructions.{number_kind}
use Rattle.tpal_verify.proofs.Entering.{IsBlockAt, block_below, EndKnown, StepKnows, enters_knows}

-- ---- jumps back

back_held : (A : Shapes) (h : ℕ) (s : Shape) (l i : ℕ) (blocks : List Block) → is_ready_for h (rules.note_of (slice_get blocks i)) ≡ true → holds_all A (back_flows h s l blocks) ≡ true → holds A (l + i, s) ≡ true
back_held A h s l i [] r q = absurd (false≢true r)
back_held A h s l zero (b ∷ bs) r q = by (is_ready_for h b.note) r q
  where
    by : (x : Bool) → x ≡ true → holds_all A (if x then (l, s) ∷ back_flows h s (l + 1) bs else back_flows h s (l + 1) bs) ≡ true → holds A (l + 0, s) ≡ true
    by true e z = subst (λ k. holds A (k, s) ≡ true) (let y : l ≡ l + 0 = omega arith in y) (and_left (holds A (l, s)) (holds_all A (back_flows h s (l + 1) bs)) z)
    by false e z = absurd (false≢true e)
back_held A h s l (suc i) (b ∷ bs) r q = subst (λ k. holds A (k, s) ≡ true) (let y : l + 1 + i ≡ l + suc i = omega arith in y) (back_held A h s (l + 1) i bs r (later (is_ready_for h b.note) q))
  where
    later : (x : Bool) → holds_all A (if x then (l, s) ∷ back_flows h s (l + 1) bs else back_flows h s (l + 1) bs) ≡ true → holds_all A (back_flows h s (l + 1) bs) ≡ true
    later true z = and_right (holds A (l, s)) (holds_all A (back_flows h s (l + 1) bs)) z
    later false z = z

ready_there : (code : Listing) (h l : ℕ) → is_ready_for h (note_at (ground_of code) l) ≡ true → IsBlockAt code l
ready_there code h l r = by (slice_get code.blocks l) refl r
  where
    by : (o : Option Block) → slice_get code.blocks l ≡ o → is_ready_for h (rules.note_of o) ≡ true → IsBlockAt code l
    by None q z = absurd (false≢true z)
    by (Some b) q z = record { block = b; is = q }

-- ---- words of a side

any_join : (js : List (List Kind)) (registers : List Kind) → IsJoinOf js (Some registers) → AnyJoin js
any_join [] registers j = absurd j
any_join (x ∷ js) registers j = tt

found_at : (js : List (List Kind)) (registers : List Kind) → IsJoinOf js (Some registers) → (k : Kind) (r : ℕ) → each_has k r js ≡ true → kind_eq (slice_index_or registers r Any) k ≡ true
found_at [] registers j k r q = absurd j
found_at (x ∷ js) registers j k r q = j k r q

own_kind : (k : Kind) → kind_eq k Own ≡ true → k ≡ Own
own_kind Own q = refl
own_kind Number q = absurd (false≢true q)
own_kind Empty q = absurd (false≢true q)
own_kind Up q = absurd (false≢true q)
own_kind Pend q = absurd (false≢true q)
own_kind Met q = absurd (false≢true q)
own_kind (Back h) q = absurd (false≢true q)
own_kind Any q = absurd (false≢true q)

module _ (whole : Ground) (rec target : ℕ) (sd : SideName) (p m : Option Tie) (js : List (List Kind)) (ks : List Kind) (ws : List Word) (j : IsJoinOf js (Some ks)) (are : AreOfKinds (IsOfKind whole (goal.At rec sd target) p m) ks ws) where
  found_word : (r : ℕ) → IsFoundWord (found js r) rec (register ws r)
  found_word r = by (each_has Number r js) (each_has Own r js) refl refl
    where
      is : IsOfKind whole (goal.At rec sd target) p m (slice_index_or ks r Any) (register ws r)
      is = kind_is (IsOfKind whole (goal.At rec sd target) p m) ks ws r (λ w. tt) are

      by : (a b : Bool) → each_has Number r js ≡ a → each_has Own r js ≡ b → IsFoundWord (if a then Number else (if b then Met else Any)) rec (register ws r)
      by true b q z = number_kind whole (goal.At rec sd target) p m (slice_index_or ks r Any) (register ws r) (found_at js ks j Number r q) is
      by false true q z = subst (λ k. IsOfKind whole (goal.At rec sd target) p m k (register ws r)) (own_kind (slice_index_or ks r Any) (found_at js ks j Own r z)) is
      by false false q z = tt

  found_words : (renames : List (ℕ × ℕ)) → AreFoundWords js rec (words_of ws renames)
  found_words [] = tt
  found_words (x ∷ renames) = (found_word x.0, found_words renames)

-- ---- the ends

module _ (code : Listing) (A : Shapes) (meets : MeetsRules code A) (right_code : IsCode code.tables code.blocks) (heartbeat : ℕ) (allowed : Bool) (F : Forked → Type 0) where
  abbrev whole : Ground
  whole = ground_of code

  abbrev Gives : Step → Type 0
  Gives x = StepKnows code A F x

  module _ (at : ℕ) (s : Shape) (t : State) (h : Holds whole false s t) (pn : t.pending ≡ None) (ma : IsApart t.goal t.met) (pa : IsApart t.goal t.pending) where
    enter : (l : ℕ) → IsBlockAt code l → is_inner l ≡ true → holds A (l, s) ≡ true → Gives (enters code heartbeat allowed l t)
    enter l there inner into = enters_knows code A meets right_code heartbeat allowed F l s t there inner into h pn ma pa

    one_flow : (l : ℕ) (u : Shape) → holds_all A ((l, u) ∷ []) ≡ true → holds A (l, u) ≡ true
    one_flow l u q = and_left (holds A (l, u)) true q

    broken_at : {X : Type 0} (rule : ℕ) → IsWell whole A (breaks at rule) → X
    broken_at rule w = some_none (at, rule) w.broken

    back_jumps : (k : Kind) (w : Word) → IsOfKind whole t.goal t.pending t.met k w → IsWell whole A (jump_back whole k at s) → Gives (jump code heartbeat allowed w t)
    back_jumps Number w is g = broken_at 7 g
    back_jumps Empty w is g = broken_at 7 g
    back_jumps Own w is g = broken_at 7 g
    back_jumps Up w is g = broken_at 7 g
    back_jumps Pend w is g = broken_at 7 g
    back_jumps Met w is g = broken_at 7 g
    back_jumps (Back b) w is g =
        subst (λ x. Gives (jump code heartbeat allowed x t)) (sym is.is)
        (enter is.label (ready_there code b is.label is.ready) is.inner
        (subst (λ k. holds A (k, s) ≡ true) (let y : 0 + is.label ≡ is.label = omega arith in y) (back_held A b s 0 is.label code.blocks is.ready g.flows)))
    back_jumps Any w is g = broken_at 7 g

    jumps : (v : Value) → is_term (length code.blocks) (term.Jump v) ≡ true → IsWell whole A (end_walk whole at s (term.Jump v)) → Gives (jump code heartbeat allowed (operand t.registers v) t)
    jumps (value.Reg r) z g = by (r == 30) refl g
      where
        by : (b : Bool) → (r == 30) ≡ b → IsWell whole A (if b then jump_back whole (kind_at s 30) at s else breaks at 1) → Gives (jump code heartbeat allowed (register t.registers r) t)
        by true q v = subst (λ i. Gives (jump code heartbeat allowed (register t.registers i) t)) (sym (eqb-true r 30 q))
            (back_jumps (kind_at s 30) (register t.registers 30) (register_is whole false s t.registers t.stack t.goal t.pending t.met t.beat.granted h 30) v)
        by false q v = broken_at 1 v
    jumps (value.Int z) y g = broken_at 1 g
    jumps (value.Label l) z g = by (is_inner l) refl g
      where
        by : (b : Bool) → is_inner l ≡ b → IsWell whole A (if b then only_flows ((l, s) ∷ []) else breaks at 1) → Gives (enters code heartbeat allowed l t)
        by true q v = enter l (block_below code l (ltb-true l (length code.blocks) z)) q (one_flow l s v.flows)
        by false q v = broken_at 1 v
    jumps value.Nil z g = broken_at 1 g

    stops_by : (o : Option Tie) → o ≡ None → (x : Stop) → EndKnown code A (ended_at t.goal code x t) → Gives (halting code (effect.stops o x t))
    stops_by None q x e = e
    stops_by (Some tie) q x e = some_none tie q

    halts : (g : Goal) → t.goal ≡ g → (b : Bool) → is_root s.at_end ≡ b → IsWell whole A (if b then only_flows [] else breaks at 6) → Gives (halt g code t)
    halts g e false q v = broken_at 6 v
    halts goal.Root e true q v = stops_by t.pending pn stop.Done (subst (λ x. EndKnown code A (ended_at x code stop.Done t)) (sym e) tt)
    halts (goal.At rec sd target) e true q v = absurd (by s.at_end q (subst (λ x. EndIs s.at_end x) e h.end_is))
      where
        by : (f : EndFact) → is_root f ≡ true → EndIs f (goal.At rec sd target) → ⊥
        by Root z i = i
        by IsSide z i = false≢true z
        by Either z i = false≢true z

    -- ---- joins

    own_ends : (g : Goal) (k : ℕ) → t.goal ≡ g → IsOwnWord g (word.Rec k) → IsJoinOf (joins_of code A) (Some s.registers) → Gives (join_end code k t)
    own_ends goal.Root k e o j = absurd o
    own_ends (goal.At rec sd target) k e o j =
        true_by (λ x. Gives x) (is_end t.goal k) _ _ (subst (λ x. is_end x k ≡ true) (sym e) (eq-eqb rec k (sym (rec_is k rec o))))
        (stops_by t.pending pn stop.Done (subst (λ x. EndKnown code A (ended_at x code stop.Done t)) (sym e) (
          tt,
          (
            any_join (joins_of code A) s.registers j,
            found_words whole rec target sd t.pending t.met (joins_of code A) s.registers t.registers j (subst (λ x. AreOfKinds (IsOfKind whole x t.pending t.met) s.registers t.registers) e h.registers_are) (the_target code target).renames,
          ),
        )))
      where
        true_by : {X : Type 0} (Q : X → Type 0) (b : Bool) (x y : X) → b ≡ true → Q x → Q (if b then x else y)
        true_by Q true x y q f = f
        true_by Q false x y q f = absurd (false≢true q)

        rec_is : (x y : ℕ) → word.Rec x ≡ word.Rec y → x ≡ y
        rec_is x y q = ap of q
          where
            of : Word → ℕ
            of (word.Int z) = x
            of (word.Label l) = x
            of (word.Rec k) = k
            of word.Nil = x

    -- the record of a side's end isn't the one that the side has met
    not_met : (g : Goal) (k : ℕ) (tie : Tie) → IsOwnWord g (word.Rec k) → IsApart g (Some tie) → tie.rec ≡ k → ⊥
    not_met goal.Root k tie o a e = o
    not_met (goal.At rec side.Left target) k tie o a e = a.0 (ap left (sym (e ∙ rec_of k rec o)))
      where
        rec_of : (x y : ℕ) → word.Rec x ≡ word.Rec y → x ≡ y
        rec_of x y q = ap of q
          where
            of : Word → ℕ
            of (word.Int z) = x
            of (word.Label l) = x
            of (word.Rec k) = k
            of word.Nil = x
    not_met (goal.At rec side.Right target) k tie o a e = a.1 (ap right (sym (e ∙ rec_of k rec o)))
      where
        rec_of : (x y : ℕ) → word.Rec x ≡ word.Rec y → x ≡ y
        rec_of x y q = ap of q
          where
            of : Word → ℕ
            of (word.Int z) = x
            of (word.Label l) = x
            of (word.Rec k) = k
            of word.Nil = x

    own_joins : (g : Goal) (w : Word) → t.goal ≡ g → IsOwnWord g w → IsJoinOf (joins_of code A) (Some s.registers) → Gives (join code heartbeat allowed w t)
    own_joins goal.Root w e o j = absurd o
    own_joins (goal.At rec sd target) w e o j = subst (λ x. Gives (join code heartbeat allowed x t)) (sym o) (by t.met refl)
      where
        here : Gives (join_end code rec t)
        here = own_ends (goal.At rec sd target) rec e refl j

        by : (m : Option Tie) → t.met ≡ m → Gives (joined code heartbeat allowed m rec t)
        by None q = here
        by (Some tie) q = other (tie.rec == rec) refl
          where
            other : (b : Bool) → (tie.rec == rec) ≡ b → Gives (if b then Rattle.tpal_machine.specs.Step.join_met code heartbeat allowed tie t else join_end code rec t)
            other true z = absurd (not_met (goal.At rec sd target) rec tie refl (subst (λ m. IsApart (goal.At rec sd target) m) q (subst (λ x. IsApart x t.met) e ma)) (eqb-true tie.rec rec z))
            other false z = here

    behind_holds : Holds whole false (behind_shape s) (record t { met = None })
    behind_holds = record {
      registers_are = all_kinds (IsOfKind whole t.goal t.pending t.met) (IsOfKind whole t.goal t.pending None) unmet s.registers t.registers (unmet_is whole t.goal t.pending t.met None) h.registers_are;
      base_is = h.base_is;
      cells_are = all_kinds (IsOfKind whole t.goal t.pending t.met) (IsOfKind whole t.goal t.pending None) unmet s.cells t.stack.cells (unmet_is whole t.goal t.pending t.met None) h.cells_are;
      stack_is = h.stack_is;
      end_is = h.end_is;
      mark_is = h.mark_is;
      grant_is = h.grant_is;
      met_is = tt;
    }

    met_joins : (target : Option ℕ) (m : Option Tie) (w : Word) → t.met ≡ m → MetIs target m → IsTiedWord m w → IsApart t.goal m → ((tie : Tie) → m ≡ Some tie → IsBlockAt code tie.target) → IsWell whole A (walking.join_met target at s) → Gives (join code heartbeat allowed w t)
    met_joins None m w e is ti a there g = broken_at 6 g
    met_joins (Some target) None w e is ti a there g = absurd ti
    met_joins (Some target) (Some tie) w e is ti a there g =
        subst (λ x. Gives (join code heartbeat allowed x t)) (sym ti)
        (subst (λ m. Gives (joined code heartbeat allowed m tie.rec t)) (sym e)
        (if_is (tie.rec == tie.rec) (Rattle.tpal_machine.specs.Step.join_met code heartbeat allowed tie t) (join_end code tie.rec t) Gives (eq-eqb tie.rec tie.rec refl)
        (by t.pending pn)))
      where
        by : (o : Option Tie) → o ≡ None → Gives (if is_some o then Stuck fault.Pending else enters code heartbeat allowed tie.target (record t { met = None }))
        by None q = enters_knows code A meets right_code heartbeat allowed F tie.target (behind_shape s) (record t { met = None }) (there tie refl) a.2
            (subst (λ l. holds A (l, behind_shape s) ≡ true) (sym is) (one_flow target (behind_shape s) g.flows)) behind_holds pn tt pa
        by (Some x) q = some_none x q

    joins : (k : Kind) (w : Word) → IsOfKind whole t.goal t.pending t.met k w → ((tie : Tie) → t.met ≡ Some tie → IsBlockAt code tie.target) → IsWell whole A (join_of k at s) → Gives (join code heartbeat allowed w t)
    joins Number w is there g = broken_at 6 g
    joins Empty w is there g = broken_at 6 g
    joins Own w is there g = own_joins t.goal w refl is g.join
    joins Up w is there g = broken_at 6 g
    joins Pend w is there g = broken_at 6 g
    joins Met w is there g = met_joins s.met t.met w refl h.met_is is ma there g
    joins (Back b) w is there g = broken_at 6 g
    joins Any w is there g = broken_at 6 g

    pub ends_come : (x : Term) → is_term (length code.blocks) x ≡ true → ((tie : Tie) → t.met ≡ Some tie → IsBlockAt code tie.target) → IsWell whole A (end_walk whole at s x) → Gives (finished code heartbeat allowed x t)
    ends_come (term.Jump v) r there g = jumps v r g
    ends_come term.Halt r there g = halts t.goal refl (is_root s.at_end) refl g
    ends_come (term.Join r) z there g = joins (kind_at s r) (register t.registers r) (register_is whole false s t.registers t.stack t.goal t.pending t.met t.beat.granted h r) there g
    ends_come (term.Leave rec value) z there g = broken_at 1 g
