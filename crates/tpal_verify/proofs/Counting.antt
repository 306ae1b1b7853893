-- What a step does to a task's count of instructions, and that it doesn't matter whether a diversion
-- is allowed before the count is full.
use Rattle.std.proofs.Common.{◌≡◌, ℕ, ◌+◌, ◌≤◌, ◌<◌, Bool, true, false, cond, Option, None, Some}
use Rattle.std.proofs.Common.{Result, Ok, Err, List, refl, sym, arith}
use Rattle.std.proofs.Math.Nat.{min-le_left}
use Rattle.std.proofs.lemmas.Bool.Decides.{nat_tests}
use Rattle.std.specs.Prelude.{ℤ, pos, negsuc, ◌+ℤ◌, ◌-◌, ◌^◌, length, nat_eq, nat_le, nat_lt, not, ◌&&◌}
use Rattle.std.specs.Prelude.{is_some, slice_get}
use Rattle.std.specs.Ordering.{int_eq}
use Rattle.beat_count.specs.Ticks.{is_tick_allowed}
use Rattle.slices.specs.Holding.{cell_at}
use Rattle.stack_marks.specs.Causes.{new_top}
use Rattle.stack_marks.specs.Stacks.{word_at}
use Rattle.stack_marks.specs.declared.mark.Mark.{Mark}
use Rattle.tp_value.specs.declared.values.Stop.{Stop}
use Rattle.tp_value.specs.declared.values.Stop.TheVariants as stop
use Rattle.tp_value.specs.declared.values.TrapKind.TheVariants.{Size}
use Rattle.tpal_syntax.specs.declared.blocks.Block.{Block}
use Rattle.tpal_syntax.specs.declared.instructions.Instr.{Instr}
use Rattle.tpal_syntax.specs.declared.instructions.Instr.TheVariants.{Move, Calc, IfJump, Load}
use Rattle.tpal_syntax.specs.declared.instructions.Instr.TheVariants.{Store, Salloc, Sfree, PrmPush}
use Rattle.tpal_syntax.specs.declared.instructions.Instr.TheVariants.{PrmPop, PrmDrop, PrmEmpty}
use Rattle.tpal_syntax.specs.declared.instructions.Instr.TheVariants.{PrmSplit, JrAlloc, Fork}
use Rattle.tpal_syntax.specs.declared.instructions.Instr.TheVariants.{Fetch, Put, Rows, Cols, Make}
use Rattle.tpal_syntax.specs.declared.instructions.Instr.TheVariants.{Tick, Trap, Print, Emit}
use Rattle.tpal_syntax.specs.declared.instructions.Term.{Term}
use Rattle.tpal_syntax.specs.declared.instructions.Term.TheVariants as term
use Rattle.tpal_syntax.specs.declared.notes.Note.{Note}
use Rattle.tpal_syntax.specs.declared.notes.Note.TheVariants as note
use Rattle.tpal_syntax.specs.declared.words.Word.{Word}
use Rattle.tpal_syntax.specs.declared.words.Word.TheVariants as word
use Rattle.tpal_syntax.specs.Listing.{Listing}
use Rattle.tpal_machine.specs.declared.ends.Goal.{Goal}
use Rattle.tpal_machine.specs.declared.ends.Goal.TheVariants as goal
use Rattle.tpal_machine.specs.declared.ends.Tie.{Tie}
use Rattle.tpal_machine.specs.declared.faults.Fault.{Fault}
use Rattle.tpal_machine.specs.Calculation.{on_number, calculated}
use Rattle.tpal_machine.specs.Cut as cutting
use Rattle.tpal_machine.specs.Cut.{Forked}
use Rattle.tpal_machine.specs.Effect as effect
use Rattle.tpal_machine.specs.Effect.{Effect, Halting, on_cell, on_oldest, on_held}
use Rattle.tpal_machine.specs.Keeping.{IsUndiverted}
use Rattle.tpal_machine.specs.Reading.{register, operand, with_register, table_at, block_at, note_of}
use Rattle.tpal_machine.specs.State.{State}
use Rattle.tpal_machine.specs.Step.{Step, Goes, Beats, Ends, Asks, Forks, Stuck, Strays, at_block}
use Rattle.tpal_machine.specs.Step.{entered_by, stepped, asked, halting, forked, if_jump, executed}
use Rattle.tpal_machine.specs.Step.{jump, halt, is_end, join_end, joined, join, leave_end, leave}
use Rattle.tpal_machine.specs.Step.{finished, advanced, step_at, step_in, step}
use Rattle.tpal_machine.proofs.Undiverted.{agrees}

le_of : (a b : ℕ) → nat_le a b ≡ true → a ≤ b
le_of a b is = grind (arith, nat_tests)

module _ (heartbeat : ℕ) (allowed : Bool) (n : ℕ) where
  -- a step of a task that has counted n instructions, with the one that it executes: where it is
  -- diverted the count was full and begins anew, and where it goes on it counts no more than that
  abbrev pub Counted : Step → Type 0
  Counted (Goes after) = after.beat.count ≤ n
  Counted (Beats diverted) = (diverted.beat.count ≡ 0) × (heartbeat ≤ n)
  Counted (Ends e) = Unit {0}
  Counted (Asks waits) = Unit {0}
  Counted (Forks parts) = Unit {0}
  Counted (Stuck f) = Unit {0}
  Counted Strays = Unit {0}

  either : {X : Type 0} (Q : X → Type 0) (b : Bool) (x y : X) → Q x → Q y → Q (cond b x y)
  either Q true x y p q = p
  either Q false x y p q = q

  asks : (r : Effect) → Counted (asked r)
  asks (Ok waits) = tt
  asks (Err f) = tt

  forks : (r : Result Forked Fault) → Counted (forked r)
  forks (Ok parts) = tt
  forks (Err f) = tt

  -- the entry of a promotion-ready block, by the tests of which it is made
  ready : (quiet full marked may : Bool) (l handler : ℕ) (v : State) → v.beat.count ≤ n → (full ≡ true → heartbeat ≤ v.beat.count) →
      Counted (cond (not quiet && (full && (marked && may)))
      (Beats (record (with_register (at_block handler v) 30 (word.Label l)) { beat = cond quiet (record v.beat { quiet = false }) (cond (not quiet && (full && (marked && may))) (record { count = 0; quiet = true; granted = true }) v.beat) }))
      (Goes (record (at_block l v) { beat = cond quiet (record v.beat { quiet = false }) (cond (not quiet && (full && (marked && may))) (record { count = 0; quiet = true; granted = true }) v.beat) })))
  ready true full marked may l handler v few enough = few
  ready false false marked may l handler v few enough = few
  ready false true false may l handler v few enough = few
  ready false true true false l handler v few enough = few
  ready false true true true l handler v few enough = (refl, let most = enough refl in omega (arith, most, few))

  enters_counted : (x : Note) (l : ℕ) (v : State) → v.beat.count ≤ n → Counted (entered_by x heartbeat allowed l v)
  enters_counted note.Plain l v few = few
  enters_counted (note.Ready handler) l v few = ready v.beat.quiet (nat_le heartbeat v.beat.count) (effect.has_mark v.stack) allowed l handler v few (le_of heartbeat v.beat.count)
  enters_counted (note.Target target) l v few = few

  module _ (code : Listing) (s : State) (few : s.beat.count ≤ n) where
    number : (w : Word) (go : ℤ → Effect) → ((i : ℤ) → Counted (stepped (go i))) → Counted (stepped (on_number w go))
    number (word.Int i) go f = f i
    number (word.Label l) go f = tt
    number (word.Rec k) go f = tt
    number word.Nil go f = tt

    cell : (o : Option Word) (go : Word → Effect) → ((w : Word) → Counted (stepped (go w))) → Counted (stepped (on_cell o go))
    cell None go f = tt
    cell (Some w) go f = f w

    held : (o : Option ℤ) (go : ℤ → Effect) → ((i : ℤ) → Counted (stepped (go i))) → Counted (stepped (on_held o go))
    held None go f = tt
    held (Some i) go f = f i

    oldest_one : (o : Option Mark) (go : Mark → Effect) → ((m : Mark) → Counted (stepped (go m))) → Counted (stepped (on_oldest o go))
    oldest_one None go f = tt
    oldest_one (Some m) go f = f m

    result : (to : ℕ) (r : Result Word Fault) → Counted (stepped (effect.put_result s to r))
    result to (Ok w) = few
    result to (Err f) = tt

    mark_from : (i : ℤ) (off cells split : ℕ) → Counted (stepped (effect.with_mark_from s i off cells split))
    mark_from (pos base) off cells split =
        let m : Mark = record { at = base + off; base = base; cells = cells; split = split } in
        either (λ x. Counted (stepped x)) (effect.holds_mark s.stack m) _ _ (either (λ x. Counted (stepped x)) (effect.is_marked_from s.stack.marks m.at) _ _ tt few) tt
    mark_from (negsuc below) off cells split = tt

    printed : (o : Option (List ℕ)) → Counted (stepped (effect.put_output s o))
    printed None = tt
    printed (Some text) = few

    halts_number : (w : Word) (go : ℤ → Halting) → ((i : ℤ) → Counted (halting code (go i))) → Counted (halting code (on_number w go))
    halts_number (word.Int i) go f = f i
    halts_number (word.Label l) go f = tt
    halts_number (word.Rec k) go f = tt
    halts_number word.Nil go f = tt

    stops : (o : Option Tie) (by : Stop) (v : State) → Counted (halting code (effect.stops o by v))
    stops None by v = tt
    stops (Some tie) by v = tt

    tests : (w : Word) (l : ℕ) → Counted (if_jump code heartbeat allowed w l s)
    tests (word.Int i) l = either Counted (int_eq i (pos 0)) _ _ few (enters_counted (note_of (block_at code l)) l s few)
    tests (word.Label k) l = tt
    tests (word.Rec k) l = tt
    tests word.Nil l = tt

    instr : (i : Instr) → Counted (executed code heartbeat allowed i s)
    instr (Move to v) = few
    instr (Calc to left alu right) = result to (calculated alu (register s.registers left) (operand s.registers right))
    instr (IfJump test l) = tests (register s.registers test) l
    instr (Load to base off) = number (register s.registers base) _ (λ i. cell (word_at s.stack (i +ℤ pos off)) _ (λ w. few))
    instr (Store base off v) = number (register s.registers base) _ (λ i. cell (word_at s.stack (i +ℤ pos off)) _ (λ w. few))
    instr (Salloc m) = either (λ x. Counted (stepped x)) (nat_le (s.stack.base + length s.stack.cells + m) (2 ^ 62)) _ _ few tt
    instr (Sfree m) = either (λ x. Counted (stepped x)) (nat_lt (length s.stack.cells) m) _ _ tt (either (λ x. Counted (stepped x)) (effect.is_marked_from s.stack.marks (new_top s.stack m)) _ _ tt few)
    instr (PrmPush base off cells split) = number (register s.registers base) _ (λ i. mark_from i off cells split)
    instr (PrmPop base off) = number (register s.registers base) _ (λ i. cell (word_at s.stack (i +ℤ pos off)) _ (λ w. few))
    instr PrmDrop = oldest_one (effect.oldest s.stack) _ (λ m. few)
    instr (PrmEmpty r) = few
    instr (PrmSplit base split) = oldest_one (effect.oldest s.stack) _ (λ m. few)
    instr (JrAlloc to target) = asks (effect.jralloc code to target s)
    instr (Fork r child) = forks (cutting.fork code r child s)
    instr (Fetch to table row col) = number (register s.registers row) _ (λ i. number (register s.registers col) _ (λ j. held (cell_at (table_at s.tables table) i j) _ (λ m. few)))
    instr (Put table row col v) = number (register s.registers row) _ (λ i. number (register s.registers col) _ (λ j. number (register s.registers v) _ (λ m. held (cell_at (table_at s.tables table) i j) _ (λ was. few))))
    instr (Rows to table) = few
    instr (Cols to table) = few
    instr (Make table rows cols place) =
        halts_number (register s.registers rows) _ (λ i.
        halts_number (register s.registers cols) _ (λ j.
        either (λ x. Counted (halting code x)) (effect.is_makeable code table s) _ _
        (either (λ x. Counted (halting code x)) (effect.fits s.tables i j) _ _ few (stops s.pending (stop.Trap Size place) s)) tt))
    instr Tick = either (λ x. Counted (halting code x)) (is_tick_allowed s.fuel.limit s.fuel.ticks) _ _ few (stops s.pending stop.NoFuel (effect.with_tick s))
    instr (Trap kind place) = stops s.pending (stop.Trap kind place) s
    instr (Print r) = number (register s.registers r) _ (λ i. few)
    instr (Emit table) = printed (effect.table_lines (table_at s.tables table))

    jumps : (w : Word) → Counted (jump code heartbeat allowed w s)
    jumps (word.Int i) = tt
    jumps (word.Label l) = enters_counted (note_of (block_at code l)) l s few
    jumps (word.Rec k) = tt
    jumps word.Nil = tt

    halts : (g : Goal) → Counted (halt g code s)
    halts goal.Root = stops s.pending stop.Done s
    halts (goal.At rec side target) = tt

    join_ends : (k : ℕ) → Counted (join_end code k s)
    join_ends k = either Counted (is_end s.goal k) _ _ (stops s.pending stop.Done s) tt

    joins_met : (met : Option Tie) (k : ℕ) → Counted (joined code heartbeat allowed met k s)
    joins_met None k = join_ends k
    joins_met (Some tie) k =
        either Counted (nat_eq tie.rec k) _ _ (either Counted (is_some s.pending) _ _ tt (enters_counted (note_of (block_at code tie.target)) tie.target (record s { met = None }) few)) (join_ends k)

    joins : (w : Word) → Counted (join code heartbeat allowed w s)
    joins (word.Int i) = tt
    joins (word.Label l) = tt
    joins (word.Rec k) = joins_met s.met k
    joins word.Nil = tt

    leaves_end : (k : ℕ) (number : Word) → Counted (leave_end code k number s)
    leaves_end k number = either Counted (is_end s.goal k) _ _ (halts_number number _ (λ n. stops s.pending (stop.Left n) s)) tt

    leaves : (w number : Word) → Counted (leave code w number s)
    leaves (word.Int i) number = tt
    leaves (word.Label l) number = tt
    leaves (word.Rec k) number = leaves_end k number
    leaves word.Nil number = tt

    last : (t : Term) → Counted (finished code heartbeat allowed t s)
    last (term.Jump v) = jumps (operand s.registers v)
    last term.Halt = halts s.goal
    last (term.Join r) = joins (register s.registers r)
    last (term.Leave r value) = leaves (register s.registers r) (register s.registers value)

module _ (code : Listing) (heartbeat : ℕ) where
  place_counted : (allowed : Bool) (o : Option Instr) (t : Term) (s : State) → Counted heartbeat allowed (s.beat.count + 1) (step_at code heartbeat allowed o t s)
  place_counted allowed None t s = last heartbeat allowed (s.beat.count + 1) code (advanced s) (min-le_left (s.beat.count + 1) (2 ^ 64 - 1)) t
  place_counted allowed (Some i) t s = instr heartbeat allowed (s.beat.count + 1) code (advanced s) (min-le_left (s.beat.count + 1) (2 ^ 64 - 1)) i

  block_counted : (allowed : Bool) (o : Option Block) (s : State) → Counted heartbeat allowed (s.beat.count + 1) (step_in code heartbeat allowed o s)
  block_counted allowed None s = tt
  block_counted allowed (Some block) s = place_counted allowed (slice_get block.body s.at) block.term s

  -- what a step counts
  pub step_counted : (allowed : Bool) (s : State) → Counted heartbeat allowed (s.beat.count + 1) (step code heartbeat allowed s)
  step_counted allowed s = block_counted allowed (block_at code s.block) s

  calm_by : (s : State) (one : Step) → s.beat.count + 1 < heartbeat → step code heartbeat true s ≡ one → Counted heartbeat true (s.beat.count + 1) one → IsUndiverted one (step code heartbeat false s) → step code heartbeat false s ≡ one
  calm_by s (Goes after) few is counts calm = calm
  calm_by s (Beats diverted) few is counts calm = let most = counts.1 in absurd (omega (arith, most, few))
  calm_by s (Ends e) few is counts calm = calm
  calm_by s (Asks waits) few is counts calm = calm
  calm_by s (Forks parts) few is counts calm = calm
  calm_by s (Stuck f) few is counts calm = calm
  calm_by s Strays few is counts calm = calm

  -- below the heartbeat it is all one whether a diversion is allowed
  pub any_allowed : (a b : Bool) (s : State) → s.beat.count + 1 < heartbeat → step code heartbeat a s ≡ step code heartbeat b s
  any_allowed a b s few = by a b
    where
      calm : step code heartbeat false s ≡ step code heartbeat true s
      calm = calm_by s (step code heartbeat true s) few refl (step_counted true s) (agrees code heartbeat s)

      by : (x y : Bool) → step code heartbeat x s ≡ step code heartbeat y s
      by true true = refl
      by true false = sym calm
      by false true = calm
      by false false = refl
