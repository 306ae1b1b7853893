-- Steps that are diverted or not, and what a task owes where none is.
use Rattle.std.proofs.Common.{◌≡◌, ℕ, Bool, true, false, cond, Option, None, Some, Result, Ok, Err}
use Rattle.std.proofs.Common.{refl, ap, sym, subst, ◌∙◌}
use Rattle.std.proofs.lemmas.Bool.{false≢true}
use Rattle.std.specs.Prelude.{pos, slice_get, is_some, nat_eq, nat_le, not, ◌&&◌}
use Rattle.std.specs.Ordering.{int_eq}
use Rattle.beat_count.specs.Heartbeat.{is_diverted}
use Rattle.stack_marks.specs.declared.mark.Mark.{Mark}
use Rattle.tp_value.specs.declared.values.Stop.TheVariants as stops
use Rattle.tp_value.specs.declared.values.Stop.TheVariants.{Done}
use Rattle.tpal_syntax.specs.declared.blocks.Block.{Block}
use Rattle.tpal_syntax.specs.declared.instructions.Instr.{Instr}
use Rattle.tpal_syntax.specs.declared.instructions.Instr.TheVariants as instr
use Rattle.tpal_syntax.specs.declared.instructions.Term.{Term}
use Rattle.tpal_syntax.specs.declared.instructions.Term.TheVariants as term
use Rattle.tpal_syntax.specs.declared.notes.Note.{Note}
use Rattle.tpal_syntax.specs.declared.notes.Note.TheVariants as note
use Rattle.tpal_syntax.specs.declared.words.Word.{Word}
use Rattle.tpal_syntax.specs.declared.words.Word.TheVariants as word
use Rattle.tpal_syntax.specs.Listing.{Listing}
use Rattle.tpal_machine.specs.declared.ends.Ending.{Ending}
use Rattle.tpal_machine.specs.declared.ends.Ending.TheVariants as ending
use Rattle.tpal_machine.specs.declared.ends.Goal.{Goal}
use Rattle.tpal_machine.specs.declared.ends.Goal.TheVariants as goal
use Rattle.tpal_machine.specs.declared.ends.SideName.TheVariants.{Left, Right}
use Rattle.tpal_machine.specs.declared.ends.Tie.{Tie}
use Rattle.tpal_machine.specs.declared.faults.Fault.{Fault}
use Rattle.tpal_machine.specs.declared.faults.Fault.TheVariants as fault
use Rattle.tpal_machine.specs.Calculation.{on_number}
use Rattle.tpal_machine.specs.Cut.{Forked, on_record, on_pending, fork_under}
use Rattle.tpal_machine.specs.Cut as cutting
use Rattle.tpal_machine.specs.Effect as effect
use Rattle.tpal_machine.specs.Effect.{Effect, Halting, on_oldest}
use Rattle.tpal_machine.specs.Ended.{ended}
use Rattle.tpal_machine.specs.Keeping.{IsUndiverted}
use Rattle.tpal_machine.specs.Owes.{Bound}
use Rattle.tpal_machine.specs.Owes as owes
use Rattle.tpal_machine.specs.Reading.{register, operand, with_register, block_at, note_of}
use Rattle.tpal_machine.specs.Serial.{BoundSerially, here, goes_on, IsUnmarked}
use Rattle.tpal_machine.specs.Serial as serial
use Rattle.tpal_machine.specs.State.{State}
use Rattle.tpal_machine.specs.Step.{Step, Goes, Beats, Ends, Asks, Forks, Stuck, Strays, at_block}
use Rattle.tpal_machine.specs.Step.{entered_by, stepped, asked, halting, forked, if_jump, executed}
use Rattle.tpal_machine.specs.Step.{jump, halt, is_end, join_end, joined, join, leave, finished}
use Rattle.tpal_machine.specs.Step.{advanced, step_at, step_in, step}

-- a step that is no beat
abbrev IsPlain : Step → Type 0
IsPlain (Goes after) = Unit {0}
IsPlain (Beats diverted) = ⊥
IsPlain (Ends e) = Unit {0}
IsPlain (Asks waits) = Unit {0}
IsPlain (Forks parts) = Unit {0}
IsPlain (Stuck f) = Unit {0}
IsPlain Strays = Unit {0}

same : (one : Step) → IsPlain one → IsUndiverted one one
same (Goes after) plain = refl
same (Beats diverted) plain = absurd plain
same (Ends e) plain = refl
same (Asks waits) plain = refl
same (Forks parts) plain = refl
same (Stuck f) plain = refl
same Strays plain = refl

-- the entry of a promotion-ready block, by the tests of which it is made
abbrev ready : Bool → Bool → Bool → Bool → ℕ → ℕ → State → Step
ready quiet full marked allowed l handler state =
    cond (not quiet && (full && (marked && allowed)))
    (Beats (record (with_register (at_block handler state) 30 (word.Label l)) { beat = cond quiet (record state.beat { quiet = false }) (cond (not quiet && (full && (marked && allowed))) (record { count = 0; quiet = true; granted = true }) state.beat) }))
    (Goes (record (at_block l state) { beat = cond quiet (record state.beat { quiet = false }) (cond (not quiet && (full && (marked && allowed))) (record { count = 0; quiet = true; granted = true }) state.beat) }))

ready_agrees : (quiet full marked : Bool) (l handler : ℕ) (state : State) → IsUndiverted (ready quiet full marked true l handler state) (ready quiet full marked false l handler state)
ready_agrees true full marked l handler state = refl
ready_agrees false false marked l handler state = refl
ready_agrees false true false l handler state = refl
ready_agrees false true true l handler state = (_, refl)

ready_unmarked : (quiet full : Bool) (l handler : ℕ) (state : State) → ready quiet full false true l handler state ≡ ready quiet full false false l handler state
ready_unmarked true full l handler state = refl
ready_unmarked false false l handler state = refl
ready_unmarked false true l handler state = refl

-- what two steps of one kind have in common, whether they may be diverted or not
abbrev Common : (Step → Step → Type 0) → ℕ → State → Type 0
Common Both heartbeat state = (l handler : ℕ) (after : State) → after.stack ≡ state.stack → Both (ready after.beat.quiet (nat_le heartbeat after.beat.count) (effect.has_mark after.stack) true l handler after) (ready after.beat.quiet (nat_le heartbeat after.beat.count) (effect.has_mark after.stack) false l handler after)

module _ (Both : Step → Step → Type 0) (every : (one : Step) → IsPlain one → Both one one) (code : Listing) (heartbeat : ℕ) (state : State) (entry : Common Both heartbeat state) where
  on_effect : (r : Effect) → Both (stepped r) (stepped r)
  on_effect (Ok after) = every (Goes after) tt
  on_effect (Err f) = every (Stuck f) tt

  on_ask : (r : Effect) → Both (asked r) (asked r)
  on_ask (Ok waits) = every (Asks waits) tt
  on_ask (Err f) = every (Stuck f) tt

  on_halt : (r : Halting) → Both (halting code r) (halting code r)
  on_halt (Ok (effect.Goes after)) = every (Goes after) tt
  on_halt (Ok (effect.Stops stop after)) = every (Ends (ended code stop after)) tt
  on_halt (Err f) = every (Stuck f) tt

  on_fork : (r : Result Forked Fault) → Both (forked r) (forked r)
  on_fork (Ok parts) = every (Forks parts) tt
  on_fork (Err f) = every (Stuck f) tt

  on_end : (k : ℕ) (after : State) → Both (join_end code k after) (join_end code k after)
  on_end k after = by_end (is_end after.goal k)
    where
      by_end : (b : Bool) → Both (cond b (halting code (effect.stops after.pending Done after)) (Stuck fault.WrongRecord)) (cond b (halting code (effect.stops after.pending Done after)) (Stuck fault.WrongRecord))
      by_end true = on_halt (effect.stops after.pending Done after)
      by_end false = every (Stuck fault.WrongRecord) tt

  on_leave : (w number : Word) (after : State) → Both (leave code w number after) (leave code w number after)
  on_leave (word.Int n) number after = every (Stuck fault.NotRec) tt
  on_leave (word.Label l) number after = every (Stuck fault.NotRec) tt
  on_leave (word.Rec k) number after = by_end (is_end after.goal k)
    where
      by_end : (b : Bool) → Both (cond b (halting code (on_number number (λ n. effect.stops after.pending (stops.Left n) after))) (Stuck fault.WrongRecord)) (cond b (halting code (on_number number (λ n. effect.stops after.pending (stops.Left n) after))) (Stuck fault.WrongRecord))
      by_end true = on_halt (on_number number (λ n. effect.stops after.pending (stops.Left n) after))
      by_end false = every (Stuck fault.WrongRecord) tt
  on_leave word.Nil number after = every (Stuck fault.NotRec) tt

  on_halted : (g : Goal) (after : State) → Both (halt g code after) (halt g code after)
  on_halted goal.Root after = on_halt (effect.stops after.pending Done after)
  on_halted (goal.At rec side target) after = every (Stuck fault.NotRoot) tt

  by_note : (n : Note) (l : ℕ) (after : State) → after.stack ≡ state.stack → Both (entered_by n heartbeat true l after) (entered_by n heartbeat false l after)
  by_note note.Plain l after stack = every _ tt
  by_note (note.Ready handler) l after stack = entry l handler after stack
  by_note (note.Target target) l after stack = every _ tt

  by_choice : (b : Bool) (one other more : Step) → Both more more → Both one other → Both (cond b more one) (cond b more other)
  by_choice true one other more alike both = alike
  by_choice false one other more alike both = both

  by_other : (b : Bool) (one other more : Step) → Both more more → Both one other → Both (cond b one more) (cond b other more)
  by_other true one other more alike both = both
  by_other false one other more alike both = alike

  by_test : (w : Word) (l : ℕ) (after : State) → after.stack ≡ state.stack → Both (if_jump code heartbeat true w l after) (if_jump code heartbeat false w l after)
  by_test (word.Int n) l after stack = by_choice (int_eq n (pos 0)) _ _ _ (every (Goes after) tt) (by_note (note_of (block_at code l)) l after stack)
  by_test (word.Label k) l after stack = every _ tt
  by_test (word.Rec k) l after stack = every _ tt
  by_test word.Nil l after stack = every _ tt

  by_label : (w : Word) (after : State) → after.stack ≡ state.stack → Both (jump code heartbeat true w after) (jump code heartbeat false w after)
  by_label (word.Int n) after stack = every _ tt
  by_label (word.Label l) after stack = by_note (note_of (block_at code l)) l after stack
  by_label (word.Rec k) after stack = every _ tt
  by_label word.Nil after stack = every _ tt

  by_met : (met : Option Tie) (k : ℕ) (after : State) → after.stack ≡ state.stack → Both (joined code heartbeat true met k after) (joined code heartbeat false met k after)
  by_met None k after stack = on_end k after
  by_met (Some tie) k after stack = by_other (nat_eq tie.rec k) _ _ _ (on_end k after) (by_choice (is_some after.pending) _ _ _ (every (Stuck fault.Pending) tt) (by_note (note_of (block_at code tie.target)) tie.target (record after { met = None }) stack))

  by_record : (w : Word) (after : State) → after.stack ≡ state.stack → Both (join code heartbeat true w after) (join code heartbeat false w after)
  by_record (word.Int n) after stack = every _ tt
  by_record (word.Label l) after stack = every _ tt
  by_record (word.Rec k) after stack = by_met after.met k after stack
  by_record word.Nil after stack = every _ tt

  by_term : (t : Term) (after : State) → after.stack ≡ state.stack → Both (finished code heartbeat true t after) (finished code heartbeat false t after)
  by_term (term.Jump v) after stack = by_label (operand after.registers v) after stack
  by_term term.Halt after stack = on_halted after.goal after
  by_term (term.Join r) after stack = by_record (register after.registers r) after stack
  by_term (term.Leave r value) after stack = on_leave (register after.registers r) (register after.registers value) after

  by_instr : (i : Instr) (after : State) → after.stack ≡ state.stack → Both (executed code heartbeat true i after) (executed code heartbeat false i after)
  by_instr (instr.Move to v) after stack = every _ tt
  by_instr (instr.Calc to left alu right) after stack = on_effect (effect.calc to left alu right after)
  by_instr (instr.IfJump test l) after stack = by_test (register after.registers test) l after stack
  by_instr (instr.Load to base off) after stack = on_effect (effect.load to base off after)
  by_instr (instr.Store base off v) after stack = on_effect (effect.store base off v after)
  by_instr (instr.Salloc n) after stack = on_effect (effect.salloc n after)
  by_instr (instr.Sfree n) after stack = on_effect (effect.sfree n after)
  by_instr (instr.PrmPush base off cells split) after stack = on_effect (effect.prmpush base off cells split after)
  by_instr (instr.PrmPop base off) after stack = on_effect (effect.prmpop base off after)
  by_instr instr.PrmDrop after stack = on_effect (effect.prmdrop after)
  by_instr (instr.PrmEmpty r) after stack = every _ tt
  by_instr (instr.PrmSplit base split) after stack = on_effect (effect.prmsplit base split after)
  by_instr (instr.JrAlloc to target) after stack = on_ask (effect.jralloc code to target after)
  by_instr (instr.Fork r child) after stack = on_fork (cutting.fork code r child after)
  by_instr (instr.Fetch to table row col) after stack = on_effect (effect.fetch to table row col after)
  by_instr (instr.Put table row col v) after stack = on_effect (effect.put table row col v after)
  by_instr (instr.Rows to table) after stack = every _ tt
  by_instr (instr.Cols to table) after stack = every _ tt
  by_instr (instr.Make table rows cols place) after stack = on_halt (effect.make code table rows cols place after)
  by_instr instr.Tick after stack = on_halt (effect.tick after)
  by_instr (instr.Trap kind place) after stack = on_halt (effect.trap kind place after)
  by_instr (instr.Print r) after stack = on_effect (effect.print r after)
  by_instr (instr.Emit table) after stack = on_effect (effect.emit table after)

  by_place : (i : Option Instr) (t : Term) → Both (step_at code heartbeat true i t state) (step_at code heartbeat false i t state)
  by_place None t = by_term t (advanced state) refl
  by_place (Some i) t = by_instr i (advanced state) refl

  by_block : (b : Option Block) → Both (step_in code heartbeat true b state) (step_in code heartbeat false b state)
  by_block None = every Strays tt
  by_block (Some block) = by_place (slice_get block.body state.at) block.term

  both : Both (step code heartbeat true state) (step code heartbeat false state)
  both = by_block (block_at code state.block)

-- a step that isn't diverted is the same where diversions are allowed, but where that one is a beat
pub agrees : (code : Listing) (heartbeat : ℕ) (state : State) → IsUndiverted (step code heartbeat true state) (step code heartbeat false state)
agrees code heartbeat state = both IsUndiverted same code heartbeat state (λ l handler after stack. ready_agrees after.beat.quiet (nat_le heartbeat after.beat.count) (effect.has_mark after.stack) l handler after)

-- where no mark stands, no step is a beat
unmarked : (code : Listing) (heartbeat : ℕ) (state : State) → effect.has_mark state.stack ≡ false → step code heartbeat true state ≡ step code heartbeat false state
unmarked code heartbeat state none = both (λ one other. one ≡ other) (λ one plain. refl) code heartbeat state (λ l handler after stack.
    let free : effect.has_mark after.stack ≡ false = ap effect.has_mark stack ∙ none in
    ap (λ m. ready after.beat.quiet (nat_le heartbeat after.beat.count) m true l handler after) free
    ∙ ready_unmarked after.beat.quiet (nat_le heartbeat after.beat.count) l handler after
    ∙ sym (ap (λ m. ready after.beat.quiet (nat_le heartbeat after.beat.count) m false l handler after) free))

-- ---- no fork where no mark stands

abbrev NoFork : Step → Type 0
NoFork (Goes after) = Unit {0}
NoFork (Beats diverted) = Unit {0}
NoFork (Ends e) = Unit {0}
NoFork (Asks waits) = Unit {0}
NoFork (Forks parts) = ⊥
NoFork (Stuck f) = Unit {0}
NoFork Strays = Unit {0}

steps_on : (r : Effect) → NoFork (stepped r)
steps_on (Ok after) = tt
steps_on (Err f) = tt

asks_on : (r : Effect) → NoFork (asked r)
asks_on (Ok after) = tt
asks_on (Err f) = tt

halts_on : (code : Listing) (r : Halting) → NoFork (halting code r)
halts_on code (Ok (effect.Goes after)) = tt
halts_on code (Ok (effect.Stops stop after)) = tt
halts_on code (Err f) = tt

either : (b : Bool) (one other : Step) → NoFork one → NoFork other → NoFork (cond b one other)
either true one other p q = p
either false one other p q = q

enters_on : (n : Note) (heartbeat : ℕ) (l : ℕ) (state : State) → NoFork (entered_by n heartbeat false l state)
enters_on note.Plain heartbeat l state = tt
enters_on (note.Ready handler) heartbeat l state = either (is_diverted heartbeat (effect.has_mark state.stack) false state.beat) _ _ tt tt
enters_on (note.Target target) heartbeat l state = tt

tests_on : (w : Word) (code : Listing) (heartbeat l : ℕ) (state : State) → NoFork (if_jump code heartbeat false w l state)
tests_on (word.Int n) code heartbeat l state = either (int_eq n (pos 0)) _ _ tt (enters_on (note_of (block_at code l)) heartbeat l state)
tests_on (word.Label k) code heartbeat l state = tt
tests_on (word.Rec k) code heartbeat l state = tt
tests_on word.Nil code heartbeat l state = tt

jumps_on : (w : Word) (code : Listing) (heartbeat : ℕ) (state : State) → NoFork (jump code heartbeat false w state)
jumps_on (word.Int n) code heartbeat state = tt
jumps_on (word.Label l) code heartbeat state = enters_on (note_of (block_at code l)) heartbeat l state
jumps_on (word.Rec k) code heartbeat state = tt
jumps_on word.Nil code heartbeat state = tt

ends_on : (code : Listing) (k : ℕ) (state : State) → NoFork (join_end code k state)
ends_on code k state = either (is_end state.goal k) _ _ (halts_on code (effect.stops state.pending Done state)) tt

meets_on : (met : Option Tie) (code : Listing) (heartbeat k : ℕ) (state : State) → NoFork (joined code heartbeat false met k state)
meets_on None code heartbeat k state = ends_on code k state
meets_on (Some tie) code heartbeat k state =
    either (nat_eq tie.rec k) _ _ (either (is_some state.pending) _ _ tt (enters_on (note_of (block_at code tie.target)) heartbeat tie.target (record state { met = None }))) (ends_on code k state)

joins_on : (w : Word) (code : Listing) (heartbeat : ℕ) (state : State) → NoFork (join code heartbeat false w state)
joins_on (word.Int n) code heartbeat state = tt
joins_on (word.Label l) code heartbeat state = tt
joins_on (word.Rec k) code heartbeat state = meets_on state.met code heartbeat k state
joins_on word.Nil code heartbeat state = tt

leaves_on : (w number : Word) (code : Listing) (state : State) → NoFork (leave code w number state)
leaves_on (word.Int n) number code state = tt
leaves_on (word.Label l) number code state = tt
leaves_on (word.Rec k) number code state = either (is_end state.goal k) _ _ (halts_on code (on_number number (λ n. effect.stops state.pending (stops.Left n) state))) tt
leaves_on word.Nil number code state = tt

halt_on : (g : Goal) (code : Listing) (state : State) → NoFork (halt g code state)
halt_on goal.Root code state = halts_on code (effect.stops state.pending Done state)
halt_on (goal.At rec side target) code state = tt

term_on : (t : Term) (code : Listing) (heartbeat : ℕ) (state : State) → NoFork (finished code heartbeat false t state)
term_on (term.Jump v) code heartbeat state = jumps_on (operand state.registers v) code heartbeat state
term_on term.Halt code heartbeat state = halt_on state.goal code state
term_on (term.Join r) code heartbeat state = joins_on (register state.registers r) code heartbeat state
term_on (term.Leave r value) code heartbeat state = leaves_on (register state.registers r) (register state.registers value) code state

no_oldest : (o : Option Mark) (go : Mark → Result Forked Fault) → is_some o ≡ false → NoFork (forked (on_oldest o go))
no_oldest None go none = tt
no_oldest (Some m) go none = absurd (false≢true (sym none))

no_grant : (granted : Bool) (r : Result Forked Fault) → NoFork (forked r) → NoFork (forked (cond granted r (Err fault.NoBeat)))
no_grant true r free = free
no_grant false r free = tt

no_record : (own : Bool) (r : Result Forked Fault) → NoFork (forked r) → NoFork (forked (cond own r (Err fault.WrongRecord)))
no_record true r free = free
no_record false r free = tt

no_pending : (pending : Option Tie) (code : Listing) (k child : ℕ) (state : State) → effect.has_mark state.stack ≡ false → NoFork (forked (on_pending pending k (λ tie. fork_under code child tie state)))
no_pending None code k child state none = tt
no_pending (Some tie) code k child state none = no_record (nat_eq tie.rec k) _ (no_grant state.beat.granted _ (no_oldest (effect.oldest state.stack) _ none))

fork_on : (w : Word) (code : Listing) (child : ℕ) (state : State) → effect.has_mark state.stack ≡ false → NoFork (forked (on_record w (λ k. on_pending state.pending k (λ tie. fork_under code child tie state))))
fork_on (word.Int n) code child state none = tt
fork_on (word.Label l) code child state none = tt
fork_on (word.Rec k) code child state none = no_pending state.pending code k child state none
fork_on word.Nil code child state none = tt

instr_on : (i : Instr) (code : Listing) (heartbeat : ℕ) (state : State) → effect.has_mark state.stack ≡ false → NoFork (executed code heartbeat false i state)
instr_on (instr.Move to v) code heartbeat state none = tt
instr_on (instr.Calc to left alu right) code heartbeat state none = steps_on _
instr_on (instr.IfJump test l) code heartbeat state none = tests_on (register state.registers test) code heartbeat l state
instr_on (instr.Load to base off) code heartbeat state none = steps_on _
instr_on (instr.Store base off v) code heartbeat state none = steps_on _
instr_on (instr.Salloc n) code heartbeat state none = steps_on _
instr_on (instr.Sfree n) code heartbeat state none = steps_on _
instr_on (instr.PrmPush base off cells split) code heartbeat state none = steps_on _
instr_on (instr.PrmPop base off) code heartbeat state none = steps_on _
instr_on instr.PrmDrop code heartbeat state none = steps_on _
instr_on (instr.PrmEmpty r) code heartbeat state none = tt
instr_on (instr.PrmSplit base split) code heartbeat state none = steps_on _
instr_on (instr.JrAlloc to target) code heartbeat state none = asks_on _
instr_on (instr.Fork r child) code heartbeat state none = fork_on (register state.registers r) code child state none
instr_on (instr.Fetch to table row col) code heartbeat state none = steps_on _
instr_on (instr.Put table row col v) code heartbeat state none = steps_on _
instr_on (instr.Rows to table) code heartbeat state none = tt
instr_on (instr.Cols to table) code heartbeat state none = tt
instr_on (instr.Make table rows cols place) code heartbeat state none = halts_on code _
instr_on instr.Tick code heartbeat state none = halts_on code _
instr_on (instr.Trap kind place) code heartbeat state none = halts_on code _
instr_on (instr.Print r) code heartbeat state none = steps_on _
instr_on (instr.Emit table) code heartbeat state none = steps_on _

place_on : (i : Option Instr) (t : Term) (code : Listing) (heartbeat : ℕ) (state : State) → effect.has_mark state.stack ≡ false → NoFork (step_at code heartbeat false i t state)
place_on None t code heartbeat state none = term_on t code heartbeat (advanced state)
place_on (Some i) t code heartbeat state none = instr_on i code heartbeat (advanced state) none

block_on : (b : Option Block) (code : Listing) (heartbeat : ℕ) (state : State) → effect.has_mark state.stack ≡ false → NoFork (step_in code heartbeat false b state)
block_on None code heartbeat state none = tt
block_on (Some block) code heartbeat state none = place_on (slice_get block.body state.at) block.term code heartbeat state none

no_fork : (code : Listing) (heartbeat : ℕ) (state : State) (parts : Forked) → effect.has_mark state.stack ≡ false → step code heartbeat false state ≡ Forks parts → ⊥
no_fork code heartbeat state parts none is = subst NoFork is (block_on (block_at code state.block) code heartbeat state none)

-- ---- the laws

module _ (code : Listing) (heartbeat : ℕ) where
  -- what a task is bound to whatever is diverted it is bound to where nothing is
  pub owes_serially : (n : ℕ) (state : State) (e : Ending) → Bound code heartbeat false n state e → BoundSerially code heartbeat n state e
  owes_serially n state e (owes.ends _ _ is) = serial.ends state e (subst (λ s. IsUndiverted s (step code heartbeat false state)) is (agrees code heartbeat state))
  owes_serially n state e (owes.goes _ _ m _ after _ few is bound) =
      serial.goes n m state after e few (subst (λ s. IsUndiverted s (step code heartbeat false state)) is (agrees code heartbeat state)) (owes_serially m after e bound)
  owes_serially n state e (owes.beats _ m _ after diverted _ few calmly is bound also) = serial.goes n m state after e few calmly (owes_serially m after e bound)
  owes_serially n state e (owes.forks _ parts p q _ is left right merged) =
      serial.forks state parts p q e (subst (λ s. IsUndiverted s (step code heartbeat false state)) is (agrees code heartbeat state)) (owes_serially 0 parts.left (ending.At parts.rec Left p) left) (owes_serially 0 parts.child (ending.At parts.rec Right q) right) merged
  owes_serially n state e (owes.forks_on _ parts p q next _ is left right merged bound) =
      serial.forks_on state parts p q next e (subst (λ s. IsUndiverted s (step code heartbeat false state)) is (agrees code heartbeat state)) (owes_serially 0 parts.left (ending.At parts.rec Left p) left) (owes_serially 0 parts.child (ending.At parts.rec Right q) right) merged (owes_serially 0 next e bound)

  -- where no mark ever stands, what a task is bound to where nothing is diverted it is bound to
  pub owes_unmarked : (n : ℕ) (state : State) (e : Ending) → BoundSerially code heartbeat n state e → IsUnmarked code heartbeat state → Bound code heartbeat false n state e
  owes_unmarked n state e (serial.ends _ _ is) free = owes.ends state e (unmarked code heartbeat state (free state (here state)) ∙ is)
  owes_unmarked n state e (serial.goes _ m _ after _ few is bound) free =
      owes.goes false n m state after e few (unmarked code heartbeat state (free state (here state)) ∙ is) (owes_unmarked m after e bound (λ last comes. free last (goes_on state after last is comes)))
  owes_unmarked n state e (serial.forks _ parts p q _ is left right merged) free = absurd (no_fork code heartbeat state parts (free state (here state)) is)
  owes_unmarked n state e (serial.forks_on _ parts p q next _ is left right merged bound) free = absurd (no_fork code heartbeat state parts (free state (here state)) is)
