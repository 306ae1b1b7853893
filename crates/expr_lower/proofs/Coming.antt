-- What a task comes to at the blocks of an expression.
use Rattle.std.proofs.Common.{◌≡◌, ℕ, suc, ◌+◌, ◌≤◌, Bool, false, List, [], ◌++◌, None, length}
use Rattle.std.proofs.Common.{drop, refl, ap, sym, subst, ◌∙◌, arith, append-nil}
use Rattle.std.specs.Prelude.{ℤ}
use Rattle.beat_count.specs.BeatState.{BeatState}
use Rattle.tp_value.specs.declared.Place.{Place}
use Rattle.tp_value.specs.declared.Table.{Table}
use Rattle.tp_value.specs.declared.TrapKind.{TrapKind}
use Rattle.tp_value.specs.declared.values.Stop.TheVariants.{Trap}
use Rattle.loop_syntax.specs.declared.Expr.{Expr}
use Rattle.loop_rules.specs.Limits.{height}
use Rattle.loop_meaning.specs.declared.value.Answer.{Answer}
use Rattle.loop_meaning.specs.declared.value.Answer.TheVariants.{Number, Traps}
use Rattle.loop_meaning.specs.declared.value.Variable.{Variable}
use Rattle.loop_meaning.specs.Expressions.{eval}
use Rattle.tpal_syntax.specs.declared.blocks.Block.{Block}
use Rattle.tpal_syntax.specs.declared.instructions.Instr.TheVariants as instr
use Rattle.tpal_syntax.specs.declared.instructions.Term.TheVariants as term
use Rattle.tpal_syntax.specs.declared.instructions.Value.TheVariants as value
use Rattle.tpal_syntax.specs.declared.notes.Note.TheVariants as note
use Rattle.tpal_syntax.specs.declared.words.Word.{Word}
use Rattle.tpal_syntax.specs.declared.words.Word.TheVariants as word
use Rattle.tpal_syntax.specs.Listing.{Listing}
use Rattle.tpal_machine.specs.Effect.{stops}
use Rattle.tpal_machine.specs.Ended.{ended}
use Rattle.tpal_machine.specs.Reading.{register, block_at}
use Rattle.tpal_machine.specs.Serial as serial
use Rattle.tpal_machine.specs.Serial.{Comes}
use Rattle.tpal_machine.specs.State.{State}
use Rattle.tpal_machine.specs.Step.{Ends, step, enters, advanced, halting, finished}
use Rattle.tpal_machine.proofs.Kit.{Back, IsNext, IsAtEnd}
use Rattle.tpal_machine.proofs.Steps.{step_of_instr, step_of_term}
use Rattle.expr_lower.specs.declared.scope.Scope.{Scope}
use Rattle.expr_lower.specs.Bodies.{name_of, trap_count, traps_of, body_of, blocks_of}
use Rattle.expr_lower.specs.Holding.{Holds}
use Rattle.expr_lower.specs.Leaving.{Keeps, moved, moved_to, ComesTo}
use Rattle.expr_lower.specs.Scopes.{IsIn}
use Rattle.expr_lower.specs.Standing.{Remains, AreAt}
use Rattle.expr_lower.proofs.Evaluating.{After}
use Rattle.expr_lower.proofs.Law.{expr_law, length_traps}
use Rattle.expr_lower.proofs.Standing.{at_end}

-- ---- what goes backwards

-- a task comes to where another one, from which the expression began, leaves a number
record LeavesFor (code : Listing) (heartbeat label to : ℕ) (n : ℤ) (start from : State) : Type 0 where
  words : List Word
  beat : BeatState
  at : ℕ
  keeps : Keeps to start words beat
  number : register words to ≡ word.Int n
  comes : Comes code heartbeat from (moved start words beat at)
  goes_on : (allowed : Bool) → step code heartbeat allowed (moved start words beat at) ≡ enters code heartbeat allowed label (advanced (moved start words beat at))

abbrev leaving : (code : Listing) (heartbeat label to : ℕ) (n : ℤ) (start : State) → Back code heartbeat
leaving code heartbeat label to n start = record {
  Holds = LeavesFor code heartbeat label to n start;
  back = λ state after is later. record {
    words = later.words;
    beat = later.beat;
    at = later.at;
    keeps = later.keeps;
    number = later.number;
    comes = serial.goes_on state after (moved start later.words later.beat later.at) (is false) later.comes;
    goes_on = later.goes_on;
  };
}

-- or to where it traps
record TrapsFor (code : Listing) (heartbeat to : ℕ) (kind : TrapKind) (place : Place) (start from : State) : Type 0 where
  words : List Word
  beat : BeatState
  label : ℕ
  keeps : Keeps to start words beat
  comes : Comes code heartbeat from (moved_to start words beat label 0)
  trap : IsNext code (moved_to start words beat label 0) (instr.Trap kind place)

abbrev trapping : (code : Listing) (heartbeat to : ℕ) (kind : TrapKind) (place : Place) (start : State) → Back code heartbeat
trapping code heartbeat to kind place start = record {
  Holds = TrapsFor code heartbeat to kind place start;
  back = λ state after is later. record {
    words = later.words;
    beat = later.beat;
    label = later.label;
    keeps = later.keeps;
    comes = serial.goes_on state after (moved_to start later.words later.beat later.label 0) (is false) later.comes;
    trap = later.trap;
  };
}

-- ---- steps

-- the step at the end of a block that jumps to a label
jumps : (code : Listing) (heartbeat label : ℕ) (state : State) → IsAtEnd code state (term.Jump (value.Label label)) → (allowed : Bool) → step code heartbeat allowed state ≡ enters code heartbeat allowed label (advanced state)
jumps code heartbeat label state at allowed =
    step_of_term code heartbeat allowed state (advanced state) at.block at.found at.none refl
    ∙ ap (λ t. finished code heartbeat allowed t (advanced state)) at.is

-- the step of a trap, where no join record is pending
traps_at : (code : Listing) (heartbeat : ℕ) (kind : TrapKind) (place : Place) (state : State) → IsNext code state (instr.Trap kind place) → (allowed : Bool) → state.pending ≡ None → step code heartbeat allowed state ≡ Ends (ended code (Trap kind place) (advanced state))
traps_at code heartbeat kind place state at allowed free =
    step_of_instr code heartbeat allowed state at.block _ at.found at.is
    ∙ ap (λ p. halting code (stops p (Trap kind place) (advanced state))) free

-- ---- blocks

by_answer : (code : Listing) (heartbeat label to : ℕ) (state : State) (answer : Answer) → ((K : Back code heartbeat) → After code heartbeat K to state [] (term.Jump (value.Label label)) answer → K.Holds state) → ComesTo code heartbeat label to answer state
by_answer code heartbeat label to state (Number n) law =
    let found : LeavesFor code heartbeat label to n state state = law (leaving code heartbeat label to n state) (λ words beat at keeps number left. record {
      words = words;
      beat = beat;
      at = at;
      keeps = keeps;
      number = number;
      comes = serial.here (moved state words beat at);
      goes_on = jumps code heartbeat label (moved state words beat at) (at_end code (moved state words beat at) (term.Jump (value.Label label)) left);
    }) in
    record { words = found.words; beat = found.beat; at = found.at; keeps = found.keeps; value = found.number; comes = found.comes; goes_on = found.goes_on }
by_answer code heartbeat label to state (Traps kind place) law =
    let found : TrapsFor code heartbeat to kind place state state = law (trapping code heartbeat to kind place state) (λ words beat trap keeps next. record {
      words = words;
      beat = beat;
      label = trap;
      keeps = keeps;
      comes = serial.here (moved_to state words beat trap 0);
      trap = next;
    }) in
    record { words = found.words; beat = found.beat; label = found.label; at = 0; keeps = found.keeps; comes = found.comes; stops = traps_at code heartbeat kind place (moved_to state found.words found.beat found.label 0) found.trap }

-- the first block of an expression
abbrev first_block : Scope → Expr → ℕ → Block
first_block scope e to = record {
  name = name_of scope.next_label;
  note = note.Plain;
  body = body_of scope (scope.next_label + 1) e to;
  term = term.Jump (value.Label (scope.next_label + 1 + trap_count e));
}

-- a task at the start of an expression's blocks comes to its answer
pub comes_to : (code : Listing) (heartbeat : ℕ) (scope : Scope) (vars : List Variable) (tables : List Table) (e : Expr) (to : ℕ) (state : State) → IsIn scope e → to + height e ≤ 24 → AreAt code scope.next_label (blocks_of scope e to) → state.block ≡ scope.next_label → state.at ≡ 0 → Holds scope vars tables (eval vars tables e).notes state → ComesTo code heartbeat (scope.next_label + length (blocks_of scope e to)) to (eval vars tables e).answer state
comes_to code heartbeat scope vars tables e to state inside within (found, traps) at_label at_start holds =
    let behind : scope.next_label + 1 + trap_count e ≡ scope.next_label + suc (length (traps_of (scope.next_label + 1) e)) = omega (arith, length_traps e (scope.next_label + 1)) in
    let stands : Remains code state.block state.at (body_of scope (scope.next_label + 1) e to ++ []) (term.Jump (value.Label (scope.next_label + 1 + trap_count e))) = record {
      block = first_block scope e to;
      found = ap (block_at code) at_label ∙ found;
      rest = ap (λ n. drop n (body_of scope (scope.next_label + 1) e to)) at_start ∙ sym (append-nil (body_of scope (scope.next_label + 1) e to));
      ends = refl;
    } in
    let comes : ComesTo code heartbeat (scope.next_label + 1 + trap_count e) to (eval vars tables e).answer state =
    by_answer code heartbeat (scope.next_label + 1 + trap_count e) to state (eval vars tables e).answer (λ K after. expr_law code heartbeat K scope vars tables e (scope.next_label + 1) to inside within traps state [] (term.Jump (value.Label (scope.next_label + 1 + trap_count e))) stands holds after) in
    subst (λ (l : ℕ). ComesTo code heartbeat l to (eval vars tables e).answer state) behind comes
