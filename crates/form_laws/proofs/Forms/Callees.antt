-- An activation with more cells on top, and what is owed by the functions of a code.
use Rattle.std.proofs.Common.{◌≡◌, ℕ, zero, suc, ◌+◌, ◌*◌, ◌<◌, ◌≤◌, ◌^◌, false, List, [], ◌∷◌}
use Rattle.std.proofs.Common.{length, Option, Some, refl, sym, ap, ◌∙◌, arith}
use Rattle.std.specs.Prelude.{ℤ, pos}
use Rattle.beat_count.specs.BeatState.{BeatState}
use Rattle.beat_count.specs.FuelState.{FuelState}
use Rattle.slices.specs.Holding.{Holding}
use Rattle.stack_marks.specs.Stacks.{StackValue, word_at, popped, pushed}
use Rattle.tp_value.specs.declared.limits.TheConstants.{MAX_CALL_DEPTH, MAX_ACTIVATION_CELLS}
use Rattle.loop_syntax.specs.declared.Func.{Func}
use Rattle.loop_syntax.specs.declared.Program.{Program}
use Rattle.loop_rules.specs.Names.{texts}
use Rattle.loop_meaning.specs.InRange.{InRange}
use Rattle.loop_meaning.specs.State as meaning
use Rattle.loop_meaning.specs.Statements.{run_list}
use Rattle.tpal_syntax.specs.declared.words.Word.{Word}
use Rattle.tpal_syntax.specs.declared.words.Word.TheVariants as word
use Rattle.tpal_syntax.specs.Listing.{Listing}
use Rattle.tpal_machine.specs.declared.ends.Goal.{Goal}
use Rattle.tpal_machine.specs.declared.ends.Tie.{Tie}
use Rattle.tpal_machine.specs.Effect.{is_marked_from}
use Rattle.tpal_machine.specs.Reading.{register}
use Rattle.tpal_machine.specs.State as machine
use Rattle.tpal_machine.proofs.Kit.{IsCalm}
use Rattle.scene_laws.specs.Layout.{levels_cell, return_cell, value_cell, Entry, entry_of}
use Rattle.scene_laws.specs.Layout.{Activation}
use Rattle.form_laws.specs.Functions.{HasRoom, FunctionAt, AreFunctions, bare}
use Rattle.scene_laws.specs.Quiet.{functions_are_quiet, list_is_quiet}
use Rattle.scene_laws.proofs.Scenes.Activations.{word_pushed, word_popped, pushed_length}
use Rattle.scene_laws.proofs.Scenes.Activations.{popped_length, popped_pushed}
use Rattle.scene_laws.proofs.Scenes.Activations.{clear_above}
use Rattle.form_laws.proofs.Forms.Arguments.{wider}
use Rattle.scene_laws.proofs.Scenes.Called.{with_value, value_then, body_set}
use Rattle.form_laws.proofs.Forms.Choices.{OwedAt}
use Rattle.form_laws.proofs.Premises.Permitting.{PermitsCall}
use Rattle.scene_laws.proofs.Scenes.Results.{fin, result, then}
use Rattle.scene_laws.proofs.Scenes.Scene.{Scene, Shows, ShowsIn, header}
use Rattle.scene_laws.proofs.Scenes.Showing.{as_many}
use Rattle.scene_laws.proofs.Scenes.Variables.{AreHeld, held_same}
use Rattle.loop_meaning.specs.declared.value.Variable.{Variable}

-- ---- an activation with more cells on top

pub cell_pushed : (s : StackValue) (n a : ℕ) → a < s.base + length s.cells →
    word_at (pushed s n) (pos a) ≡ word_at s (pos a)
cell_pushed s n a below =
    sym (word_popped (pushed s n) n a (omega (arith, below, pushed_length s n)))
    ∙ ap (λ (t : StackValue). word_at t (pos a)) (popped_pushed s n)

held_pushed : (s : StackValue) (z level n : ℕ) (vs : List Variable) → AreHeld s z level vs →
    AreHeld (pushed s n) z level vs
held_pushed s z level n [] h = tt
held_pushed s z level n (u ∷ us) h = (
  word_pushed s n (z + value_cell level) (word.Int u.value) h.0,
  h.1,
  held_pushed s z (suc level) n us h.2,
)

module _ (code : Listing) (heartbeat z : ℕ) where
  pub shows_pushed : (act : Activation) (n fuel : ℕ) (S : Scene code heartbeat z) (i : S.World)
      (names : List (List ℕ)) (lowest : S.lowest ≤ length names) (st : meaning.State)
      {words : List Word} {stack : StackValue} {holdings : List Holding} {spent : FuelState}
      {output : List ℕ} {goal : Goal} {ties : Option Tie × Option Tie}
      → Shows code heartbeat z act fuel S i names st words stack holdings spent output goal ties →
      Shows code heartbeat z (wider act n) fuel S i names st words (pushed stack n) holdings spent
      output goal ties
  shows_pushed act n fuel S i names lowest st {stack = stack} h = record {
    size = h.size;
    base = h.base;
    limit = h.limit;
    limited = h.limited;
    tall = omega (arith, h.tall);
    ticks = h.ticks;
    within = h.within;
    begun = h.begun;
    printed = h.printed;
    ends = h.ends;
    free = h.free;
    unmet = h.unmet;
    marked = h.marked;
    named = h.named;
    few = h.few;
    tabled = h.tabled;
    held = h.held;
    can = h.can;
    ranged = h.ranged;
    levels = word_pushed stack n (z + 2) (word.Int (pos S.levels)) h.levels;
    unmarked = clear_above stack.marks (z + act.size) (z + (act.size + n)) (omega arith) h.unmarked;
    top = omega (arith, h.top, pushed_length stack n);
    low = h.low;
    room = omega (arith, h.room, pushed_length stack n);
    vars = held_pushed stack z 0 n st.vars h.vars;
    keeps =
        S.stable i (length names) stack (pushed stack n) lowest
        (record {
          base = refl;
          at = λ a lt others. cell_pushed stack n a (omega (arith, lt, h.few, h.room));
        })
        h.keeps;
  }

  -- without them again, where no mark stands among them
  pub shows_popped : (act : Activation) (n fuel : ℕ) (S : Scene code heartbeat z) (i : S.World)
      (names : List (List ℕ)) (lowest : S.lowest ≤ length names) (st : meaning.State)
      {words : List Word} {stack : StackValue} {holdings : List Holding} {spent : FuelState}
      {output : List ℕ} {goal : Goal} {ties : Option Tie × Option Tie}
      → HasRoom act → S.size ≤ act.size → is_marked_from stack.marks (z + act.size) ≡ false
      → Shows code heartbeat z (wider act n) fuel S i names st words stack holdings spent output
      goal ties
      → Shows code heartbeat z act fuel S i names st words (popped stack n) holdings spent output
      goal ties
  shows_popped act n fuel S i names lowest st {stack = stack} has_room tall clear h = record {
    size = h.size;
    base = h.base;
    limit = h.limit;
    limited = h.limited;
    tall = tall;
    ticks = h.ticks;
    within = h.within;
    begun = h.begun;
    printed = h.printed;
    ends = h.ends;
    free = h.free;
    unmet = h.unmet;
    marked = h.marked;
    named = h.named;
    few = h.few;
    tabled = h.tabled;
    held = h.held;
    can = h.can;
    ranged = h.ranged;
    levels = same (z + levels_cell) (omega (arith, has_room.room)) ∙ h.levels;
    unmarked = clear;
    top = omega (arith, h.top, popped_length stack n, h.low);
    low = h.low;
    room = omega (arith, h.top, popped_length stack n, h.low, has_room.room);
    vars = held_same stack (popped stack n) z 0 st.vars
        (λ x from below. same (z + value_cell x)
        (omega (arith, has_room.room, h.few, below, as_many st.vars names h.named))) h.vars;
    keeps =
        S.stable i (length names) stack (popped stack n) lowest
        (record {
          base = refl;
          at = λ a lt others. same a (omega (arith, lt, h.few, has_room.room));
        })
        h.keeps;
  }
    where
      same : (a : ℕ) → a < z + act.size
          → word_at (popped stack n) (pos a) ≡ word_at stack (pos a)
      same a below = word_popped stack n a (omega (arith, h.top, below, h.low))

-- ---- scenes of functions

module _ (code : Listing) (heartbeat fuel z : ℕ) (act : Activation) where
  -- behind a function whose activation begins at z: where control returns, and what holds there
  -- while the activation still stands and the function's value is in register 0
  pub record Returns (C : Scene code heartbeat z) : Type 0 where
    pub label : C.World → ℕ
    pub calm : (w : C.World) → IsCalm code (label w)
    pub bare : C.registers ≡ []
    pub held : (w : C.World) (s : StackValue) → C.kept w s →
        word_at s (pos (z + return_cell)) ≡ Some (word.Label (label w))
    pub goes_on : (w : C.World) (names : List (List ℕ)) (st : meaning.State) (state : machine.State)
        (n : ℤ) (beat : BeatState) →
        ShowsIn code heartbeat z act fuel C w names st state → InRange n →
        register state.registers 0 ≡ word.Int n
        → (C.owing w (fin (with_value n st))).Holds
        (record state { beat = beat; block = label w; at = 0 })

-- an activation has room for its variables, and the stack for it and for all that may be called
-- from it
pub record HasPlace (z : ℕ) (act : Activation) (levels : ℕ) : Type 0 where
  pub has_room : HasRoom act
  pub deep : z + suc (suc levels) * MAX_ACTIVATION_CELLS ≤ 2 ^ 62

-- so it is with main's, where no call is open
pub main_has_place : (act : Activation) → HasRoom act → HasPlace 0 act MAX_CALL_DEPTH
main_has_place act has_room = record { has_room = has_room; deep = omega arith }

module _ (code : Listing) (heartbeat fuel : ℕ) (base : Activation) (p : Program) where
  abbrev fs : List Func
  fs = p.funcs.items

  -- the activation of a function
  abbrev pub activation_of : (x : List ℕ) (entry : Entry) → FunctionAt code (bare base) fs x entry →
      Activation
  activation_of x entry f = record base { most = f.most; size = entry.size }

  -- a function owes what its body and its result give, in every scene with so many levels of calls
  -- left, where it returns
  abbrev pub FunctionOwes : (x : List ℕ) (entry : Entry) → FunctionAt code (bare base) fs x entry →
      ℕ → Type 1
  FunctionOwes x entry f room =
      (z : ℕ) → HasPlace z (activation_of x entry f) room → (C : Scene code heartbeat z) →
      C.levels ≡ room → C.lowest ≡ 0 → ((c : ℕ) → header ≤ c → C.may c)
      →
      (list_is_quiet base.calls f.func.body.items ≡ false →
      PermitsCall code heartbeat z p base.dispatch C (texts f.func.params.items) x)
      →
      Returns code heartbeat fuel z (activation_of x entry f) C
      → OwedAt code heartbeat z (activation_of x entry f) fuel C (texts f.func.params.items)
      entry.label
      (λ st.
      then (result (run_list (body_set fs fuel room) f.func.body.items st))
      (value_then f.func.result))

  -- each function owes so, where calls have so many levels left
  abbrev pub FunctionsOwe : AreFunctions code base fs → ℕ → Type 1
  FunctionsOwe are zero = Unit {1}
  FunctionsOwe are (suc room) =
      (x : List ℕ) (entry : Entry) (is : entry_of base.functions x ≡ Some entry) →
      FunctionOwes x entry (are x entry is) room

  -- what the code of statements takes from the functions, where so many levels of calls are left
  pub record CallsOwe (room : ℕ) : Type 1 where
    pub few : room ≤ MAX_CALL_DEPTH
    pub quiet : base.calls ≡ functions_are_quiet fs
    pub are : AreFunctions code base fs
    pub owe : FunctionsOwe are room
