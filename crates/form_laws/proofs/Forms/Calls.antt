-- The scene of a function that is called: how it is entered, and how its caller goes on behind it.
use Rattle.std.proofs.Common.{◌≡◌, ◌≢◌, ℕ, suc, ◌+◌, ◌<◌, ◌≤◌, ◌^◌, false, List, [], ◌∷◌}
use Rattle.std.proofs.Common.{length, Option, Some, Ok, refl, sym, ap, subst, ◌∙◌, arith, ◌⊎◌, inl}
use Rattle.std.proofs.Common.{inr}
use Rattle.std.specs.Prelude.{ℤ, pos, ◌-ℤ◌, ◌+ℤ◌, slice_set}
use Rattle.std.specs.Int.{w64}
use Rattle.std.specs.List.{AllByRecursion}
use Rattle.std.proofs.lemmas.Bool.{cases_lt}
use Rattle.std.proofs.lemmas.Int.{ints, int_wrap_fits}
use Rattle.std.proofs.lemmas.List.{length-set}
use Rattle.beat_count.specs.BeatState.{BeatState}
use Rattle.beat_count.specs.FuelState.{FuelState}
use Rattle.beat_count.specs.Heartbeat.{counted}
use Rattle.slices.specs.Holding.{Holding}
use Rattle.stack_marks.specs.declared.mark.Mark.{Mark}
use Rattle.stack_marks.specs.Stacks.{StackValue, word_at, with_word, popped}
use Rattle.tp_value.specs.Number.{wrapped}
use Rattle.tp_value.specs.declared.limits.TheConstants.{MAX_CALL_DEPTH}
use Rattle.loop_syntax.specs.declared.Func.{Func}
use Rattle.loop_rules.specs.Names.{texts}
use Rattle.loop_meaning.specs.State as meaning
use Rattle.loop_meaning.specs.State.{Note, Ran, Writes, after, tick, trapped}
use Rattle.tpal_syntax.specs.declared.instructions.Alu.TheVariants as alu
use Rattle.tpal_syntax.specs.declared.instructions.Instr.{Instr}
use Rattle.tpal_syntax.specs.declared.instructions.Instr.TheVariants as instr
use Rattle.tpal_syntax.specs.declared.instructions.Term.{Term}
use Rattle.tpal_syntax.specs.declared.instructions.Value.TheVariants as value
use Rattle.tpal_syntax.specs.declared.words.Word.{Word}
use Rattle.tpal_syntax.specs.declared.words.Word.TheVariants as word
use Rattle.tpal_syntax.specs.Listing.{Listing}
use Rattle.tpal_machine.specs.declared.ends.Goal.{Goal}
use Rattle.tpal_machine.specs.declared.ends.Tie.{Tie}
use Rattle.tpal_machine.specs.Effect as effect
use Rattle.tpal_machine.specs.Effect.{is_marked_from}
use Rattle.tpal_machine.specs.Reading.{register, with_register}
use Rattle.tpal_machine.specs.State as machine
use Rattle.tpal_machine.specs.Step.{advanced}
use Rattle.tpal_machine.proofs.Kit.{Back, on_calc}
use Rattle.expr_lower.specs.Standing.{Remains}
use Rattle.expr_lower.proofs.Keeping.{register_set, register_other}
use Rattle.expr_lower.proofs.Standing.{next, behind}
use Rattle.handler_gen.proofs.Words.{word_same, word_other, words_as_many}
use Rattle.scene_laws.specs.Code.{Opens, call_entry, parameter_cell}
use Rattle.scene_laws.specs.Code.{store, to}
use Rattle.scene_laws.specs.Layout.{return_cell, levels_cell, value_cell, Entry}
use Rattle.scene_laws.specs.Layout.{Activation}
use Rattle.form_laws.specs.Functions.{HasRoom}
use Rattle.scene_laws.proofs.Scenes.Activations.{word_popped, clear_above}
use Rattle.scene_laws.proofs.Scenes.Activations.{marks_from}
use Rattle.form_laws.proofs.Forms.Arguments.{AreIn, are_in_same, held_bound, names_bound, wider}
use Rattle.scene_laws.proofs.Scenes.Called.{back_with, going_back}
use Rattle.scene_laws.proofs.Scenes.Called.{entered_with}
use Rattle.form_laws.proofs.Forms.Callees.{shows_popped}
use Rattle.scene_laws.proofs.Scenes.Moves.{jumps}
use Rattle.scene_laws.proofs.Scenes.Promises.{following}
use Rattle.scene_laws.proofs.Scenes.Regions.{Covers, all_front}
use Rattle.scene_laws.proofs.Scenes.Results.{Result, noting_then, notes_behind, notes_then}
use Rattle.scene_laws.proofs.Scenes.Results.{then}
use Rattle.scene_laws.proofs.Scenes.Scene.{Scene, Near, Shows, ShowsIn, header, runs_kept}
use Rattle.scene_laws.proofs.Scenes.Showing.{as_many}
use Rattle.form_laws.proofs.Forms.Simple.{stores_in}
use Rattle.scene_laws.proofs.Scenes.Variables.{AreHeld, held_same, var_names}

-- ---- numbers

pub level_less : (room : ℕ) → room ≤ MAX_CALL_DEPTH → wrapped (pos (suc room) -ℤ pos 1) ≡ pos room
level_less room few =
    let same : pos (suc room) -ℤ pos 1 ≡ pos room = omega (arith, ints) in
    rw same (int_wrap_fits w64 (pos room) (omega (arith, ints, few)))

pub base_more : (z size : ℕ) → z + size ≤ 2 ^ 62 → wrapped (pos z +ℤ pos size) ≡ pos (z + size)
base_more z size low = int_wrap_fits w64 (pos (z + size)) (omega (arith, ints, low))

pub base_less : (z size : ℕ) → z + size ≤ 2 ^ 62 → wrapped (pos (z + size) -ℤ pos size) ≡ pos z
base_less z size low =
    let same : pos (z + size) -ℤ pos size ≡ pos z = omega (arith, ints) in
    rw same (int_wrap_fits w64 (pos z) (omega (arith, ints, low)))

-- ---- the entry

-- the levels that are left and the label to return to, in the first cells of an activation
abbrev pub entered_stack : ℕ → ℕ → ℕ → ℕ → StackValue → StackValue
entered_stack z size room back s = with_word (with_word s (pos (z + (size + levels_cell))) (word.Int
    (pos room))) (pos (z + (size + return_cell))) (word.Label back)

module _ (code : Listing) (heartbeat z : ℕ) (act : Activation) (fuel room back : ℕ) where
  -- a task enters a function, where the number of levels that were left is in register 0
  pub entering : (K : Back code heartbeat) (state : machine.State) (label : ℕ) (instrs : List Instr)
      (end : Term) → Opens code label instrs end → Remains code state.block state.at (call_entry
      act.size back) (to label)
      → length state.registers ≡ 32 → register state.registers 31 ≡ word.Int (pos z) → register
      state.registers 0 ≡ word.Int (pos (suc room)) → room ≤ MAX_CALL_DEPTH → z + act.size ≤ 2 ^
      62 → state.stack.base ≤ z → z + (act.size + levels_cell) < state.stack.base + length
      state.stack.cells
      → ((words : List Word) (beat : BeatState) → length words ≡ 32 → register words 31 ≡ word.Int
      (pos (z + act.size)) → K.Holds (record state {
        registers = words;
        stack = entered_stack z
            act.size room back state.stack;
        beat = beat;
        block = label;
        at = 0;
      }))
      → K.Holds state
  entering K state label instrs end begins stands many base left few high low inside go =
      on_calc code heartbeat K state 0 0 alu.Sub (value.Int (pos 1)) (word.Int (pos room)) (next
      code state _ _ (to label) stands) (rw left (ap (λ n. Ok (word.Int n)) (level_less room
      few)))
      (stores_in code heartbeat z act fuel K one (act.size + levels_cell) (value.Reg 0) _ (to label)
      second base_one low inside
      (subst (λ (w : Word). K.Holds (effect.with_stack (advanced one) (with_word state.stack (pos (z
      + (act.size + levels_cell))) w))) (sym is_one)
      (stores_in code heartbeat z act fuel K two (act.size + return_cell) (value.Label back) _ (to
      label) third base_one low (omega (
        arith,
        inside,
        words_as_many state.stack (z + (act.size
            + levels_cell)) (word.Int (pos room)),
      ))
      (on_calc code heartbeat K three 31 31 alu.Add (value.Int (pos act.size)) (word.Int (pos (z +
      act.size))) (next code three _ _ (to label) fourth) (rw base_one (ap (λ n. Ok (word.Int
      n)) (base_more z act.size high)))
      (jumps code heartbeat K four label instrs end (behind code state.block (state.at + 1 + 1 + 1)
      _ _ (to label) fourth) begins
      (go (slice_set words 31 (word.Int (pos (z + act.size)))) (counted (counted (counted (counted
      (counted state.beat))))) (length-set words 31 (word.Int (pos (z + act.size))) ∙ many_one)
      (register_set words 31 (word.Int (pos (z + act.size))) (omega (arith, many_one)))))))))
    where
      words : List Word
      words = slice_set state.registers 0 (word.Int (pos room))

      many_one : length words ≡ 32
      many_one = length-set state.registers 0 (word.Int (pos room)) ∙ many

      base_one : register words 31 ≡ word.Int (pos z)
      base_one = register_other state.registers 0 31 (word.Int (pos room)) (λ (q : 31 ≡ 0). absurd
          (omega (arith, q))) ∙ base

      is_one : register words 0 ≡ word.Int (pos room)
      is_one = register_set state.registers 0 (word.Int (pos room)) (omega (arith, many))

      one : machine.State
      one = with_register (advanced state) 0 (word.Int (pos room))

      two : machine.State
      two = effect.with_stack (advanced one) (with_word state.stack (pos (z + (act.size +
          levels_cell))) (word.Int (pos room)))

      three : machine.State
      three = effect.with_stack (advanced two) (entered_stack z act.size room back state.stack)

      four : machine.State
      four = with_register (advanced three) 31 (word.Int (pos (z + act.size)))

      second : Remains code state.block (state.at + 1) (store (act.size + levels_cell) (value.Reg 0)
          ∷ store (act.size + return_cell) (value.Label back) ∷ instr.Calc 31 31 alu.Add (value.Int
          (pos act.size)) ∷ []) (to label)
      second = behind code state.block state.at _ _ (to label) stands

      third : Remains code state.block (state.at + 1 + 1) (store (act.size + return_cell)
          (value.Label back) ∷ instr.Calc 31 31 alu.Add (value.Int (pos act.size)) ∷ []) (to label)
      third = behind code state.block (state.at + 1) _ _ (to label) second

      fourth : Remains code state.block (state.at + 1 + 1 + 1) (instr.Calc 31 31 alu.Add (value.Int
          (pos act.size)) ∷ []) (to label)
      fourth = behind code state.block (state.at + 1 + 1) _ _ (to label) third

-- ---- callers

module _ (code : Listing) (heartbeat z : ℕ) (act : Activation) (fuel : ℕ) (S : Scene code heartbeat
    z) (names : List (List ℕ)) where
  -- who goes on behind a call: its world, its state, and a value that its activation keeps
  pub record Caller (A : Type 0) : Type 0 where
    pub world : S.World
    pub state : meaning.State
    pub value : A
    pub named : var_names state.vars ≡ names
    pub few : length names ≤ act.most
    pub tall : S.size ≤ act.size

  -- how an activation keeps a value, in cells behind those of the variables
  pub record Keeping (A : Type 0) : Type 1 where
    pub Holds : A → StackValue → Type 0
    pub same : length names ≤ act.most → (a : A) (s t : StackValue) → ((c : ℕ) → z + value_cell
        (length names) ≤ c → c < z + act.size → word_at t (pos c) ≡ word_at s (pos c)) → Holds a s →
        Holds a t

  -- a task that is about to call: the arguments are in the function's activation, above its own
  pub record Calling {A : Type 0} (kept : Keeping A) (entry : Entry) (w : Caller A) : Type 0 where
    pub task : machine.State
    pub numbers : List ℤ
    pub shows : ShowsIn code heartbeat z (wider act entry.size) fuel S w.world names w.state task
    pub many : length numbers ≡ entry.parameters
    pub stored : AreIn task.stack z (parameter_cell code act) 0 numbers
    pub also : kept.Holds w.value task.stack

-- ---- the scene of a function

module _ (code : Listing) (heartbeat z : ℕ) (act : Activation) (fuel : ℕ) (S : Scene code heartbeat
    z) (names : List (List ℕ)) (lowest : S.lowest ≤ length names) (has_room : HasRoom act) (A : Type
    0) (kept : Keeping code heartbeat z act fuel S names A)
    (next_in : A → ℤ → meaning.State → Ran) (k : meaning.State → Result) (room back : ℕ) where
  abbrev Behind : Type 0
  Behind = Caller code heartbeat z act fuel S names A

  -- what is kept of the caller, below the function's activation, whose first cell has the label to
  -- return to
  pub record Kept (w : Behind) (s : StackValue) : Type 0 where
    pub keeps : S.kept w.world s
    pub low : s.base ≤ z
    pub vars : AreHeld s z 0 w.state.vars
    pub levels : word_at s (pos (z + levels_cell)) ≡ Some (word.Int (pos S.levels))
    pub label : word_at s (pos (z + act.size + return_cell)) ≡ Some (word.Label back)
    pub also : kept.Holds w.value s

  pub kept_same : (w : Behind) (s t : StackValue) → t.base ≡ s.base → ((a : ℕ) → a < z + act.size +
      header → word_at t (pos a) ≡ word_at s (pos a)) → Kept w s → Kept w t
  kept_same w s t base at h = record {
    keeps = S.stable w.world (length names) s t lowest (record {
      base = base;
      at = λ a lt others. at
          a (omega (arith, lt, w.few, has_room.room));
    }) h.keeps;
    low = omega (arith, base, h.low);
    vars = held_same s t z 0 w.state.vars (λ x from below. at (z + value_cell x) (omega (
      arith,
      below,
      as_many w.state.vars names w.named,
      w.few,
      has_room.room,
    ))) h.vars;
    levels = at (z + levels_cell) (omega (arith, has_room.room)) ∙ h.levels;
    label = at (z + act.size + return_cell) (omega arith) ∙ h.label;
    also = kept.same w.few w.value s t (λ c from below. at c (omega (arith, below))) h.also;
  }

  -- the same behind a cut of the caller's world
  pub kept_near : (w : Behind) (cut : S.World) (s t : StackValue) → Near z S.may S.lowest s t →
      S.kept cut t → Kept w s → Kept (record w { world = cut }) t
  kept_near w cut s t near keeps h = record {
    keeps = keeps;
    low = near.low;
    vars = held_same s t z 0 w.state.vars (λ x from below. near_cell x (cases_lt x S.lowest))
        h.vars;
    levels = near.levels ∙ h.levels;
    label = near.above (z + act.size + return_cell) (omega (arith, lowest, w.few, has_room.room)) ∙
        h.label;
    also = kept.same w.few w.value s t (λ c from below. near.above c (omega (arith, from, lowest)))
        h.also;
  }
    where
      near_cell : (x : ℕ) → (x < S.lowest) ⊎ (S.lowest ≤ x) → word_at t (pos (z + value_cell x)) ≡
          word_at s (pos (z + value_cell x))
      near_cell x (inl below) = near.vars x below
      near_cell x (inr above) = near.above (z + value_cell x) (omega (arith, above))

  -- such a cut changes nothing of the function's activation
  pub near_up : (w : Behind) (s t : StackValue) → Near z S.may S.lowest s t → Near (z + act.size) (λ
      c. header ≤ c) 0 s t
  near_up w s t near = record {
    low = omega (arith, near.low);
    top = near.top;
    levels = near.above (z + act.size + levels_cell) (omega (arith, lowest, w.few, has_room.room));
    vars = λ x lt. absurd (omega (arith, lt));
    own = λ c m. near.above (z + act.size + c) (omega (arith, lowest, w.few, has_room.room));
    above = λ a from. near.above a (omega (arith, from, lowest, w.few, has_room.room));
  }

  -- no mark of the caller's world stands in it or above
  pub clear : (w : Behind) (a : ℕ) → z + act.size ≤ a → is_marked_from (S.marks w.world) a ≡ false
  clear w a from = clear_above (S.marks w.world) (z + value_cell S.lowest) a (omega (
    arith,
    from,
    lowest,
    w.few,
    has_room.room,
  )) (S.below w.world)

  -- what follows the function
  abbrev pub follows : Behind → meaning.State → Result
  follows w = going_back w.state.vars (next_in w.value) k

  -- behind the function its caller goes on with the value, at a label
  abbrev pub callee : Scene code heartbeat (z + act.size)
  callee = record {
    World = Behind;
    levels = room;
    fuel = S.fuel;
    dispatch = S.dispatch;
    size = 0;
    promise = following code heartbeat S.promise (λ w. w.world) follows;
    around = record {
      marks = λ w. S.marks w.world;
      goal = λ w. S.goal w.world;
      before = λ w. S.before w.world;
      since = λ w. S.since w.world;
      region = λ w. S.region w.world;
      kept = Kept;
      can = λ w. S.can w.world;
    };
    lowest = 0;
    may = λ c. header ≤ c;
    cut = λ w n printed. record w { world = S.cut w.world n printed };
    registers = [];
    high = tt;
    unlike = tt;
    under = λ i d below. absurd (omega (arith, below));
    sized = λ i d below. absurd (omega (arith, below));
    stable = λ w level s t low same h. kept_same w s t same.base (λ a lt. same.at a (omega (
      arith,
      lt,
    )) (λ c m q. absurd (omega (arith, lt, q, m)))) h;
    below = λ w. clear w (z + act.size + value_cell 0) (omega arith);
    stops = λ w. S.stops w.world;
    stopped = λ w. S.stopped w.world;
    covers = λ w r given. all_front (Covers (S.region w.world)) r.notes (notes_behind r (follows w))
        (subst (AllByRecursion (Covers (S.region w.world))) (notes_then r (follows w)) (S.covers
        w.world (then r (follows w)) given));
    allows = λ w t a b n ts r has given. S.allows w.world t a b n ts (then r (follows w)) has (subst
        (S.given w.world) (noting_then (Writes t a b ∷ []) r (follows w)) given);
    is_open = S.is_open;
    handles = λ opened w more r st state marked from diverted runs goes_back cut.
        S.handles opened w.world more (then r (follows w)) st state marked (marks_from more (z +
        value_cell S.lowest) (z + act.size + value_cell 0) (omega (
          arith,
          lowest,
          w.few,
          has_room.room,
        )) from) diverted
        (runs_kept runs z S.size (S.kept w.world) runs.keeps.low (omega (arith, runs.tall, w.tall))
        runs.keeps.keeps) goes_back
        (λ n u gone near runs_u. cut n u gone (near_up w state.stack u.stack near)
        (runs_kept runs_u (z + act.size) 0 (Kept (record w { world = S.cut w.world n st.output }))
        (omega (arith, runs_u.low)) (omega (arith, runs.tall, near.top))
        (kept_near w (S.cut w.world n st.output) state.stack u.stack near runs_u.keeps
        runs.keeps)));
  }

  -- the activation of the function, with room for so many variables
  abbrev pub inner : Entry → ℕ → Activation
  inner entry most = record act { most = most; size = entry.size }

  -- ---- into the function

  module _ (entry : Entry) (w : Behind) (c : Calling code heartbeat z act fuel S names kept entry w)
    where
      low : c.task.stack.base ≤ z
      low = c.shows.low

      top : c.task.stack.base + length c.task.stack.cells ≡ z + (act.size + entry.size)
      top = c.shows.top

      abbrev first_stack : StackValue
      first_stack = with_word c.task.stack (pos (z + (act.size + levels_cell))) (word.Int (pos room))

      abbrev stack : StackValue
      stack = entered_stack z act.size room back c.task.stack

      pub as_long : length stack.cells ≡ length c.task.stack.cells
      as_long = words_as_many first_stack (z + (act.size + return_cell)) (word.Label back) ∙
          words_as_many c.task.stack (z + (act.size + levels_cell)) (word.Int (pos room))

      -- all other cells are as before
      others : (a : ℕ) → a ≢ z + (act.size + levels_cell) → a ≢ z + (act.size + return_cell) → word_at
          stack (pos a) ≡ word_at c.task.stack (pos a)
      others a ne nf = word_other first_stack (z + (act.size + return_cell)) a (word.Label back)
          (omega (arith, low)) nf ∙ word_other c.task.stack (z + (act.size + levels_cell)) a (word.Int
          (pos room)) (omega (arith, low)) ne

      -- so are those of the caller
      lower : (a : ℕ) → a < z + act.size → word_at stack (pos a) ≡ word_at c.task.stack (pos a)
      lower a lt = others a (λ q. absurd (omega (arith, q, lt))) (λ q. absurd (omega (arith, q, lt)))

      pub stored_there : AreIn stack z (parameter_cell code act) 0 c.numbers
      stored_there = are_in_same c.task.stack stack z (parameter_cell code act) 0 c.numbers (λ j from
          to_it. others (z + parameter_cell code act j) (λ q. absurd (omega (arith, q))) (λ q. absurd
          (omega (arith, q)))) c.stored

      pub levels_there : value_cell 0 ≤ entry.size → word_at stack (pos (z + act.size + levels_cell))
          ≡ Some (word.Int (pos room))
      levels_there room_in =
          let same : z + act.size + levels_cell ≡ z + (act.size + levels_cell) = omega arith in
          ap (λ a. word_at stack (pos a)) same
          ∙ (word_other first_stack (z + (act.size + return_cell)) (z + (act.size + levels_cell))
          (word.Label back) (omega (arith, low)) (λ q. absurd (omega (arith, q)))
          ∙ word_same c.task.stack (z + (act.size + levels_cell)) (word.Int (pos room)) (omega (
            arith,
            low,
          )) (omega (arith, top, room_in)))

      pub kept_there : value_cell 0 ≤ entry.size → Kept w stack
      kept_there room_in =
          let same : z + act.size + return_cell ≡ z + (act.size + return_cell) = omega arith in
          record {
            keeps = S.stable w.world (length names) c.task.stack stack lowest (record {
              base = refl;
              at = λ a lt others_it. lower a (omega (arith, lt, w.few, has_room.room));
            })
                c.shows.keeps;
            low = low;
            vars = held_same c.task.stack stack z 0 w.state.vars (λ x from below. lower (z +
                value_cell x) (omega (
                  arith,
                  below,
                  as_many w.state.vars names w.named,
                  w.few,
                  has_room.room,
                ))) c.shows.vars;
            levels = lower (z + levels_cell) (omega (arith, has_room.room)) ∙ c.shows.levels;
            label = ap (λ a. word_at stack (pos a)) same ∙ word_same first_stack (z + (act.size +
                return_cell)) (word.Label back) (omega (arith, low)) (omega (
                  arith,
                  top,
                  room_in,
                  words_as_many c.task.stack (z + (act.size + levels_cell)) (word.Int (pos room)),
                ));
            also = kept.same w.few w.value c.task.stack stack (λ a from below. lower a below) c.also;
          }

      -- a task in the function's first block shows its parameters
      pub shows_callee : (most : ℕ) (func : Func) (words : List Word) (spent : FuelState) (st :
          meaning.State) → length func.params.items ≡ entry.parameters → length (texts
          func.params.items) ≤ most → HasRoom (inner entry most)
          → Shows code heartbeat z (wider act entry.size) fuel S w.world names st c.task.registers
          c.task.stack c.task.tables spent c.task.output c.task.goal (c.task.pending, c.task.met)
          → length words ≡ 32 → register words 31 ≡ word.Int (pos (z + act.size))
          → Shows code heartbeat (z + act.size) (inner entry most) fuel callee w (texts
          func.params.items) (entered_with func c.numbers st) words stack c.task.tables spent
          c.task.output c.task.goal (c.task.pending, c.task.met)
      shows_callee most func words spent st arity few room_in h many base = record {
        size = many;
        base = base;
        limit = h.limit;
        limited = h.limited;
        tall = omega arith;
        ticks = h.ticks;
        within = h.within;
        begun = h.begun;
        printed = h.printed;
        ends = h.ends;
        free = h.free;
        unmet = h.unmet;
        marked = h.marked;
        named = names_bound func.params.items c.numbers (c.many ∙ sym arity);
        few = few;
        tabled = h.tabled;
        held = h.held;
        can = h.can;
        ranged = h.ranged;
        levels = levels_there (omega (arith, room_in.room));
        unmarked = subst (λ (a : ℕ). is_marked_from c.task.stack.marks a ≡ false) (omega arith)
            h.unmarked;
        top = omega (arith, h.top, as_long);
        low = omega (arith, low);
        room = omega (arith, h.top, as_long, room_in.room);
        vars = held_bound stack z act.size 0 func.params.items c.numbers stored_there;
        keeps = kept_there (omega (arith, room_in.room));
      }

  -- ---- and back

  module _ (entry : Entry) (w : Behind) (t : StackValue) (same : Kept w t) (is_top : t.base + length
      t.cells ≡ z + act.size + entry.size) where
    caller_cells : (a : ℕ) → a < z + act.size → word_at (popped t entry.size) (pos a) ≡ word_at t
        (pos a)
    caller_cells a lt = word_popped t entry.size a (omega (arith, is_top, lt, same.low))

    pub also_back : kept.Holds w.value (popped t entry.size)
    also_back = kept.same w.few w.value t (popped t entry.size) (λ a from below. caller_cells a
        below) same.also

    -- its marks are those of the caller's world, below the function's cells
    bare_from : t.marks ≡ S.marks w.world → (a : ℕ) → z + act.size ≤ a
        → is_marked_from t.marks a ≡ false
    bare_from marked a from =
        subst (λ (ms : List Mark). is_marked_from ms a ≡ false) (sym marked) (clear w a from)

    -- a task that returned shows the caller's variables, below the cells of the function
    pub shows_below : (most : ℕ) (names_in : List (List ℕ)) (u : meaning.State) (words other : List
        Word) (holdings : List Holding) (spent : FuelState) (output : List ℕ) (goal : Goal) (ties :
        Option Tie × Option Tie)
        → Shows code heartbeat (z + act.size) (inner entry most) fuel callee w names_in u words t
        holdings spent output goal ties → length other ≡ 32 → register other 31 ≡ word.Int (pos
        z)
        → Shows code heartbeat z (wider act entry.size) fuel S w.world names (back_with w.state.vars
        u) other t holdings spent output goal ties
    shows_below most names_in u words other holdings spent output goal ties h many base = record {
      size = many;
      base = base;
      limit = h.limit;
      limited = h.limited;
      tall = omega (arith, w.tall);
      ticks = h.ticks;
      within = h.within;
      begun = h.begun;
      printed = h.printed;
      ends = h.ends;
      free = h.free;
      unmet = h.unmet;
      marked = h.marked;
      named = w.named;
      few = w.few;
      tabled = h.tabled;
      held = h.held;
      can = h.can;
      ranged = h.ranged;
      levels = same.levels;
      unmarked = bare_from h.marked (z + (act.size + entry.size)) (omega arith);
      top = omega (arith, is_top);
      low = same.low;
      room = omega (arith, is_top, has_room.room);
      vars = same.vars;
      keeps = same.keeps;
    }

    -- the same without them
    pub shows_back : (most : ℕ) (names_in : List (List ℕ)) (u : meaning.State) (words other : List
        Word) (holdings : List Holding) (spent : FuelState) (output : List ℕ) (goal : Goal) (ties :
        Option Tie × Option Tie)
        → Shows code heartbeat (z + act.size) (inner entry most) fuel callee w names_in u words t
        holdings spent output goal ties → length other ≡ 32 → register other 31 ≡ word.Int (pos
        z)
        → Shows code heartbeat z act fuel S w.world names (back_with w.state.vars u) other (popped t
        entry.size) holdings spent output goal ties
    shows_back most names_in u words other holdings spent output goal ties h many base =
        shows_popped code heartbeat z act entry.size fuel S w.world names lowest
        (back_with w.state.vars u) has_room w.tall (bare_from h.marked (z + act.size) (omega arith))
        (shows_below most names_in u words other holdings spent output goal ties h many base)
