-- What a task shows, after its registers, its stack, its ticks or its output changed.
use Rattle.std.proofs.Common.{◌≡◌, ◌≢◌, ℕ, suc, ◌+◌, ◌<◌, ◌≤◌, true, List, [], ◌∷◌, ◌++◌, length}
use Rattle.std.proofs.Common.{take, Option, Some, refl, sym, ap, subst, ◌∙◌, arith, append_assoc}
use Rattle.std.proofs.Common.{All}
use Rattle.std.specs.Prelude.{ℤ, pos, slice_set}
use Rattle.std.proofs.lemmas.Bool.Decides.{nat_tests}
use Rattle.std.proofs.lemmas.List.{length-append, length-set, length-take}
use Rattle.beat_count.specs.FuelState.{FuelState}
use Rattle.beat_count.specs.Ticks.{is_tick_allowed, ticked}
use Rattle.slices.specs.Holding.{Holding}
use Rattle.tp_value.specs.declared.Table.{Table}
use Rattle.stack_marks.specs.Stacks.{StackValue, word_at, with_word}
use Rattle.tpal_syntax.specs.declared.words.Word.{Word}
use Rattle.tpal_syntax.specs.declared.words.Word.TheVariants.{Int}
use Rattle.tpal_syntax.specs.Listing.{Listing}
use Rattle.tpal_machine.specs.declared.ends.Goal.{Goal}
use Rattle.tpal_machine.specs.declared.ends.Tie.{Tie}
use Rattle.tpal_machine.specs.Reading.{register}
use Rattle.expr_lower.proofs.Keeping.{register_other}
use Rattle.handler_gen.proofs.LeafStores.{cells_with}
use Rattle.scene_laws.specs.Round.{register_for}
use Rattle.loop_meaning.specs.declared.value.Variable.{Variable}
use Rattle.loop_meaning.specs.InRange.{InRange, TableInRange}
use Rattle.loop_meaning.specs.State as meaning
use Rattle.loop_meaning.specs.State.{assign, declare}
use Rattle.handler_gen.proofs.Words.{word_same, word_other, words_as_many}
use Rattle.scene_laws.specs.Code.{IsCell}
use Rattle.scene_laws.specs.Layout.{levels_cell, value_cell, Activation}
use Rattle.scene_laws.proofs.Scenes.Results.{left}
use Rattle.scene_laws.proofs.Scenes.Registered.{other_store, register_store, same_registers}
use Rattle.scene_laws.proofs.Scenes.Scene.{Scene, Shows, seen}
use Rattle.scene_laws.proofs.Scenes.Regions.{AreShown}
use Rattle.scene_laws.proofs.Scenes.Tables.{table_names}
use Rattle.scene_laws.proofs.Scenes.Variables.{var_names, held_same, held_declare, held_assign}
use Rattle.scene_laws.proofs.Scenes.Variables.{held_take, names_declare, names_assign, names_take}

as_many_names : (vs : List Variable) → length vs ≡ length (var_names vs)
as_many_names [] = refl
as_many_names (u ∷ us) = ap suc (as_many_names us)

pub as_many : (vs : List Variable) (names : List (List ℕ)) → var_names vs ≡ names → length vs ≡ length names
as_many vs names named = as_many_names vs ∙ ap length named

module _ (code : Listing) (heartbeat z : ℕ) (act : Activation) (fuel : ℕ) (S : Scene code heartbeat z) (i : S.World) where
  abbrev Shown : List (List ℕ) → meaning.State → List Word → StackValue → List Holding → FuelState → List ℕ → Goal → Option Tie × Option Tie → Type 0
  Shown names st words stack holdings spent output goal ties = Shows code heartbeat z act fuel S i names st words stack holdings spent output goal ties

  -- other registers
  pub shows_words : {names : List (List ℕ)} {st : meaning.State} {words : List Word} {stack : StackValue} {holdings : List Holding} {spent : FuelState} {output : List ℕ} {goal : Goal} {ties : Option Tie × Option Tie} → Shown names st words stack holdings spent output goal ties
      → (other : List Word) → length other ≡ length words → register other 31 ≡ register words 31 → Shown names st other stack holdings spent output goal ties
  shows_words h other size same = record {
    size = size ∙ h.size;
    base = same ∙ h.base;
    limit = h.limit;
    limited = h.limited;
    tall = h.tall;
    ticks = h.ticks;
    within = h.within;
    begun = h.begun;
    printed = h.printed;
    ends = h.ends;
    free = h.free;
    unmet = h.unmet;
    marked = h.marked;
    named = h.named;
    few = h.few;
    tabled = h.tabled;
    held = h.held;
    can = h.can;
    ranged = h.ranged;
    levels = h.levels;
    unmarked = h.unmarked;
    top = h.top;
    low = h.low;
    room = h.room;
    vars = h.vars;
    keeps = h.keeps;
  }

  -- other registers below 24
  pub shows_low : {names : List (List ℕ)} {st : meaning.State} {words : List Word}
      {holdings : List Holding} {spent : FuelState} {output : List ℕ} {goal : Goal}
      {ties : Option Tie × Option Tie} → (stack : StackValue) → Shown names st words
      (seen code heartbeat z act fuel S words stack) holdings spent output goal ties
      → (other : List Word) → length other ≡ length words
      → ((r : ℕ) → 24 ≤ r → register other r ≡ register words r) → Shown names st other
      (seen code heartbeat z act fuel S other stack) holdings spent output goal ties
  shows_low {names} {st} {words} {holdings} {spent} {output} {goal} {ties} stack h other size high =
      subst (λ (t : StackValue). Shown names st other t holdings spent output goal ties)
      (sym (same_registers S.registers z words other stack S.high (λ r low up. high r low)))
      (shows_words h other size (high 31 (omega arith)))

  -- a store to a cell for which no register stands
  pub shows_stored : {names : List (List ℕ)} {st : meaning.State} {words : List Word}
      {holdings : List Holding} {spent : FuelState} {output : List ℕ} {goal : Goal}
      {ties : Option Tie × Option Tie} → (stack : StackValue) → (cell : ℕ) (w : Word)
      → stack.base ≤ z → All (λ c. cell ≢ c) (cells_with S.registers)
      → Shown names st words (with_word (seen code heartbeat z act fuel S words stack)
      (pos (z + cell)) w) holdings spent output goal ties
      → Shown names st words (seen code heartbeat z act fuel S words
      (with_word stack (pos (z + cell)) w)) holdings spent output goal ties
  shows_stored {names} {st} {words} {holdings} {spent} {output} {goal} {ties} stack cell w low apart
      h =
      subst (λ (t : StackValue). Shown names st words t holdings spent output goal ties)
      (sym (other_store S.registers z cell words stack w low apart)) h

  -- a register that stands for a cell is set
  pub shows_held : {names : List (List ℕ)} {st : meaning.State} {words : List Word}
      {holdings : List Holding} {spent : FuelState} {output : List ℕ} {goal : Goal}
      {ties : Option Tie × Option Tie} → (stack : StackValue) → (cell held : ℕ) (w : Word)
      → register_for S.registers cell ≡ Some held → stack.base ≤ z → held < length words → held ≢ 31
      → Shown names st words (with_word (seen code heartbeat z act fuel S words stack)
      (pos (z + cell)) w) holdings spent output goal ties
      → Shown names st (slice_set words held w)
      (seen code heartbeat z act fuel S (slice_set words held w) stack) holdings spent output goal
      ties
  shows_held {names} {st} {words} {holdings} {spent} {output} {goal} {ties} stack cell held w is low
      inside other h =
      subst (λ (t : StackValue). Shown names st (slice_set words held w) t holdings spent output
      goal ties) (sym (register_store S.registers z cell held words stack w low inside S.unlike is))
      (shows_words h (slice_set words held w) (length-set words held w)
      (register_other words held 31 w (λ (q : 31 ≡ held). other (sym q))))

  -- a word in a cell above those of the variables
  pub shows_new : {names : List (List ℕ)} {st : meaning.State} {words : List Word} {stack : StackValue} {holdings : List Holding} {spent : FuelState} {output : List ℕ} {goal : Goal} {ties : Option Tie × Option Tie} → Shown names st words stack holdings spent output goal ties
      → (cell : ℕ) (w : Word) → value_cell (length names) ≤ cell → S.lowest ≤ length names → Shown names st words (with_word stack (pos (z + cell)) w) holdings spent output goal ties
  shows_new {names} {st} {stack = stack} h cell w above lowest =
      let from : stack.base ≤ z + cell = omega (arith, h.low) in
      let many : length st.vars ≡ length names = as_many st.vars names h.named in
      record {
        size = h.size;
        base = h.base;
        limit = h.limit;
        limited = h.limited;
        tall = h.tall;
        ticks = h.ticks;
        within = h.within;
        begun = h.begun;
        printed = h.printed;
        ends = h.ends;
        free = h.free;
        unmet = h.unmet;
        marked = h.marked;
        named = h.named;
        few = h.few;
        tabled = h.tabled;
        held = h.held;
        can = h.can;
        ranged = h.ranged;
        levels = word_other stack (z + cell) (z + levels_cell) w from (λ (q : z + levels_cell ≡ z + cell). absurd (omega (arith, q, above))) ∙ h.levels;
        unmarked = h.unmarked;
        top = omega (arith, h.top, words_as_many stack (z + cell) w);
        low = h.low;
        room = omega (arith, h.room, words_as_many stack (z + cell) w);
        vars = held_same stack (with_word stack (pos (z + cell)) w) z 0 st.vars (λ x low high. word_other stack (z + cell) (z + value_cell x) w from (λ (q : z + value_cell x ≡ z + cell). absurd (omega (arith, q, high, many, above)))) h.vars;
        keeps = S.stable i (length names) stack (with_word stack (pos (z + cell)) w) lowest (record {
          base = refl;
          at = λ a lt others. word_other stack (z + cell) a w from (λ (q : a ≡ z + cell). absurd (omega (arith, q, lt, above)));
        }) h.keeps;
      }

  -- one more variable, whose number is in its cell
  pub shows_declared : {names : List (List ℕ)} {st : meaning.State} {words : List Word} {stack : StackValue} {holdings : List Holding} {spent : FuelState} {output : List ℕ} {goal : Goal} {ties : Option Tie × Option Tie} → Shown names st words stack holdings spent output goal ties
      → (x : List ℕ) (n : ℤ) → length names < act.most → word_at stack (pos (z + value_cell (length names))) ≡ Some (Int n) → InRange n → Shown (names ++ x ∷ []) (record st { vars = declare st.vars x n }) words stack holdings spent output goal ties
  shows_declared {names} {st} {stack = stack} h x n below is fits =
      let many : 0 + length st.vars ≡ length names = omega (arith, as_many st.vars names h.named) in
      record {
        size = h.size;
        base = h.base;
        limit = h.limit;
        limited = h.limited;
        tall = h.tall;
        ticks = h.ticks;
        within = h.within;
        begun = h.begun;
        printed = h.printed;
        ends = h.ends;
        free = h.free;
        unmet = h.unmet;
        marked = h.marked;
        named = names_declare st.vars x n ∙ ap (λ ns. ns ++ x ∷ []) h.named;
        few = omega (arith, length-append names (x ∷ []));
        tabled = h.tabled;
        held = h.held;
        can = h.can;
        ranged = h.ranged;
        levels = h.levels;
        unmarked = h.unmarked;
        top = h.top;
        low = h.low;
        room = h.room;
        vars = held_declare stack z 0 st.vars x n h.vars (ap (λ k. word_at stack (pos (z + value_cell k))) many ∙ is) fits;
        keeps = h.keeps;
      }

  -- a variable assigned
  pub shows_assigned : {names : List (List ℕ)} {st : meaning.State} {words : List Word} {stack : StackValue} {holdings : List Holding} {spent : FuelState} {output : List ℕ} {goal : Goal} {ties : Option Tie × Option Tie} → Shown names st words stack holdings spent output goal ties
      → (fixed : List ℕ) (x : List ℕ) (cell : ℕ) (n : ℤ) (c : IsCell code act names fixed x cell) → S.may cell → S.lowest ≤ length names → InRange n → Shown names (record st { vars = assign st.vars x n }) words (with_word stack (pos (z + cell)) (Int n)) holdings spent output goal ties
  shows_assigned {names} {st} {stack = stack} h fixed x cell n c may lowest fits =
      let from : stack.base ≤ z + cell = omega (arith, h.low) in
      let inside : z + cell < stack.base + length stack.cells = omega (arith, h.room, c.at_level, c.below) in
      let same : word_at (with_word stack (pos (z + cell)) (Int n)) (pos (z + cell)) ≡ Some (Int n) = word_same stack (z + cell) (Int n) from inside in
      record {
        size = h.size;
        base = h.base;
        limit = h.limit;
        limited = h.limited;
        tall = h.tall;
        ticks = h.ticks;
        within = h.within;
        begun = h.begun;
        printed = h.printed;
        ends = h.ends;
        free = h.free;
        unmet = h.unmet;
        marked = h.marked;
        named = names_assign st.vars x n ∙ h.named;
        few = h.few;
        tabled = h.tabled;
        held = h.held;
        can = h.can;
        ranged = h.ranged;
        levels = word_other stack (z + cell) (z + levels_cell) (Int n) from (λ (q : z + levels_cell ≡ z + cell). absurd (omega (arith, q, c.at_level))) ∙ h.levels;
        unmarked = h.unmarked;
        top = omega (arith, h.top, words_as_many stack (z + cell) (Int n));
        low = h.low;
        room = omega (arith, h.room, words_as_many stack (z + cell) (Int n));
        vars = held_assign stack (with_word stack (pos (z + cell)) (Int n)) z c.scope.cells.items 0 st.vars x n c.sees.laid (c.sees.named ∙ sym h.named) c.inside fits (ap (λ k. word_at (with_word stack (pos (z + cell)) (Int n)) (pos (z + k))) (sym c.is) ∙ same)
            (λ a ne. word_other stack (z + cell) a (Int n) from (λ (q : a ≡ z + cell). ne (q ∙ ap (λ k. z + k) c.is))) h.vars;
        keeps = S.stable i (length names) stack (with_word stack (pos (z + cell)) (Int n)) lowest (record {
          base = refl;
          at = λ a lt others. word_other stack (z + cell) a (Int n) from (λ (q : a ≡ z + cell). others cell may q);
        }) h.keeps;
      }

  -- one tick more
  pub shows_ticked : {names : List (List ℕ)} {st : meaning.State} {words : List Word} {stack : StackValue} {holdings : List Holding} {spent : FuelState} {output : List ℕ} {goal : Goal} {ties : Option Tie × Option Tie} → Shown names st words stack holdings spent output goal ties
      → st.ticks < fuel → Shown names (record st { ticks = ticked fuel st.ticks }) words stack holdings (record spent { ticks = ticked spent.limit spent.ticks }) output goal ties
  shows_ticked {names} {st} {stack = stack} {spent} h below =
      let test : is_tick_allowed fuel st.ticks ≡ true = grind (arith, nat_tests) in
      let next : ticked fuel st.ticks ≡ st.ticks + 1 = rw test refl in
      record {
        size = h.size;
        base = h.base;
        limit = h.limit;
        limited = h.limited;
        tall = h.tall;
        ticks = rw (h.limit, h.ticks) refl;
        within = omega (arith, next);
        begun = omega (arith, next, h.begun);
        printed = h.printed;
        ends = h.ends;
        free = h.free;
        unmet = h.unmet;
        marked = h.marked;
        named = h.named;
        few = h.few;
        tabled = h.tabled;
        held = h.held;
        can = h.can;
        ranged = h.ranged;
        levels = h.levels;
        unmarked = h.unmarked;
        top = h.top;
        low = h.low;
        room = h.room;
        vars = h.vars;
        keeps = h.keeps;
      }

  -- more output
  pub shows_output : {names : List (List ℕ)} {st : meaning.State} {words : List Word} {stack : StackValue} {holdings : List Holding} {spent : FuelState} {output : List ℕ} {goal : Goal} {ties : Option Tie × Option Tie} → Shown names st words stack holdings spent output goal ties
      → (text : List ℕ) → Shown names (record st { output = st.output ++ text }) words stack holdings spent (output ++ text) goal ties
  shows_output {output = output} h text = record {
    size = h.size;
    base = h.base;
    limit = h.limit;
    limited = h.limited;
    tall = h.tall;
    ticks = h.ticks;
    within = h.within;
    begun = h.begun;
    printed = ap (λ bs. bs ++ text) h.printed ∙ append_assoc (S.before i) output text;
    ends = h.ends;
    free = h.free;
    unmet = h.unmet;
    marked = h.marked;
    named = h.named;
    few = h.few;
    tabled = h.tabled;
    held = h.held;
    can = h.can;
    ranged = h.ranged;
    levels = h.levels;
    unmarked = h.unmarked;
    top = h.top;
    low = h.low;
    room = h.room;
    vars = h.vars;
    keeps = h.keeps;
  }

  -- other tables of these names
  pub shows_tables : {names : List (List ℕ)} {st : meaning.State} {words : List Word} {stack : StackValue} {holdings : List Holding} {spent : FuelState} {output : List ℕ} {goal : Goal} {ties : Option Tie × Option Tie} → Shown names st words stack holdings spent output goal ties
      → (ts : List Table) (hs : List Holding) → table_names ts ≡ table_names st.tables → AreShown (S.region i) hs ts → S.can i ts → All TableInRange ts → Shown names (record st { tables = ts }) words stack hs spent output goal ties
  shows_tables h ts hs named held can ranged = record {
    size = h.size;
    base = h.base;
    limit = h.limit;
    limited = h.limited;
    tall = h.tall;
    ticks = h.ticks;
    within = h.within;
    begun = h.begun;
    printed = h.printed;
    ends = h.ends;
    free = h.free;
    unmet = h.unmet;
    marked = h.marked;
    named = h.named;
    few = h.few;
    tabled = named ∙ h.tabled;
    held = held;
    can = can;
    ranged = ranged;
    levels = h.levels;
    unmarked = h.unmarked;
    top = h.top;
    low = h.low;
    room = h.room;
    vars = h.vars;
    keeps = h.keeps;
  }

  -- the first variables alone
  pub shows_left : {names : List (List ℕ)} {st : meaning.State} {words : List Word} {stack : StackValue} {holdings : List Holding} {spent : FuelState} {output : List ℕ} {goal : Goal} {ties : Option Tie × Option Tie} → Shown names st words stack holdings spent output goal ties
      → (n : ℕ) (fewer : List (List ℕ)) → take n names ≡ fewer → Shown fewer (left n st) words stack holdings spent output goal ties
  shows_left {names} {st} {stack = stack} h n fewer is = record {
    size = h.size;
    base = h.base;
    limit = h.limit;
    limited = h.limited;
    tall = h.tall;
    ticks = h.ticks;
    within = h.within;
    begun = h.begun;
    printed = h.printed;
    ends = h.ends;
    free = h.free;
    unmet = h.unmet;
    marked = h.marked;
    named = names_take n st.vars ∙ ap (λ ns. take n ns) h.named ∙ is;
    few = omega (arith, ap length is, length-take n names, h.few);
    tabled = h.tabled;
    held = h.held;
    can = h.can;
    ranged = h.ranged;
    levels = h.levels;
    unmarked = h.unmarked;
    top = h.top;
    low = h.low;
    room = h.room;
    vars = held_take stack z 0 n st.vars h.vars;
    keeps = h.keeps;
  }
