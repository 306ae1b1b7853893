-- The code of expressions and operands inside a scene.
use Rattle.std.proofs.Common.{◌≡◌, ℕ, ◌+◌, ◌≤◌, List, [], ◌++◌, Option, None, Some, refl, sym, ap}
use Rattle.std.proofs.Common.{subst, ◌∙◌, arith}
use Rattle.std.specs.Prelude.{ℤ, pos}
use Rattle.std.specs.List.{AllByRecursion}
use Rattle.beat_count.specs.BeatState.{BeatState}
use Rattle.tp_value.specs.declared.Table.{Table}
use Rattle.tp_value.specs.declared.Stop.TheVariants.{Trap}
use Rattle.loop_syntax.specs.declared.Expr.{Expr}
use Rattle.loop_syntax.specs.declared.Expr.TheVariants.{Int, Var, Cell', Rows, Cols, Neg', Bin'}
use Rattle.loop_rules.specs.Limits.{height}
use Rattle.loop_meaning.specs.declared.value.Answer.{Answer}
use Rattle.loop_meaning.specs.declared.value.Answer.TheVariants.{Number, Traps}
use Rattle.loop_meaning.specs.declared.value.Variable.{Variable}
use Rattle.loop_meaning.specs.Expressions.{eval}
use Rattle.loop_meaning.specs.InRange.{ExprInRange, InRange, StateInRange}
use Rattle.loop_meaning.specs.State as meaning
use Rattle.loop_meaning.specs.State.{Note, Ran, lookup, table_of}
use Rattle.loop_meaning.specs.Statements.{given, given_answer}
use Rattle.loop_meaning.proofs.Ranges.{value_in}
use Rattle.stack_marks.specs.Stacks.{StackValue, word_at}
use Rattle.tpal_syntax.specs.declared.instructions.Instr.{Instr}
use Rattle.tpal_syntax.specs.declared.instructions.Term.{Term}
use Rattle.tpal_syntax.specs.declared.instructions.Value as operands
use Rattle.tpal_syntax.specs.declared.words.Word.{Word}
use Rattle.tpal_syntax.specs.declared.words.Word.TheVariants as word
use Rattle.tpal_syntax.specs.Listing.{Listing}
use Rattle.tpal_machine.specs.Reading.{register, operand, table_at}
use Rattle.tpal_machine.specs.State as machine
use Rattle.tpal_machine.specs.Step.{advanced}
use Rattle.tpal_machine.proofs.Kit.{Back}
use Rattle.expr_lower.specs.declared.scope.Scope.{Scope}
use Rattle.expr_lower.specs.Bodies.{body_of, traps_of, literal}
use Rattle.expr_lower.specs.Holding.{Holds, HasNumber, IsHeld}
use Rattle.expr_lower.specs.Leaving.{Keeps, moved, moved_to}
use Rattle.expr_lower.specs.Scopes.{IsIn, HasTable, offset_of}
use Rattle.expr_lower.specs.Scopes.{table_number}
use Rattle.expr_lower.specs.Standing.{Remains, AreAt}
use Rattle.expr_lower.proofs.Evaluating.{Evaluates}
use Rattle.expr_lower.proofs.Standing.{regrouped}
use Rattle.scene_laws.specs.Layout.{Activation}
use Rattle.handler_gen.specs.LeafCuts.{HaveRegisters, with_registers}
use Rattle.handler_gen.proofs.LeafStores.{have_stored, registers_other}
use Rattle.scene_laws.specs.Code.{Stand, Computes, Operand, number, standing, computed}
use Rattle.scene_laws.specs.Code.{variable_of}
use Rattle.scene_laws.specs.Names.{Sees}
use Rattle.scene_laws.specs.Round.{register_for}
use Rattle.scene_laws.proofs.Scenes.Registered.{as_many_shown, base_shown, cells_differ}
use Rattle.scene_laws.proofs.Scenes.Registered.{high_for, none_stands, shown_in}
use Rattle.scene_laws.proofs.Scenes.Moves.{traps}
use Rattle.scene_laws.proofs.Scenes.Regions.{Covers, HasSize, IsShown, all_front, held_reads}
use Rattle.scene_laws.proofs.Scenes.Regions.{quiet_reads, shown_at, size_shown}
use Rattle.scene_laws.proofs.Scenes.Results.{Result, noting, noting_then, out, out_noting, result}
use Rattle.scene_laws.proofs.Scenes.Results.{then}
use Rattle.scene_laws.proofs.Scenes.Scene.{Scene, ShowsIn, SeenIn, seen_bare}
use Rattle.scene_laws.proofs.Scenes.Tables.{IsRead, are_read}
use Rattle.scene_laws.proofs.Scenes.Variables.{held_in_range, held_lookup}

-- the law of the code of expressions
abbrev pub ExprLaw : Listing → ℕ → Type 1
ExprLaw code heartbeat =
    (K : Back code heartbeat) (scope : Scope) (vars : List Variable) (tables : List Table) (e : Expr) (label r : ℕ) → IsIn scope e → r + height e ≤ 24 → AreAt code label (traps_of label e)
    → Evaluates code heartbeat K scope vars tables (body_of scope label e r) r (eval vars tables e).answer (eval vars tables e).notes

-- a literal is its number
pub literal_value : (vs : List Variable) (ts : List Table) (e : Expr) (n : ℤ) → literal e ≡ Some n → eval vs ts e ≡ record { answer = Number n; notes = [] }
literal_value vs ts (Int m place) n is = let same : m ≡ n = cc in ap (λ (k : ℤ). record { answer = Number k; notes = [] }) same
literal_value vs ts (Var x) n is = cc
literal_value vs ts (Cell' t p a q b) n is = cc
literal_value vs ts (Rows t) n is = cc
literal_value vs ts (Cols t) n is = cc
literal_value vs ts (Neg' p a place) n is = cc
literal_value vs ts (Bin' o place p a q b) n is = cc

-- a variable is its number
variable_value : (vs : List Variable) (ts : List Table) (e : Expr) (x : List ℕ)
    → variable_of e ≡ Some x → eval vs ts e ≡ record { answer = Number (lookup vs x); notes = [] }
variable_value vs ts (Int m place) x is = cc
variable_value vs ts (Var y) x is = let same : y.text.items ≡ x =
    cc in ap (λ (w : List ℕ). record { answer = Number (lookup vs w); notes = [] }) same
variable_value vs ts (Cell' t p a q b) x is = cc
variable_value vs ts (Rows t) x is = cc
variable_value vs ts (Cols t) x is = cc
variable_value vs ts (Neg' p a place) x is = cc
variable_value vs ts (Bin' o place p a q b) x is = cc

-- a variable has no literals that would have to be in range
pub variable_ranged : (e : Expr) (x : List ℕ) → variable_of e ≡ Some x → ExprInRange e
variable_ranged (Int m place) x is = absurd (cc)
variable_ranged (Var y) x is = tt
variable_ranged (Cell' t p a q b) x is = absurd (cc)
variable_ranged (Rows t) x is = tt
variable_ranged (Cols t) x is = tt
variable_ranged (Neg' p a place) x is = absurd (cc)
variable_ranged (Bin' o place p a q b) x is = absurd (cc)

module _ (code : Listing) (heartbeat z : ℕ) (act : Activation) (fuel : ℕ)
    (S : Scene code heartbeat z) (i : S.World) (names : List (List ℕ)) (st : meaning.State)
    (state : machine.State) (shows : SeenIn code heartbeat z act fuel S i names st state) where
  -- the cells of the table of a name that are in the region are held
  pub shown : (scope : Scope) → Sees scope names act.tables → (t : List ℕ) → HasTable scope t → IsShown (S.region i t) (table_at state.tables (table_number scope t)) (table_of st.tables t)
  shown scope sees t has = shown_at (S.region i) state.tables st.tables scope.tables.items t shows.held (sees.listed ∙ sym shows.tabled) has

  sized : (scope : Scope) → Sees scope names act.tables → (t : List ℕ) → HasTable scope t → HasSize (table_at state.tables (table_number scope t)) (table_of st.tables t)
  sized scope sees t has = size_shown (S.region i t) (table_at state.tables (table_number scope t)) (table_of st.tables t) (shown scope sees t has)

  abbrev shown_stack : StackValue
  shown_stack = with_registers S.registers z state.registers state.stack

  from : state.stack.base ≤ z
  from = omega (arith, shows.low, base_shown S.registers z state.registers state.stack)

  -- the cells for which registers stand show their words
  have : HaveRegisters S.registers z state.registers shown_stack
  have =
      have_stored S.registers state.registers state.stack z S.size
      (record {
        low = from;
        high = omega (
          arith,
          shows.top,
          shows.tall,
          base_shown S.registers z
              state.registers state.stack,
          as_many_shown S.registers z state.registers state.stack,
        );
      })
      S.sized
      (cells_differ S.registers S.unlike)

  -- the number that a cell shows is in its register, or in the cell itself
  pub number_in : (home : Option ℕ) (cell : ℕ) (n : ℤ) → register_for S.registers cell ≡ home
      → word_at shown_stack (pos (z + cell)) ≡ Some (word.Int n)
      → HasNumber state (pos z) home cell n
  number_in None cell n none is =
      sym (registers_other S.registers state.registers state.stack z cell from
      (none_stands S.registers cell none)) ∙ is
  number_in (Some held) cell n stands is =
      let high : (24 ≤ held) × (held ≤ 29) = high_for S.registers cell held S.high stands in
      let there : word_at shown_stack (pos (z + cell)) ≡ Some (register state.registers held) =
      shown_in S.registers z cell held state.registers shown_stack stands have in
      let same : Some (register state.registers held) ≡ Some (word.Int n) = sym there ∙ is in
      let number : register state.registers held ≡ word.Int n = cc in
      (high.0, high.1, number)

  -- a task holds what stands in a scope, with those cells that are held
  pub holds_with : (scope : Scope) → Sees scope names act.tables → Stand scope S.registers
      → (notes : List Note) → AllByRecursion (IsHeld scope st.tables state) notes
      → Holds scope st.vars st.tables notes state
  holds_with scope sees kept notes cells = record {
    registers = shows.size;
    base = pos z;
    is_base = shows.base;
    variables = λ x has.
        let k = kept x has in
        let shown : word_at shown_stack (pos (z + offset_of scope x)) ≡ Some
        (word.Int (lookup st.vars x)) =
        held_lookup shown_stack z scope.cells.items 0 st.vars x sees.laid
        (sees.named ∙ sym shows.named) k.0 shows.vars in
        subst (λ (home : Option ℕ). HasNumber state (pos z) home (offset_of scope x)
        (lookup st.vars x)) (sym k.1) (number_in (register_for S.registers (offset_of scope x))
        (offset_of scope x) (lookup st.vars x) refl shown);
    rows = λ t has. (sized scope sees t has).rows;
    cols = λ t has. (sized scope sees t has).cols;
    cells = cells;
  }

  holds : (scope : Scope) → Sees scope names act.tables → Stand scope S.registers → (e : Expr)
      → IsIn scope e → AllByRecursion (Covers (S.region i)) (eval st.vars st.tables e).notes
      → Holds scope st.vars st.tables (eval st.vars st.tables e).notes state
  holds scope sees kept e inside covered =
      holds_with scope sees kept (eval st.vars st.tables e).notes
      (held_reads scope st.tables (S.region i) state shows.held (sees.listed ∙ sym shows.tabled) (eval st.vars st.tables e).notes (are_read scope st.vars st.tables e inside) covered)

  -- the numbers of the state are in range
  pub in_range : StateInRange st
  in_range = record {
    vars = held_in_range shown_stack z 0 st.vars shows.vars;
    tables = shows.ranged;
  }

module _ (code : Listing) (heartbeat z : ℕ) (act : Activation) (fuel : ℕ)
    (expr_law : ExprLaw code heartbeat) (S : Scene code heartbeat z) (i : S.World)
    (names : List (List ℕ)) (st : meaning.State) (state : machine.State)
    (shows : SeenIn code heartbeat z act fuel S i names st state) where
  -- an expression's code, behind which a task owes what is given for its number, owes what is given for its
  -- answer
  pub computes : (e : Expr) (r : ℕ) (instrs more : List Instr) (end : Term)
      (c : Computes code act S.registers names e r instrs more)
      → Remains code state.block state.at instrs end
      → (f : ℤ → Ran) (k : meaning.State → Result)
      → ((n : ℤ) → InRange n → (words : List Word) (beat : BeatState) (at : ℕ) → Keeps r state words beat → register words r ≡ word.Int n → Remains code state.block at more end → (S.owing i (then (result (f n)) k)).Holds (moved state words beat at))
      → (S.owing i (then (result (given e st f)) k)).Holds state
  computes e r instrs more end c stands f k go = by_answer (eval st.vars st.tables e).answer refl
    where
      notes : List Note
      notes = (eval st.vars st.tables e).notes

      read : AllByRecursion (IsRead c.scope st.tables) notes
      read = are_read c.scope st.vars st.tables e c.inside

      stands_so : Remains code state.block state.at (body_of c.scope c.first e r ++ more) end
      stands_so = regrouped code state.block state.at instrs (body_of c.scope c.first e r ++ more) end c.body stands

      -- what is read is held, and needn't be told
      reads : (q : Result) → (Holds c.scope st.vars st.tables notes state → (S.owing i q).Holds state) → (S.owing i (noting notes q)).Holds state
      reads q go_on = S.touches i notes q state (quiet_reads c.scope st.tables notes read) (λ given.
          go_on (holds code heartbeat z act fuel S i names st state shows c.scope c.sees c.kept e
          c.inside (all_front (Covers (S.region i)) notes q.notes
          (S.covers i (noting notes q) given))))

      by_answer : (a : Answer) → (eval st.vars st.tables e).answer ≡ a → (S.owing i (then (result (given_answer a notes st f)) k)).Holds state
      by_answer (Number n) is =
          let q : Result = then (result (f n)) k in
          subst (λ (p : Result). (S.owing i p).Holds state) (sym (noting_then notes (result (f n)) k))
          (reads q (λ held.
          subst (λ (a : Answer). Evaluates code heartbeat (S.owing i q) c.scope st.vars st.tables (body_of c.scope c.first e r) r a notes) is
          (expr_law (S.owing i q) c.scope st.vars st.tables e c.first r c.inside c.low c.traps)
          state more end stands_so held (go n (value_in st (in_range code heartbeat z act fuel S i names st state shows) e c.ranged n is))))
      by_answer (Traps kind place) is =
          let q : Result = out (Trap kind place) st in
          subst (λ (p : Result). (S.owing i p).Holds state) (out_noting notes (Trap kind place) st)
          (reads q (λ held.
          subst (λ (a : Answer). Evaluates code heartbeat (S.owing i q) c.scope st.vars st.tables (body_of c.scope c.first e r) r a notes) is
          (expr_law (S.owing i q) c.scope st.vars st.tables e c.first r c.inside c.low c.traps)
          state more end stands_so held
          (λ words beat label keeps next. S.stops i (Trap kind place) st (moved_to state words beat label 0) (advanced (moved_to state words beat label 0)) tt shows.ticks shows.printed shows.ends
          (traps code heartbeat (moved_to state words beat label 0) kind place next shows.free))))

  -- the same of an operand
  pub operand_is : (e : Expr) (r : ℕ) (v : operands.Value) (instrs more : List Instr) (end : Term)
      → Operand code act S.registers names e r v instrs more
      → Remains code state.block state.at instrs end
      → (f : ℤ → Ran) (k : meaning.State → Result)
      → ((n : ℤ) → InRange n → (words : List Word) (beat : BeatState) (at : ℕ) → Keeps r state words beat → operand words v ≡ word.Int n → Remains code state.block at more end → (S.owing i (then (result (f n)) k)).Holds (moved state words beat at))
      → (S.owing i (then (result (given e st f)) k)).Holds state
  operand_is e r _ _ more end (number {n} is fits) stands f k go =
      rw (literal_value st.vars st.tables e n is) (go n fits state.registers state.beat state.at (record { size = refl; below = λ q h. refl; above = λ q h. refl; quiet = refl; granted = refl }) refl stands)
  operand_is e r _ _ more end (standing {x} {cell} {held} is_x c is_held) stands f k go =
      let shown : word_at (with_registers S.registers z state.registers state.stack)
      (pos (z + cell)) ≡ Some (word.Int (lookup st.vars x)) =
      ap (λ (a : ℕ). word_at (with_registers S.registers z state.registers state.stack)
      (pos (z + a))) c.is ∙ held_lookup (with_registers S.registers z state.registers state.stack) z
      c.scope.cells.items 0 st.vars x c.sees.laid (c.sees.named ∙ sym shows.named) c.inside
      shows.vars in
      let number = number_in code heartbeat z act fuel S i names st state shows (Some held) cell
      (lookup st.vars x) is_held shown in
      let fits : InRange (lookup st.vars x) =
      value_in st (in_range code heartbeat z act fuel S i names st state shows) e
      (variable_ranged e x is_x) (lookup st.vars x)
      (ap (λ v. v.answer) (variable_value st.vars st.tables e x is_x)) in
      rw (variable_value st.vars st.tables e x is_x)
      (go (lookup st.vars x) fits state.registers state.beat state.at
      (record {
        size = refl;
        below = λ q h. refl;
        above = λ q h. refl;
        quiet = refl;
        granted =
            refl;
      }) number.2 stands)
  operand_is e r _ instrs more end (computed c) stands f k go = computes e r instrs more end c stands f k go

-- the same in a scene in which no register stands for a cell
module _ (code : Listing) (heartbeat z : ℕ) (act : Activation) (fuel : ℕ)
    (expr_law : ExprLaw code heartbeat) (S : Scene code heartbeat z) (bare : S.registers ≡ [])
    (i : S.World) (names : List (List ℕ)) (st : meaning.State) (state : machine.State)
    (shows : ShowsIn code heartbeat z act fuel S i names st state) where
  pub computes_bare : (e : Expr) (r : ℕ) (instrs more : List Instr) (end : Term)
      → Computes code act [] names e r instrs more
      → Remains code state.block state.at instrs end → (f : ℤ → Ran) (k : meaning.State → Result)
      → ((n : ℤ) → InRange n → (words : List Word) (beat : BeatState) (at : ℕ)
      → Keeps r state words beat → register words r ≡ word.Int n
      → Remains code state.block at more end
      → (S.owing i (then (result (f n)) k)).Holds (moved state words beat at))
      → (S.owing i (then (result (given e st f)) k)).Holds state
  computes_bare e r instrs more end c stands f k go =
      computes code heartbeat z act fuel expr_law S i names st state
      (seen_bare code heartbeat z act fuel S i names st state bare shows) e r instrs more end
      (subst (λ (ps : List (ℕ × ℕ)). Computes code act ps names e r instrs more) (sym bare) c)
      stands f
      k go

  pub operand_is_bare : (e : Expr) (r : ℕ) (v : operands.Value) (instrs more : List Instr)
      (end : Term) → Operand code act [] names e r v instrs more
      → Remains code state.block state.at instrs end → (f : ℤ → Ran) (k : meaning.State → Result)
      → ((n : ℤ) → InRange n → (words : List Word) (beat : BeatState) (at : ℕ)
      → Keeps r state words beat → operand words v ≡ word.Int n
      → Remains code state.block at more end
      → (S.owing i (then (result (f n)) k)).Holds (moved state words beat at))
      → (S.owing i (then (result (given e st f)) k)).Holds state
  operand_is_bare e r v instrs more end c stands f k go =
      operand_is code heartbeat z act fuel expr_law S i names st state
      (seen_bare code heartbeat z act fuel S i names st state bare shows) e r v instrs more end
      (subst (λ (ps : List (ℕ × ℕ)). Operand code act ps names e r v instrs more) (sym bare) c)
      stands f
      k go
