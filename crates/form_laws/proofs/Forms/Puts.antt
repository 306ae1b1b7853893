-- The laws of a write to a cell of a table.
use Rattle.std.proofs.Common.{◌≡◌, ℕ, ◌+◌, ◌<◌, ◌≤◌, true, false, List, [], ◌∷◌, ◌++◌, length, Some}
use Rattle.std.proofs.Common.{inl, refl, sym, subst, ◌∙◌, arith}
use Rattle.std.specs.Prelude.{ℤ, pos, slice_set}
use Rattle.std.proofs.lemmas.List.{length-set}
use Rattle.slices.specs.Holding.{Holding}
use Rattle.slices.specs.Holding as held
use Rattle.stack_marks.specs.Stacks.{word_at, with_word}
use Rattle.tp_value.specs.declared.Stop.TheVariants.{Trap}
use Rattle.tp_value.specs.declared.TrapKind.TheVariants.{Index}
use Rattle.loop_syntax.specs.declared.Name.{Name}
use Rattle.loop_syntax.specs.declared.Expr.{Expr}
use Rattle.loop_syntax.specs.declared.Stmt.TheVariants.{Put}
use Rattle.loop_meaning.specs.InRange.{InRange}
use Rattle.loop_meaning.specs.State as meaning
use Rattle.loop_meaning.specs.State.{Ran, Writes, done, noted, trapped, table_of, has_cell, cell_of}
use Rattle.loop_meaning.specs.State.{write_cell}
use Rattle.loop_meaning.specs.Statements.{Setting, given, put_cell, run}
use Rattle.tpal_syntax.specs.declared.instructions.Instr.{Instr}
use Rattle.tpal_syntax.specs.declared.instructions.Instr.TheVariants as instr
use Rattle.tpal_syntax.specs.declared.instructions.Term.{Term}
use Rattle.tpal_syntax.specs.declared.instructions.Value.TheVariants as value
use Rattle.tpal_syntax.specs.declared.words.Word.{Word}
use Rattle.tpal_syntax.specs.declared.words.Word.TheVariants as word
use Rattle.tpal_syntax.specs.Listing.{Listing}
use Rattle.tpal_machine.specs.Effect as effect
use Rattle.tpal_machine.specs.Reading.{register, table_at, with_register}
use Rattle.tpal_machine.specs.State as machine
use Rattle.tpal_machine.specs.Step.{advanced}
use Rattle.tpal_machine.proofs.Kit.{Back, on_load}
use Rattle.expr_lower.specs.Bodies.{trap_block, range_tests}
use Rattle.expr_lower.specs.Leaving.{moved, moved_to}
use Rattle.expr_lower.specs.Scopes.{table_number}
use Rattle.expr_lower.specs.Standing.{Remains, AreAt}
use Rattle.expr_lower.proofs.CellReads.{range_law, Trapped, Passed}
use Rattle.expr_lower.proofs.Keeping.{register_set, register_other}
use Rattle.expr_lower.proofs.Standing.{next, behind}
use Rattle.handler_gen.proofs.Words.{word_same, word_other}
use Rattle.scene_laws.specs.Code as code_of
use Rattle.scene_laws.specs.Code.{Computes, IsTable, put_tested, store, load}
use Rattle.scene_laws.specs.Layout.{kept_cell, value_cell, Activation}
use Rattle.scene_laws.proofs.Scenes.Cells.{write_shown, names_write, write_in_range}
use Rattle.scene_laws.proofs.Scenes.Moves.{traps}
use Rattle.scene_laws.proofs.Scenes.Regions.{HasCell, cell_shown}
use Rattle.scene_laws.proofs.Scenes.Registered.{above_apart}
use Rattle.scene_laws.proofs.Scenes.Results.{Result, noting, result, then}
use Rattle.scene_laws.proofs.Scenes.Scene.{Scene, SeenIn, OwedSeen}
use Rattle.scene_laws.proofs.Scenes.Showing.{shows_low, shows_new, shows_stored, shows_tables}
use Rattle.form_laws.proofs.Forms.Simple.{low_there, stores_in, still_seen, top_there}
use Rattle.form_laws.proofs.Forms.TableSteps.{on_put}
use Rattle.scene_laws.proofs.Scenes.Values.{ExprLaw, computes, shown, holds_with}

-- ---- a cell set, by the tests

put_out : (t : Name) (i j n : ℤ) (st : meaning.State) → has_cell (table_of st.tables t.text.items) i j ≡ false → put_cell t i j n st ≡ trapped Index t.place st
put_out t i j n st is_not = rw (is_not, put_cell) refl

-- the state with a cell set
abbrev put_state : Name → ℤ → ℤ → ℤ → meaning.State → meaning.State
put_state t i j n st = record st { tables = write_cell st.tables t.text.items i j n }

put_in : (t : Name) (i j n : ℤ) (st : meaning.State) → has_cell (table_of st.tables t.text.items) i j ≡ true → put_cell t i j n st ≡ noted (Writes t.text.items i j ∷ []) (done (put_state t i j n st))
put_in t i j n st is_so = rw (is_so, put_cell) refl

module _ (code : Listing) (heartbeat z : ℕ) (act : Activation) (fuel : ℕ) (S : Scene code heartbeat z) (names : List (List ℕ)) (k : meaning.State → Result) where
  -- where the row, the column and the number are in registers, a task sets the cell or traps
  puts : (t : Name) (table trap row col number test : ℕ) (more : List Instr) (end : Term)
      → IsTable code act S.registers names t.text.items table
      → AreAt code trap (trap_block trap Index t.place ∷ [])
      → row < test → col < test → number < test → test < 24
      → OwedSeen code heartbeat z act fuel S names more end k
      → (i : S.World) (st : meaning.State) (state : machine.State)
      → SeenIn code heartbeat z act fuel S i names st state → (a b n : ℤ) → InRange n
      → register state.registers row ≡ word.Int a → register state.registers col ≡ word.Int b → register state.registers number ≡ word.Int n
      → Remains code state.block state.at (put_tested table row col number test trap more) end → (S.owing i (then (result (put_cell t a b n st)) k)).Holds state
  puts t table trap row col number test more end is found row_low col_low number_low low post i st state shows a b n in_n row_in col_in number_in stands =
      range_law code heartbeat K is.scope st.vars st.tables t is.inside trap found.0 state (instr.Put at_number row col number ∷ more) end row col test a b [] (inl row_low) (inl col_low) low row_in col_in
      (holds_with code heartbeat z act fuel S i names st state shows is.scope is.sees is.kept [] tt)
      (subst (λ (m : ℕ). Remains code state.block state.at (range_tests at_number row col test trap ++ instr.Put m row col number ∷ more) end) is.is
      (subst (λ (m : ℕ). Remains code state.block state.at (range_tests m row col test trap ++ instr.Put table row col number ∷ more) end) is.is stands))
      out_of_range in_range
    where
      at_number : ℕ
      at_number = table_number is.scope t.text.items

      K : Back code heartbeat
      K = S.owing i (then (result (put_cell t a b n st)) k)

      out_of_range : has_cell (table_of st.tables t.text.items) a b ≡ false → Trapped code heartbeat K test state trap t.place
      out_of_range is_not words beat keeps at =
          subst (λ (r : Ran). (S.owing i (then (result r) k)).Holds (moved_to state words beat trap 0)) (sym (put_out t a b n st is_not))
          (S.stops i (Trap Index t.place) st (moved_to state words beat trap 0) (advanced (moved_to state words beat trap 0)) tt shows.ticks shows.printed shows.ends
          (traps code heartbeat (moved_to state words beat trap 0) Index t.place at shows.free))

      in_range : has_cell (table_of st.tables t.text.items) a b ≡ true → Passed code heartbeat K test state (instr.Put at_number row col number ∷ more) end
      in_range is_so words beat at keeps left =
          let task : machine.State = moved state words beat at in
          let shows_task : SeenIn code heartbeat z act fuel S i names st task =
          still_seen code heartbeat z act fuel S i names st state test words beat at shows keeps in
          subst (λ (r : Ran). (S.owing i (then (result r) k)).Holds task) (sym (put_in t a b n st is_so))
          (S.touches i (Writes t.text.items a b ∷ []) (k (put_state t a b n st)) task (tt, tt) (λ given_it.
          let covered : HasCell (S.region i t.text.items) a b = (S.covers i (noting (Writes t.text.items a b ∷ []) (k (put_state t a b n st))) given_it).0 in
          on_put code heartbeat (S.owing i (k (put_state t a b n st))) task at_number row col number a b n _ (next code task _ more end left)
          (keeps.below row row_low ∙ row_in) (keeps.below col col_low ∙ col_in) (keeps.below number number_low ∙ number_in)
          (cell_shown (S.region i t.text.items) (table_at state.tables at_number) (table_of st.tables t.text.items) a b (shown code heartbeat z act fuel S i names st state shows is.scope is.sees t.text.items is.inside) is_so covered)
          (post i (put_state t a b n st) (effect.with_table (advanced task) at_number (held.with_cell (table_at state.tables at_number) a b n))
          (shows_tables code heartbeat z act fuel S i shows_task (write_cell st.tables t.text.items a b n) (slice_set state.tables at_number (held.with_cell (table_at state.tables at_number) a b n))
          (names_write st.tables t.text.items a b n)
          (write_shown (S.region i) state.tables st.tables is.scope.tables.items t.text.items a b n shows.held (is.sees.listed ∙ sym shows.tabled) is.inside is_so covered)
          (S.allows i t.text.items a b n st.tables (k (put_state t a b n st)) is_so given_it shows.can)
          (write_in_range st.tables t.text.items a b n in_n shows.ranged))
          (behind code state.block at _ more end left))))

module _ (code : Listing) (heartbeat z : ℕ) (act : Activation) (set : Setting) (expr_law : ExprLaw code heartbeat) (S : Scene code heartbeat z) (names : List (List ℕ)) (lowest : S.lowest ≤ length names) (k : meaning.State → Result) where
  pub put_law : (t : Name) (a b e : Expr) (table trap : ℕ) (instrs second third more : List Instr)
      (end : Term) → IsTable code act S.registers names t.text.items table
      → Computes code act S.registers names a 0 instrs second
      → Computes code act S.registers names b 1 second third
      → Computes code act S.registers names e 2 third (put_tested table 0 1 2 3 trap more)
      → AreAt code trap (trap_block trap Index t.place ∷ [])
      → OwedSeen code heartbeat z act set.fuel S names more end k
      → OwedSeen code heartbeat z act set.fuel S names instrs end
      (λ st. then (result (run set (Put t a b e) st)) k)
  put_law t a b e table trap instrs second third more end is c d f found post i st state shows stands =
      computes code heartbeat z act set.fuel expr_law S i names st state shows a 0 instrs second end c stands (λ m. given b st (λ j. given e st (λ n. put_cell t m j n st))) k
      (λ m in_m words beat at keeps is_m left.
      let one : machine.State = moved state words beat at in
      let shows_one : SeenIn code heartbeat z act set.fuel S i names st one =
      still_seen code heartbeat z act set.fuel S i names st state 0 words beat at shows keeps in
      computes code heartbeat z act set.fuel expr_law S i names st one shows_one b 1 second third end d left (λ j. given e st (λ n. put_cell t m j n st)) k
      (λ j in_j words2 beat2 at2 keeps2 is_j left2.
      let two : machine.State = moved one words2 beat2 at2 in
      let shows_two : SeenIn code heartbeat z act set.fuel S i names st two =
      still_seen code heartbeat z act set.fuel S i names st one 1 words2 beat2 at2 shows_one keeps2
      in
      computes code heartbeat z act set.fuel expr_law S i names st two shows_two e 2 third (put_tested table 0 1 2 3 trap more) end f left2 (λ n. put_cell t m j n st) k
      (λ n in_n words3 beat3 at3 keeps3 is_n left3.
      let three : machine.State = moved two words3 beat3 at3 in
      let shows_three : SeenIn code heartbeat z act set.fuel S i names st three =
      still_seen code heartbeat z act set.fuel S i names st two 2 words3 beat3 at3 shows_two keeps3
      in
      puts code heartbeat z act set.fuel S names k t table trap 0 1 2 3 more end is found (omega arith) (omega arith) (omega arith) (omega arith) post i st three shows_three m j n in_n
      (keeps3.below 0 (omega arith) ∙ (keeps2.below 0 (omega arith) ∙ is_m)) (keeps3.below 1 (omega arith) ∙ is_j) is_n left3)))

  -- the row and the column are kept in two cells, and taken back behind the number
  pub put_kept_law : (t : Name) (a b e : Expr) (table trap : ℕ)
      (instrs second third more : List Instr) (end : Term) → code_of.Keeps code act 2
      → IsTable code act S.registers names t.text.items table
      → Computes code act S.registers names a 0 instrs
      (store (kept_cell act 0) (value.Reg 0) ∷ second) → Computes code act S.registers names b 0
      second (store (kept_cell act 1) (value.Reg 0) ∷ third)
      → Computes code act S.registers names e 0 third (load 1 (kept_cell act 0) ∷ load 2
      (kept_cell act 1) ∷ put_tested table 1 2 0 3 trap more)
      → AreAt code trap (trap_block trap Index t.place ∷ [])
      → OwedSeen code heartbeat z act set.fuel S names more end k
      → OwedSeen code heartbeat z act set.fuel S names instrs end
      (λ st. then (result (run set (Put t a b e) st)) k)
  put_kept_law t a b e table trap instrs second third more end kept is c d f found post i st state shows stands =
      computes code heartbeat z act set.fuel expr_law S i names st state shows a 0 instrs (store (kept_cell act 0) (value.Reg 0) ∷ second) end c stands (λ m. given b st (λ j. given e st (λ n. put_cell t m j n st))) k
      (λ m in_m words beat at keeps is_m left.
      let one : machine.State = moved state words beat at in
      let shows_one : SeenIn code heartbeat z act set.fuel S i names st one =
      still_seen code heartbeat z act set.fuel S i names st state 0 words beat at shows keeps in
      keeps_value one shows_one 0 m (S.owing i (then (result (given b st (λ j. given e st (λ n. put_cell t m j n st)))) k)) second (omega arith) is_m left
      (λ shows_two cell_m left2.
      computes code heartbeat z act set.fuel expr_law S i names st (with_kept one 0 m) shows_two b 0 second (store (kept_cell act 1) (value.Reg 0) ∷ third) end d left2 (λ j. given e st (λ n. put_cell t m j n st)) k
      (λ j in_j words3 beat3 at3 keeps3 is_j left3.
      let three : machine.State = moved (with_kept one 0 m) words3 beat3 at3 in
      let shows_three : SeenIn code heartbeat z act set.fuel S i names st three =
      still_seen code heartbeat z act set.fuel S i names st (with_kept one 0 m) 0 words3 beat3 at3
      shows_two keeps3 in
      keeps_value three shows_three 1 j (S.owing i (then (result (given e st (λ n. put_cell t m j n st))) k)) third (omega arith) is_j left3
      (λ shows_four cell_j left4.
      let cell_i : word_at (with_kept three 1 j).stack (pos (z + kept_cell act 0)) ≡ Some (word.Int m) =
      word_other three.stack (z + kept_cell act 1) (z + kept_cell act 0) (word.Int j)
      (omega (arith, low_there code heartbeat z act set.fuel S i names st three shows_three))
      (λ (q : z + kept_cell act 0 ≡ z + kept_cell act 1). absurd (omega (arith, q))) ∙ cell_m in
      computes code heartbeat z act set.fuel expr_law S i names st (with_kept three 1 j) shows_four e 0 third (load 1 (kept_cell act 0) ∷ load 2 (kept_cell act 1) ∷ put_tested table 1 2 0 3 trap more) end f left4 (λ n. put_cell t m j n st) k
      (λ n in_n words5 beat5 at5 keeps5 is_n left5.
      let five : machine.State = moved (with_kept three 1 j) words5 beat5 at5 in
      let shows_five : SeenIn code heartbeat z act set.fuel S i names st five =
      still_seen code heartbeat z act set.fuel S i names st (with_kept three 1 j) 0 words5 beat5 at5
      shows_four keeps5 in
      at_put m j n in_n five shows_five cell_i cell_j is_n left5)))))
    where
      with_kept : machine.State → ℕ → ℤ → machine.State
      with_kept task n m = effect.with_stack (advanced task) (with_word task.stack (pos (z + kept_cell act n)) (word.Int m))

      -- a value stored in a cell that is kept
      keeps_value : (task : machine.State) → SeenIn code heartbeat z act set.fuel S i names st task
          → (n : ℕ) (m : ℤ) (K : Back code heartbeat) (rest : List Instr) → n < 2
          → register task.registers 0 ≡ word.Int m
          → Remains code task.block task.at (store (kept_cell act n) (value.Reg 0) ∷ rest) end
          → (SeenIn code heartbeat z act set.fuel S i names st (with_kept task n m)
          → word_at (with_kept task n m).stack (pos (z + kept_cell act n)) ≡ Some (word.Int m)
          → Remains code task.block (task.at + 1) rest end → K.Holds (with_kept task n m))
          → K.Holds task
      keeps_value task shows_task n m K rest small is_m left go =
          let low : task.stack.base ≤ z =
          low_there code heartbeat z act set.fuel S i names st task shows_task in
          let inside : z + kept_cell act n < task.stack.base + length task.stack.cells =
          omega (
            arith,
            top_there code heartbeat z act set.fuel S i names st task shows_task,
            kept,
            small,
          ) in
          let from : task.stack.base ≤ z + kept_cell act n = omega (arith, low) in
          let above : value_cell S.lowest ≤ kept_cell act n =
          omega (arith, lowest, shows_task.few) in
          stores_in code heartbeat z act set.fuel K task (kept_cell act n) (value.Reg 0) rest end
          left shows_task.base low inside
          (subst (λ (w : Word). K.Holds (effect.with_stack (advanced task) (with_word task.stack (pos (z + kept_cell act n)) w))) (sym is_m)
          (go (shows_stored code heartbeat z act set.fuel S i task.stack (kept_cell act n)
          (word.Int m) low
          (above_apart S.registers (kept_cell act n) (value_cell S.lowest) S.under above)
          (shows_new code heartbeat z act set.fuel S i shows_task (kept_cell act n) (word.Int m)
          (omega (arith, shows_task.few)) lowest))
          (word_same task.stack (z + kept_cell act n) (word.Int m) from inside)
          (behind code task.block task.at _ rest end left)))

      at_put : (m j n : ℤ) → InRange n → (task : machine.State)
          → SeenIn code heartbeat z act set.fuel S i names st task
          → word_at task.stack (pos (z + kept_cell act 0)) ≡ Some (word.Int m) → word_at task.stack (pos (z + kept_cell act 1)) ≡ Some (word.Int j) → register task.registers 0 ≡ word.Int n
          → Remains code task.block task.at (load 1 (kept_cell act 0) ∷ load 2 (kept_cell act 1) ∷ put_tested table 1 2 0 3 trap more) end → (S.owing i (then (result (put_cell t m j n st)) k)).Holds task
      at_put m j n in_n task shows_task cell_m cell_j is_n left =
          let K : Back code heartbeat = S.owing i (then (result (put_cell t m j n st)) k) in
          let one : machine.State = with_register (advanced task) 1 (word.Int m) in
          let words : List Word = slice_set task.registers 1 (word.Int m) in
          let words2 : List Word = slice_set words 2 (word.Int j) in
          let size : length words ≡ 32 = length-set task.registers 1 (word.Int m) ∙ shows_task.size in
          let base : register words 31 ≡ word.Int (pos z) = register_other task.registers 1 31 (word.Int m) (λ (q : 31 ≡ 1). absurd (omega (arith, q))) ∙ shows_task.base in
          let high : (r : ℕ) → 24 ≤ r → register words2 r ≡ register task.registers r =
          λ r from.
          register_other words 2 r (word.Int j) (λ (q : r ≡ 2). absurd (omega (arith, q, from)))
          ∙ register_other task.registers 1 r (word.Int m)
          (λ (q : r ≡ 1). absurd (omega (arith, q, from))) in
          let left1 : Remains code task.block (task.at + 1) (load 2 (kept_cell act 1) ∷ put_tested table 1 2 0 3 trap more) end = behind code task.block task.at _ _ end left in
          on_load code heartbeat K task 1 31 (kept_cell act 0) (pos z) (word.Int m) (next code task _ _ end left) shows_task.base cell_m
          (on_load code heartbeat K one 2 31 (kept_cell act 1) (pos z) (word.Int j) (next code one _ _ end left1) base cell_j
          (puts code heartbeat z act set.fuel S names k t table trap 1 2 0 3 more end is found (omega arith) (omega arith) (omega arith) (omega arith) post i st (with_register (advanced one) 2 (word.Int j))
          (shows_low code heartbeat z act set.fuel S i task.stack shows_task words2
          (length-set words 2 (word.Int j) ∙ length-set task.registers 1 (word.Int m)) high)
          m j n in_n
          (register_other words 2 1 (word.Int j) (λ (q : 1 ≡ 2). absurd (omega (arith, q))) ∙ register_set task.registers 1 (word.Int m) (omega (arith, shows_task.size)))
          (register_set words 2 (word.Int j) (omega (arith, size)))
          (register_other words 2 0 (word.Int j) (λ (q : 0 ≡ 2). absurd (omega (arith, q))) ∙ (register_other task.registers 1 0 (word.Int m) (λ (q : 0 ≡ 1). absurd (omega (arith, q))) ∙ is_n))
          (behind code task.block (task.at + 1) _ _ end left1)))
