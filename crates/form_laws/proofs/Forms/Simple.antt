-- The laws of statements without blocks.
use Rattle.std.proofs.Common.{◌≡◌, ℕ, ◌+◌, ◌<◌, ◌≤◌, List, [], ◌∷◌, ◌++◌, length, None, Some, ap, ◌∙◌}
use Rattle.std.proofs.Common.{arith}
use Rattle.std.specs.Prelude.{pos}
use Rattle.std.specs.Fmt.{signed_decimal}
use Rattle.beat_count.specs.BeatState.{BeatState}
use Rattle.stack_marks.specs.Stacks.{StackValue, with_word, word_at}
use Rattle.tp_value.specs.declared.Place.{Place}
use Rattle.loop_syntax.specs.declared.Name.{Name}
use Rattle.loop_syntax.specs.declared.Expr.{Expr}
use Rattle.loop_syntax.specs.declared.Stmt.TheVariants.{Let, Set, Print}
use Rattle.loop_meaning.specs.State as meaning
use Rattle.loop_meaning.specs.State.{declare, done, print_line}
use Rattle.loop_meaning.specs.Statements.{Setting, run, set_var}
use Rattle.tpal_syntax.specs.declared.instructions.Instr.{Instr}
use Rattle.tpal_syntax.specs.declared.instructions.Instr.TheVariants as instr
use Rattle.tpal_syntax.specs.declared.instructions.Term.{Term}
use Rattle.tpal_syntax.specs.declared.instructions.Value as operands
use Rattle.tpal_syntax.specs.declared.words.Word.{Word}
use Rattle.tpal_syntax.specs.declared.words.Word.TheVariants as word
use Rattle.tpal_syntax.specs.Listing.{Listing}
use Rattle.tpal_machine.specs.Effect as effect
use Rattle.tpal_machine.specs.Reading.{register, operand, with_register}
use Rattle.tpal_machine.specs.State as machine
use Rattle.tpal_machine.specs.Step.{advanced}
use Rattle.tpal_machine.proofs.Kit.{Back, on_move, on_store, on_print}
use Rattle.expr_lower.specs.Leaving.{Keeps, moved}
use Rattle.expr_lower.specs.Standing.{Remains}
use Rattle.expr_lower.proofs.Standing.{next, behind}
use Rattle.handler_gen.proofs.LeafStores.{registers_other}
use Rattle.handler_gen.proofs.Words.{word_there, word_same}
use Rattle.scene_laws.specs.Code.{Computes, Operand, IsCell, store}
use Rattle.scene_laws.specs.Layout.{value_cell, Activation}
use Rattle.scene_laws.specs.Round.{register_for}
use Rattle.scene_laws.proofs.Scenes.Results.{Result, result, then}
use Rattle.scene_laws.proofs.Scenes.Registered.{above_apart, as_many_shown, base_shown, high_for}
use Rattle.scene_laws.proofs.Scenes.Registered.{none_stands}
use Rattle.scene_laws.proofs.Scenes.Scene.{Scene, ShowsIn, SeenIn, OwedSeen, seen}
use Rattle.scene_laws.proofs.Scenes.Showing.{shows_assigned, shows_declared, shows_held, shows_low}
use Rattle.scene_laws.proofs.Scenes.Showing.{shows_new, shows_output, shows_stored, shows_words}
use Rattle.scene_laws.proofs.Scenes.Values.{ExprLaw, computes, operand_is}

module _ (code : Listing) (heartbeat z : ℕ) (act : Activation) (fuel : ℕ) where
  -- a store to a cell of the activation
  pub stores_in : (K : Back code heartbeat) (state : machine.State) (cell : ℕ) (v : operands.Value) (more : List Instr) (end : Term) → Remains code state.block state.at (store cell v ∷ more) end
      → register state.registers 31 ≡ word.Int (pos z) → state.stack.base ≤ z → z + cell < state.stack.base + length state.stack.cells
      → K.Holds (effect.with_stack (advanced state) (with_word state.stack (pos (z + cell)) (operand state.registers v))) → K.Holds state
  stores_in K state cell v more end stands base low inside holds =
      on_store code heartbeat K state 31 cell v (pos z) _ (next code state (store cell v) more end stands) base
      (word_there state.stack (z + cell) (omega (arith, low)) inside) holds

  -- a store to a cell of the variables
  pub stores : (K : Back code heartbeat) (state : machine.State) (cell : ℕ) (v : operands.Value) (more : List Instr) (end : Term) → Remains code state.block state.at (store cell v ∷ more) end
      → register state.registers 31 ≡ word.Int (pos z) → state.stack.base ≤ z → z + value_cell act.most ≤ state.stack.base + length state.stack.cells → cell < value_cell act.most
      → K.Holds (effect.with_stack (advanced state) (with_word state.stack (pos (z + cell)) (operand state.registers v))) → K.Holds state
  stores K state cell v more end stands base low room below holds = stores_in K state cell v more end stands base low (omega (arith, room, below)) holds

  -- the stack of a task that shows a state begins below the activation, and has room for the variables
  pub low_there : (S : Scene code heartbeat z) (i : S.World) (names : List (List ℕ))
      (st : meaning.State) (state : machine.State) → SeenIn code heartbeat z act fuel S i names st
      state → state.stack.base ≤ z
  low_there S i names st state shows =
      omega (arith, shows.low, base_shown S.registers z state.registers state.stack)

  pub room_there : (S : Scene code heartbeat z) (i : S.World) (names : List (List ℕ))
      (st : meaning.State) (state : machine.State) → SeenIn code heartbeat z act fuel S i names st
      state → z + value_cell act.most ≤ state.stack.base + length state.stack.cells
  room_there S i names st state shows =
      omega (
        arith,
        shows.room,
        base_shown S.registers z state.registers state.stack,
        as_many_shown
            S.registers z state.registers state.stack,
      )

  pub top_there : (S : Scene code heartbeat z) (i : S.World) (names : List (List ℕ))
      (st : meaning.State) (state : machine.State)
      → SeenIn code heartbeat z act fuel S i names st state
      → state.stack.base + length state.stack.cells ≡ z + act.size
  top_there S i names st state shows =
      omega (
        arith,
        shows.top,
        base_shown S.registers z state.registers state.stack,
        as_many_shown S.registers z state.registers state.stack,
      )

  -- a cell above all for which registers stand is shown as it is
  pub seen_above : (S : Scene code heartbeat z) (words : List Word) (stack : StackValue) (cell : ℕ)
      → stack.base ≤ z → value_cell S.lowest ≤ cell
      → word_at (seen code heartbeat z act fuel S words stack) (pos (z + cell))
      ≡ word_at stack (pos (z + cell))
  seen_above S words stack cell low above =
      registers_other S.registers words stack z cell low
      (above_apart S.registers cell (value_cell S.lowest) S.under above)

  -- a word in a cell above those of the variables
  pub seen_new : (S : Scene code heartbeat z) (i : S.World) (names : List (List ℕ))
      (st : meaning.State) (task : machine.State)
      → SeenIn code heartbeat z act fuel S i names st task → (cell : ℕ) (w : Word)
      → value_cell (length names) ≤ cell → S.lowest ≤ length names
      → SeenIn code heartbeat z act fuel S i names st
      (effect.with_stack task (with_word task.stack (pos (z + cell)) w))
  seen_new S i names st task shows cell w above lowest =
      shows_stored code heartbeat z act fuel S i task.stack cell w
      (low_there S i names st task shows)
      (above_apart S.registers cell (value_cell S.lowest) S.under (omega (arith, above, lowest)))
      (shows_new code heartbeat z act fuel S i shows cell w above lowest)

  -- a task still shows a state where registers below 24 alone changed
  pub still_seen : (S : Scene code heartbeat z) (i : S.World) (names : List (List ℕ))
      (st : meaning.State) (state : machine.State) (r : ℕ) (words : List Word) (beat : BeatState)
      (at : ℕ) → SeenIn code heartbeat z act fuel S i names st state → Keeps r state words beat
      → SeenIn code heartbeat z act fuel S i names st (moved state words beat at)
  still_seen S i names st state r words beat at shows keeps =
      shows_low code heartbeat z act fuel S i state.stack shows words keeps.size keeps.above

  pub still_shows : (S : Scene code heartbeat z) (i : S.World) (names : List (List ℕ))
      (st : meaning.State) (state : machine.State) (r : ℕ) (words : List Word) (beat : BeatState)
      (at : ℕ) → ShowsIn code heartbeat z act fuel S i names st state → Keeps r state words beat
      → ShowsIn code heartbeat z act fuel S i names st (moved state words beat at)
  still_shows S i names st state r words beat at shows keeps =
      shows_words code heartbeat z act fuel S i shows words keeps.size
      (keeps.above 31 (omega arith))

module _ (code : Listing) (heartbeat z : ℕ) (act : Activation) (set : Setting) (expr_law : ExprLaw code heartbeat) (S : Scene code heartbeat z) (names : List (List ℕ)) (lowest : S.lowest ≤ length names) (k : meaning.State → Result) where
  pub let_law : (x : Name) (e : Expr) (v : operands.Value) (instrs more : List Instr) (end : Term)
      → length names < act.most → Operand code act S.registers names e 0 v instrs
      (store (value_cell (length names)) v ∷ more)
      → OwedSeen code heartbeat z act set.fuel S (names ++ x.text.items ∷ []) more end k
      → OwedSeen code heartbeat z act set.fuel S names instrs end
      (λ st. then (result (run set (Let x e) st)) k)
  let_law x e v instrs more end room c post i st state shows stands =
      operand_is code heartbeat z act set.fuel expr_law S i names st state shows e 0 v instrs (store (value_cell (length names)) v ∷ more) end c stands (λ n. done (record st { vars = declare st.vars x.text.items n })) k
      (λ n fits words beat at keeps is here.
      let task : machine.State = moved state words beat at in
      let after_value : SeenIn code heartbeat z act set.fuel S i names st task =
      still_seen code heartbeat z act set.fuel S i names st state 0 words beat at shows keeps in
      let below : value_cell (length names) < value_cell act.most = omega arith in
      let low : state.stack.base ≤ z =
      low_there code heartbeat z act set.fuel S i names st task after_value in
      let from : (seen code heartbeat z act set.fuel S words state.stack).base ≤ z + value_cell
      (length names) = omega (arith, after_value.low) in
      let shown_stack : StackValue = seen code heartbeat z act set.fuel S words state.stack in
      let inside : z + value_cell (length names) < shown_stack.base + length shown_stack.cells =
      omega (arith, after_value.room, below) in
      let stack = with_word state.stack (pos (z + value_cell (length names))) (operand words v) in
      stores code heartbeat z act set.fuel
      (S.owing i (k (record st { vars = declare st.vars x.text.items n }))) task
      (value_cell (length names)) v more end here after_value.base low
      (room_there code heartbeat z act set.fuel S i names st task after_value) below
      (post i (record st { vars = declare st.vars x.text.items n })
      (effect.with_stack (advanced task) stack)
      (shows_stored code heartbeat z act set.fuel S i state.stack (value_cell (length names))
      (operand words v) low (above_apart S.registers (value_cell (length names))
      (value_cell S.lowest) S.under (omega arith))
      (shows_declared code heartbeat z act set.fuel S i
      (shows_new code heartbeat z act set.fuel S i after_value (value_cell (length names))
      (operand words v) (omega arith) lowest) x.text.items n room
      (word_same shown_stack (z + value_cell (length names)) (operand words v) from inside
      ∙ ap Some is) fits))
      (behind code state.block at (store (value_cell (length names)) v) more end here)))

  pub set_law : (fixed : List ℕ) (x : Name) (e : Expr) (v : operands.Value) (cell : ℕ)
      (instrs more : List Instr) (end : Term) → (c : IsCell code act names fixed x.text.items cell)
      → S.may cell → register_for S.registers cell ≡ None → Operand code act S.registers names e 0 v
      instrs (store cell v ∷ more)
      → OwedSeen code heartbeat z act set.fuel S names more end k
      → OwedSeen code heartbeat z act set.fuel S names instrs end
      (λ st. then (result (run set (Set x e) st)) k)
  set_law fixed x e v cell instrs more end is_cell may none c post i st state shows stands =
      operand_is code heartbeat z act set.fuel expr_law S i names st state shows e 0 v instrs (store cell v ∷ more) end c stands (λ n. done (set_var x n st)) k
      (λ n fits words beat at keeps is here.
      let task : machine.State = moved state words beat at in
      let after_value : SeenIn code heartbeat z act set.fuel S i names st task =
      still_seen code heartbeat z act set.fuel S i names st state 0 words beat at shows keeps in
      let below : cell < value_cell act.most = omega (arith, is_cell.at_level, is_cell.below) in
      let low : state.stack.base ≤ z =
      low_there code heartbeat z act set.fuel S i names st task after_value in
      let K : Back code heartbeat = S.owing i (k (set_var x n st)) in
      stores code heartbeat z act set.fuel K task cell v more end here after_value.base low
      (room_there code heartbeat z act set.fuel S i names st task after_value) below
      (rw is (post i (set_var x n st) (effect.with_stack (advanced task)
      (with_word state.stack (pos (z + cell)) (word.Int n)))
      (shows_stored code heartbeat z act set.fuel S i state.stack cell (word.Int n) low
      (none_stands S.registers cell none)
      (shows_assigned code heartbeat z act set.fuel S i after_value fixed x.text.items cell n
      is_cell may lowest fits))
      (behind code state.block at (store cell v) more end here))))

  -- the same, where a register stands for the variable's cell
  pub set_register_law : (fixed : List ℕ) (x : Name) (e : Expr) (v : operands.Value) (cell held : ℕ)
      (instrs more : List Instr) (end : Term) → (c : IsCell code act names fixed x.text.items cell)
      → S.may cell → register_for S.registers cell ≡ Some held
      → Operand code act S.registers names e 0 v instrs (instr.Move held v ∷ more)
      → OwedSeen code heartbeat z act set.fuel S names more end k
      → OwedSeen code heartbeat z act set.fuel S names instrs end
      (λ st. then (result (run set (Set x e) st)) k)
  set_register_law fixed x e v cell held instrs more end is_cell may is_held c post i st state shows
      stands =
      operand_is code heartbeat z act set.fuel expr_law S i names st state shows e 0 v instrs
      (instr.Move held v ∷ more) end c stands (λ n. done (set_var x n st)) k
      (λ n fits words beat at keeps is here.
      let task : machine.State = moved state words beat at in
      let after_value : SeenIn code heartbeat z act set.fuel S i names st task =
      still_seen code heartbeat z act set.fuel S i names st state 0 words beat at shows keeps in
      let low : state.stack.base ≤ z =
      low_there code heartbeat z act set.fuel S i names st task after_value in
      let high : (24 ≤ held) × (held ≤ 29) = high_for S.registers cell held S.high is_held in
      on_move code heartbeat (S.owing i (k (set_var x n st))) task held v
      (next code task (instr.Move held v) more end here)
      (rw is (post i (set_var x n st) (with_register (advanced task) held (word.Int n))
      (shows_held code heartbeat z act set.fuel S i state.stack cell held (word.Int n) is_held low
      (omega (arith, after_value.size, high.1))
      (λ (q : held ≡ 31). absurd (omega (arith, q, high.1)))
      (shows_assigned code heartbeat z act set.fuel S i after_value fixed x.text.items cell n
      is_cell may lowest fits))
      (behind code state.block at (instr.Move held v) more end here))))

  pub print_law : (place : Place) (e : Expr) (instrs more : List Instr) (end : Term)
      → Computes code act S.registers names e 0 instrs (instr.Print 0 ∷ more)
      → OwedSeen code heartbeat z act set.fuel S names more end k
      → OwedSeen code heartbeat z act set.fuel S names instrs end
      (λ st. then (result (run set (Print place e) st)) k)
  print_law place e instrs more end c post i st state shows stands =
      computes code heartbeat z act set.fuel expr_law S i names st state shows e 0 instrs (instr.Print 0 ∷ more) end c stands (λ n. done (print_line n st)) k
      (λ n fits words beat at keeps is here.
      let after_value : SeenIn code heartbeat z act set.fuel S i names st
      (moved state words beat at) =
      still_seen code heartbeat z act set.fuel S i names st state 0 words beat at shows keeps in
      on_print code heartbeat (S.owing i (k (print_line n st))) (moved state words beat at) 0 n (next code (moved state words beat at) (instr.Print 0) more end here) is
      (post i (print_line n st) (effect.with_output (advanced (moved state words beat at)) (signed_decimal n ++ 10 ∷ []))
      (shows_output code heartbeat z act set.fuel S i after_value (signed_decimal n ++ 10 ∷ []))
      (behind code state.block at (instr.Print 0) more end here)))
