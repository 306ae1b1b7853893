-- The laws of `loop`.
use Rattle.std.proofs.Common.{◌≡◌, ℕ, ◌+◌, ◌<◌, ◌≤◌, List, [], ◌∷◌, ◌++◌, length, take, Some, None}
use Rattle.std.proofs.Common.{refl, sym, subst, ◌∙◌, arith, Vec}
use Rattle.std.specs.Prelude.{ℤ, pos, slice_set}
use Rattle.std.specs.declared.alloc.Global.{Global}
use Rattle.std.specs.Int.{int_gap}
use Rattle.std.proofs.lemmas.List.{length-set}
use Rattle.beat_count.specs.BeatState.{BeatState}
use Rattle.beat_count.specs.Heartbeat.{counted}
use Rattle.stack_marks.specs.Stacks.{StackValue, word_at, with_word}
use Rattle.loop_syntax.specs.declared.Name.{Name}
use Rattle.loop_syntax.specs.declared.Expr.{Expr}
use Rattle.loop_syntax.specs.declared.Stmt.{Stmt}
use Rattle.loop_syntax.specs.declared.Stmt.TheVariants.{Loop}
use Rattle.loop_meaning.specs.InRange.{InRange}
use Rattle.loop_meaning.specs.State as meaning
use Rattle.loop_meaning.specs.State.{Ran}
use Rattle.loop_meaning.specs.Statements.{Setting, given, run, run_list, iterate}
use Rattle.loop_meaning.proofs.Runs.{run_loop_is}
use Rattle.tpal_syntax.specs.declared.instructions.Instr.{Instr}
use Rattle.tpal_syntax.specs.declared.instructions.Instr.TheVariants as instr
use Rattle.tpal_syntax.specs.declared.instructions.Term.{Term}
use Rattle.tpal_syntax.specs.declared.instructions.Value.TheVariants as value
use Rattle.tpal_syntax.specs.declared.words.Word.{Word}
use Rattle.tpal_syntax.specs.declared.words.Word.TheVariants as word
use Rattle.tpal_syntax.specs.Listing.{Listing}
use Rattle.tpal_machine.specs.Effect as effect
use Rattle.tpal_machine.specs.Reading.{register, operand, with_register}
use Rattle.tpal_machine.specs.State as machine
use Rattle.tpal_machine.specs.Step.{advanced}
use Rattle.tpal_machine.proofs.Kit.{Back, on_load}
use Rattle.expr_lower.specs.Bodies.{literal}
use Rattle.expr_lower.specs.Leaving.{moved}
use Rattle.expr_lower.specs.Standing.{Remains}
use Rattle.expr_lower.proofs.Keeping.{register_set, register_other}
use Rattle.expr_lower.proofs.Standing.{next, behind}
use Rattle.handler_gen.proofs.Words.{word_same, word_other}
use Rattle.scene_laws.specs.Code.{Computes, Opens, to, store, load, below_test, step_up}
use Rattle.scene_laws.specs.Layout.{value_cell, bound_cell, Activation}
use Rattle.scene_laws.proofs.Cuts.Gaps.{gap_is}
use Rattle.scene_laws.proofs.Scenes.Results.{Result, result, then}
use Rattle.scene_laws.proofs.Scenes.Scene.{Scene, SeenIn, OwedSeen, ShowsIn, seen_bare, shows_bare}
use Rattle.scene_laws.proofs.Scenes.Showing.{shows_low}
use Rattle.form_laws.proofs.Forms.Simple.{low_there, room_there, seen_new, stores, still_seen}
use Rattle.scene_laws.proofs.Scenes.Values.{ExprLaw, computes, literal_value}
use Rattle.form_laws.proofs.Forms.LoopScenes.{BoundHeld, inside}
use Rattle.form_laws.proofs.Forms.LoopTurns.{loop_at}

-- ---- the bounds

module _ (code : Listing) (heartbeat z : ℕ) (act : Activation) (fuel : ℕ) (expr_law : ExprLaw code
    heartbeat) (S : Scene code heartbeat z) (names : List (List ℕ)) (lowest : S.lowest ≤ length
    names) (room : length names < act.most) where
  -- Both bounds of a loop, each stored in its cell. Behind them the first one is in register 1, and
  -- the second in
  -- register 0.
  pub bounds : (k : meaning.State → Result) (a b : Expr) (here second rest : List Instr) (end :
      Term)
      → Computes code act S.registers names a 0 here (store (value_cell (length names))
      (value.Reg 0) ∷ second)
      → Computes code act S.registers names b 0 second (store (bound_cell (length names))
      (value.Reg 0) ∷ load 1
      (value_cell (length names)) ∷ rest)
      → (g : ℤ → ℤ → meaning.State → Ran) (i : S.World) (st : meaning.State) (state : machine.State)
      → SeenIn code heartbeat z act fuel S i names st state → Remains code state.block state.at
      here end
      → ((m j : ℤ) → InRange m → InRange j → (task : machine.State) → SeenIn code heartbeat z act
      fuel S i names st task → register task.registers 1 ≡ word.Int m → register task.registers
      0 ≡ word.Int j
      → word_at task.stack (pos (z + value_cell (length names))) ≡ Some (word.Int m) → word_at
      task.stack (pos (z + bound_cell (length names))) ≡ Some (word.Int j) → Remains code
      task.block task.at rest end
      → (S.owing i (then (result (g m j st)) k)).Holds task)
      → (S.owing i (then (result (given a st (λ m. given b st (λ j. g m j st)))) k)).Holds state
  bounds k a b here second rest end c d g i st state shows stands go =
      computes code heartbeat z act fuel expr_law S i names st state shows a 0 here (store
      (value_cell (length names)) (value.Reg 0) ∷ second) end c stands
      (λ m. given b st (λ j. g m j st)) k
      (λ m in_m words beat at keeps is left_here.
      let one : machine.State = moved state words beat at in
      let shows_one : SeenIn code heartbeat z act fuel S i names st one = still_seen code
      heartbeat z act fuel S i names st state 0 words beat at shows keeps in
      let K : Back code heartbeat = S.owing i (then (result (given b st (λ j. g m j st))) k) in
      let low : state.stack.base ≤ z =
      low_there code heartbeat z act fuel S i names st one shows_one
      in
      let has_room : z + value_cell act.most ≤ state.stack.base + length state.stack.cells =
      room_there code heartbeat z act fuel S i names st one shows_one in
      let from : state.stack.base ≤ z + value_cell (length names) = omega (arith, low) in
      let within : z + value_cell (length names) < state.stack.base + length state.stack.cells =
      omega (arith, has_room, room) in
      stores code heartbeat z act fuel K one (value_cell (length names)) (value.Reg 0) second end
      left_here shows_one.base low has_room (omega arith)
      (subst (λ (w : Word). K.Holds (effect.with_stack (advanced one) (with_word state.stack (pos (z
      + value_cell (length names))) w))) (sym is)
      (with_first m in_m (effect.with_stack (advanced one) (with_word state.stack (pos (z +
      value_cell (length names))) (word.Int m)))
      (seen_new code heartbeat z act fuel S i names st one shows_one (value_cell (length names))
      (word.Int m) (omega arith) lowest)
      (word_same state.stack (z + value_cell (length names)) (word.Int m) from within)
      (behind code state.block at _ second end left_here))))
    where
      with_first : (m : ℤ) → InRange m → (two : machine.State) → SeenIn code heartbeat z act fuel S
          i names st two → word_at two.stack (pos (z + value_cell (length names))) ≡ Some (word.Int
          m) → Remains code two.block two.at second end
          → (S.owing i (then (result (given b st (λ j. g m j st))) k)).Holds two
      with_first m in_m two shows_two cell stands_two =
          computes code heartbeat z act fuel expr_law S i names st two shows_two b 0 second (store
          (bound_cell (length names)) (value.Reg 0) ∷ load 1 (value_cell (length names)) ∷ rest)
          end d stands_two
          (λ j. g m j st) k
          (λ j in_j words beat at keeps is left_here.
          let three : machine.State = moved two words beat at in
          let shows_three : SeenIn code heartbeat z act fuel S i names st three = still_seen code
          heartbeat z act fuel S i names st two 0 words beat at shows_two keeps in
          let K : Back code heartbeat = S.owing i (then (result (g m j st)) k) in
          let low : two.stack.base ≤ z = low_there code heartbeat z act fuel S i names st two
          shows_two in
          let has_room : z + value_cell act.most ≤ two.stack.base + length two.stack.cells =
          room_there code heartbeat z act fuel S i names st two shows_two in
          let from : two.stack.base ≤ z + bound_cell (length names) = omega (arith, low) in
          let within : z + bound_cell (length names) < two.stack.base + length two.stack.cells =
          omega (arith, has_room, room) in
          let stack : StackValue = with_word two.stack (pos (z + bound_cell (length names)))
          (word.Int j) in
          let four : machine.State = effect.with_stack (advanced three) stack in
          let shows_four : SeenIn code heartbeat z act fuel S i names st four = seen_new code
          heartbeat z act fuel S i names st three shows_three (bound_cell (length names)) (word.Int
          j) (omega arith) lowest in
          let cell_four : word_at stack (pos (z + value_cell (length names))) ≡ Some (word.Int m) =
          word_other two.stack (z + bound_cell (length names)) (z + value_cell (length names))
          (word.Int j) from (λ (q : z + value_cell (length names) ≡ z + bound_cell (length
          names)). absurd (omega (arith, q))) ∙ cell in
          let fourth : Remains code two.block (at + 1) (load 1 (value_cell (length names)) ∷ rest)
          end = behind code two.block at _ _ end left_here in
          stores code heartbeat z act fuel K three (bound_cell (length names)) (value.Reg 0) (load 1
          (value_cell (length names)) ∷ rest) end left_here shows_three.base low has_room
          (omega arith)
          (subst (λ (w : Word). K.Holds (effect.with_stack (advanced three) (with_word two.stack
          (pos (z + bound_cell (length names))) w))) (sym is)
          (on_load code heartbeat K four 1 31 (value_cell (length names)) (pos z) (word.Int m) (next
          code four _ _ end fourth) shows_four.base cell_four
          (go m j in_m in_j (with_register (advanced four) 1 (word.Int m))
          (shows_low code heartbeat z act fuel S i stack shows_four (slice_set words 1 (word.Int m))
          (length-set words 1 (word.Int m)) (λ r above. register_other words 1 r (word.Int m)
          (λ (q :
          r ≡ 1). absurd (omega (arith, q, above)))))
          (register_set words 1 (word.Int m) (omega (arith, shows_four.size))) (register_other words
          1 0 (word.Int m) (λ (q : 0 ≡ 1). absurd (omega (arith, q))) ∙ is) cell_four
          (word_same two.stack (z + bound_cell (length names)) (word.Int j) from within)
          (behind code two.block (at + 1) _ _ end fourth)))))

  -- the same in a scene in which no register stands for a cell
  pub bounds_bare : S.registers ≡ [] → (k : meaning.State → Result) (a b : Expr)
      (here second rest : List Instr) (end : Term)
      → Computes code act [] names a 0 here (store (value_cell (length names))
      (value.Reg 0) ∷ second)
      → Computes code act [] names b 0 second
      (store (bound_cell (length names)) (value.Reg 0) ∷ load 1 (value_cell (length names)) ∷ rest)
      → (g : ℤ → ℤ → meaning.State → Ran) (i : S.World) (st : meaning.State) (state : machine.State)
      → ShowsIn code heartbeat z act fuel S i names st state
      → Remains code state.block state.at here end
      → ((m j : ℤ) → InRange m → InRange j → (task : machine.State)
      → ShowsIn code heartbeat z act fuel S i names st task → register task.registers 1 ≡ word.Int m
      → register task.registers 0 ≡ word.Int j
      → word_at task.stack (pos (z + value_cell (length names))) ≡ Some (word.Int m)
      → word_at task.stack (pos (z + bound_cell (length names))) ≡ Some (word.Int j)
      → Remains code task.block task.at rest end → (S.owing i (then (result (g m j st)) k)).Holds
      task)
      → (S.owing i (then (result (given a st (λ m. given b st (λ j. g m j st)))) k)).Holds state
  bounds_bare none k a b here second rest end c d g i st state shows stands go =
      bounds k a b here second rest end
      (subst (λ (ps : List (ℕ × ℕ)). Computes code act ps names a 0 here
      (store (value_cell (length names)) (value.Reg 0) ∷ second)) (sym none) c)
      (subst (λ (ps : List (ℕ × ℕ)). Computes code act ps names b 0 second
      (store (bound_cell (length names)) (value.Reg 0) ∷ load 1 (value_cell (length names)) ∷ rest))
      (sym none) d) g i st state (seen_bare code heartbeat z act fuel S i names st state none shows)
      stands (λ m j in_m in_j task shows_task.
      go m j in_m in_j task (shows_bare code heartbeat z act fuel S i names st task none
      shows_task))

module _ (code : Listing) (heartbeat z : ℕ) (act : Activation) (fuel : ℕ) (S : Scene code heartbeat
    z) (names : List (List ℕ)) where
  -- the bound, back in register 0
  pub reloads_bound : (j : ℤ) (more : List Instr) (end : Term) (K : Back code heartbeat) (i :
      S.World) (st : meaning.State) (task : machine.State) (m : ℤ) → SeenIn code heartbeat z act
      fuel S i names st task → BoundHeld z (length names) (Some j) task.stack → register
      task.registers 1 ≡ word.Int m
      → Remains code task.block task.at (load 0 (bound_cell (length names)) ∷ more) end
      → ((words : List Word) (beat : BeatState) (at : ℕ) → SeenIn code heartbeat z act fuel S i
      names st (moved task words beat at) → register words 1 ≡ word.Int m → operand words
      (value.Reg 0) ≡ word.Int j → Remains code task.block at more end → K.Holds (moved task
      words beat at))
      → K.Holds task
  reloads_bound j more end K i st task m shows held is stands go =
      on_load code heartbeat K task 0 31 (bound_cell (length names)) (pos z) (word.Int j) (next code
      task _ _ end stands) shows.base held
      (go (slice_set task.registers 0 (word.Int j)) (counted task.beat) (task.at + 1)
      (shows_low code heartbeat z act fuel S i task.stack shows
      (slice_set task.registers 0 (word.Int j))
      (length-set task.registers 0 (word.Int j)) (λ r above. register_other task.registers 0 r
      (word.Int j) (λ (q : r ≡ 0). absurd (omega (arith, q, above)))))
      (register_other task.registers 0 1 (word.Int j) (λ (q : 1 ≡ 0). absurd (omega (arith, q))) ∙
      is) (register_set task.registers 0 (word.Int j) (omega (arith, shows.size)))
      (behind code task.block task.at _ _ end stands))

-- ---- the loops

module _ (code : Listing) (heartbeat z : ℕ) (act : Activation) (set : Setting) (expr_law : ExprLaw
    code heartbeat) (S : Scene code heartbeat z) (names inner : List (List ℕ)) (lowest : S.lowest ≤
    length names) (room : length names < act.most) (first : take (length names) inner ≡ names) (k :
    meaning.State → Result) where
  pub loop_to_law : (x : Name) (a b : Expr) (body : Vec Stmt Global) (n : ℤ) (again exit : ℕ) (here
      instrs more : List Instr) (last end : Term) → literal b ≡ Some n → InRange n
      → Computes code act S.registers names a 0 here (store (value_cell (length names))
      (value.Reg 0) ∷
      below_test 0 (value.Int n) again)
      → Opens code again (instr.Tick ∷ instrs) last → Opens code exit more end
      → OwedSeen code heartbeat
      z act set.fuel S names more end k
      → ((m : ℤ) (f : meaning.State → Result) → OwedSeen code heartbeat z act set.fuel (inside code
      heartbeat z S (length names) lowest m None) inner (step_up 0 (length names) (below_test 0
      (value.Int n) again)) (to exit) f
      → OwedSeen code heartbeat z act set.fuel
      (inside code heartbeat z S (length names) lowest m None)
      (names ++ x.text.items ∷ []) instrs last (λ st. then (result (run_list set body.items st))
      f))
      → OwedSeen code heartbeat z act set.fuel S names here (to exit)
      (λ st. then (result (run set (Loop
      x a b body) st)) k)
  loop_to_law x a b body n again exit here instrs more last end is_literal in_n c begins ends post
      body_law i st state shows stands =
      subst (λ (r : Ran). (S.owing i (then (result r) k)).Holds state) (sym (run_loop_is set (Loop x
      a b body) x a b body st refl))
      (computes code heartbeat z act set.fuel expr_law S i names st state shows a 0 here (store
      (value_cell (length names)) (value.Reg 0) ∷ below_test 0 (value.Int n) again) (to exit) c
      stands
      (λ m. given b st (λ j. iterate set.fuel x.text.items (run_list set body.items) [] [] (int_gap
      m j) m st)) k
      (λ m in_m words beat at keeps is left_here.
      let one : machine.State = moved state words beat at in
      let shows_one : SeenIn code heartbeat z act set.fuel S i names st one = still_seen code
      heartbeat z act set.fuel S i names st state 0 words beat at shows keeps in
      let K : Back code heartbeat = S.owing i (then (result (iterate set.fuel x.text.items (run_list
      set body.items) [] [] (int_gap m n) m st)) k) in
      let low : state.stack.base ≤ z = low_there code heartbeat z act set.fuel S i names st one
      shows_one in
      let has_room : z + value_cell act.most ≤ state.stack.base + length state.stack.cells =
      room_there code heartbeat z act set.fuel S i names st one shows_one in
      let from : state.stack.base ≤ z + value_cell (length names) = omega (arith, low) in
      let within : z + value_cell (length names) < state.stack.base + length state.stack.cells =
      omega (arith, has_room, room) in
      rw (literal_value st.vars st.tables b n is_literal)
      (stores code heartbeat z act set.fuel K one (value_cell (length names)) (value.Reg 0)
      (below_test 0 (value.Int n) again) (to exit) left_here shows_one.base low has_room
      (omega arith)
      (subst (λ (w : Word). K.Holds (effect.with_stack (advanced one) (with_word state.stack (pos (z
      + value_cell (length names))) w))) (sym is)
      (loop_at code heartbeat z act set S names inner lowest room first k x.text.items body.items 0
      (omega arith) (value.Int n) None n in_n again exit instrs (below_test 0 (value.Int n)
      again) more last end begins ends post body_law
      (λ L w s task mm shows_s held_s is_s stands_s go. go task.registers task.beat task.at shows_s
      is_s refl stands_s)
      (int_gap m n) m i st (effect.with_stack (advanced one) (with_word state.stack (pos (z +
      value_cell (length names))) (word.Int m)))
      (seen_new code heartbeat z act set.fuel S i names st one shows_one (value_cell (length names))
      (word.Int m) (omega arith) lowest)
      (gap_is m n) in_m is refl (word_same state.stack (z + value_cell (length names)) (word.Int m)
      from within) tt
      (behind code state.block at _ (below_test 0 (value.Int n) again) (to exit) left_here))))))

  pub loop_law : (x : Name) (a b : Expr) (body : Vec Stmt Global) (again exit : ℕ) (here second
      instrs more : List Instr) (last end : Term)
      → Computes code act S.registers names a 0 here (store (value_cell (length names))
      (value.Reg 0) ∷ second)
      → Computes code act S.registers names b 0 second (store (bound_cell (length names))
      (value.Reg 0) ∷ load 1
      (value_cell (length names)) ∷ below_test 1 (value.Reg 0) again)
      → Opens code again (instr.Tick ∷ instrs) last → Opens code exit more end
      → OwedSeen code heartbeat
      z act set.fuel S names more end k
      → ((j m : ℤ) (f : meaning.State → Result) → OwedSeen code heartbeat z act set.fuel
      (inside code
      heartbeat z S (length names) lowest m (Some j)) inner (step_up 1 (length names) (load 0
      (bound_cell (length names)) ∷ below_test 1 (value.Reg 0) again)) (to exit) f
      → OwedSeen code heartbeat z act set.fuel (inside code heartbeat z S (length names) lowest m
      (Some
      j)) (names ++ x.text.items ∷ []) instrs last (λ st. then (result (run_list set body.items
      st)) f))
      → OwedSeen code heartbeat z act set.fuel S names here (to exit)
      (λ st. then (result (run set (Loop
      x a b body) st)) k)
  loop_law x a b body again exit here second instrs more last end c d begins ends post body_law i st
      state shows stands =
      subst (λ (r : Ran). (S.owing i (then (result r) k)).Holds state) (sym (run_loop_is set (Loop x
      a b body) x a b body st refl))
      (bounds code heartbeat z act set.fuel expr_law S names lowest room k a b here second
      (below_test 1 (value.Reg 0) again) (to exit) c d (λ m j. iterate set.fuel x.text.items
      (run_list set body.items) [] [] (int_gap m j) m) i st state shows stands
      (λ m j in_m in_j task shows_task is_m is_j cell bound left_here.
      loop_at code heartbeat z act set S names inner lowest room first k x.text.items body.items 1
      (omega arith) (value.Reg 0) (Some j) j in_j again exit instrs (load 0 (bound_cell (length
      names)) ∷ below_test 1 (value.Reg 0) again) more last end begins ends post (body_law j)
      (reloads_bound code heartbeat z act set.fuel S names j (below_test 1 (value.Reg 0) again) (to
      exit))
      (int_gap m j) m i st task shows_task (gap_is m j) in_m is_m is_j cell bound left_here))
