-- The law of `fold`.
use Rattle.std.proofs.Common.{◌≡◌, ℕ, ◌+◌, ◌≤◌, List, ◌∷◌, length, Option, Some, None, Ok, refl}
use Rattle.std.proofs.Common.{sym, ap, subst, ◌∙◌, arith}
use Rattle.std.specs.Prelude.{ℤ, pos, slice_set}
use Rattle.std.proofs.lemmas.List.{length-set}
use Rattle.reduce_ops.specs.Laws.{combine_fits}
use Rattle.reduce_ops.specs.Reduction.{combine}
use Rattle.stack_marks.specs.Stacks.{StackValue, word_at, with_word}
use Rattle.tp_value.specs.declared.Op.{Op}
use Rattle.tp_value.specs.declared.Op.TheVariants as op
use Rattle.loop_syntax.specs.declared.Name.{Name}
use Rattle.loop_syntax.specs.declared.Expr.{Expr}
use Rattle.loop_syntax.specs.declared.Expr.TheVariants.{Var}
use Rattle.loop_syntax.specs.declared.Stmt.TheVariants.{Fold}
use Rattle.loop_rules.specs.Names.{operator_of}
use Rattle.loop_meaning.specs.InRange.{InRange}
use Rattle.loop_meaning.specs.State as meaning
use Rattle.loop_meaning.specs.State.{assign, done, lookup}
use Rattle.loop_meaning.specs.Statements.{Setting, folded, given, run}
use Rattle.loop_meaning.proofs.Ranges.{value_in}
use Rattle.tpal_syntax.specs.declared.instructions.Instr.{Instr}
use Rattle.tpal_syntax.specs.declared.instructions.Instr.TheVariants as instr
use Rattle.tpal_syntax.specs.declared.instructions.Term.{Term}
use Rattle.tpal_syntax.specs.declared.instructions.Value as operands
use Rattle.tpal_syntax.specs.declared.instructions.Value.TheVariants as value
use Rattle.tpal_syntax.specs.declared.words.Word.{Word}
use Rattle.tpal_syntax.specs.declared.words.Word.TheVariants as word
use Rattle.tpal_syntax.specs.Listing.{Listing}
use Rattle.tpal_machine.specs.Calculation.{calculated}
use Rattle.tpal_machine.specs.Effect as effect
use Rattle.tpal_machine.specs.Reading.{register, operand, with_register}
use Rattle.tpal_machine.specs.State as machine
use Rattle.tpal_machine.specs.Step.{advanced}
use Rattle.tpal_machine.proofs.Kit.{Back, on_calc, on_load}
use Rattle.expr_lower.specs.Leaving.{moved}
use Rattle.expr_lower.specs.Standing.{Remains}
use Rattle.expr_lower.proofs.Keeping.{register_set, register_other}
use Rattle.expr_lower.proofs.Standing.{next, behind}
use Rattle.scene_laws.specs.Code.{Computes, Operand, number, standing, computed, IsCell, alu_of}
use Rattle.scene_laws.specs.Code.{store, load}
use Rattle.scene_laws.specs.Layout.{Activation}
use Rattle.scene_laws.specs.Round.{register_for}
use Rattle.scene_laws.proofs.Scenes.Registered.{AreHigh, high_for, none_stands}
use Rattle.scene_laws.proofs.Scenes.Results.{Result, result, then}
use Rattle.scene_laws.proofs.Scenes.Scene.{Scene, SeenIn, OwedSeen, seen}
use Rattle.scene_laws.proofs.Scenes.Showing.{shows_low, shows_assigned, shows_held, shows_stored}
use Rattle.form_laws.proofs.Forms.Simple.{low_there, room_there, stores, still_seen}
use Rattle.scene_laws.proofs.Scenes.Values.{ExprLaw, computes, operand_is, in_range, number_in}
use Rattle.scene_laws.proofs.Scenes.Variables.{held_lookup}

-- the machine combines as the operator does
combines : (o : Op) (a b : ℤ) → calculated (alu_of o) (word.Int a) (word.Int b) ≡ Ok (word.Int (combine o a b))
combines op.Add a b = refl
combines op.Mul a b = refl
combines op.Min a b = refl
combines op.Max a b = refl
combines op.Affine a b = refl

-- an operand isn't in the register above its own
operand_stays : (code : Listing) (act : Activation) (registers : List (ℕ × ℕ))
    (names : List (List ℕ)) (e : Expr) (v : operands.Value) (instrs more : List Instr)
    → AreHigh registers → Operand code act registers names e 0 v instrs more → (words : List Word)
    (w : Word) → operand (slice_set words 1 w) v ≡ operand words v
operand_stays code act registers names e _ _ more high (number is fits) words w = refl
operand_stays code act registers names e _ _ more high
    (standing {cell = cell} {held} is_x c is_held)
    words w =
    register_other words 1 held w
    (λ (q : held ≡ 1). absurd (omega (arith, q, (high_for registers cell held high is_held).0)))
operand_stays code act registers names e _ instrs more high (computed c) words w =
    register_other words 1 0 w (λ (q : 0 ≡ 1). absurd (omega (arith, q)))

module _ (code : Listing) (heartbeat z : ℕ) (act : Activation) (set : Setting)
    (expr_law : ExprLaw code heartbeat) (S : Scene code heartbeat z) (names : List (List ℕ))
    (lowest : S.lowest ≤ length names) (k : meaning.State → Result) where
  -- the number that a variable's cell shows
  before_in : (fixed : List ℕ) (x : List ℕ) (cell : ℕ) → IsCell code act names fixed x cell
      → (i : S.World) (st : meaning.State) (task : machine.State)
      → (shows : SeenIn code heartbeat z act set.fuel S i names st task)
      → word_at (seen code heartbeat z act set.fuel S task.registers task.stack) (pos (z + cell))
      ≡ Some (word.Int (lookup st.vars x))
  before_in fixed x cell is_cell i st task shows =
      let stack : StackValue = seen code heartbeat z act set.fuel S task.registers task.stack in
      ap (λ a. word_at stack (pos (z + a))) is_cell.is
      ∙ held_lookup stack z is_cell.scope.cells.items 0 st.vars x is_cell.sees.laid
      (is_cell.sees.named ∙ sym shows.named) is_cell.inside shows.vars

  pub fold_law : (fixed : List ℕ) (x : Name) (e : Expr) (o : Op) (v : operands.Value) (cell : ℕ)
      (instrs more : List Instr) (end : Term) → operator_of set.reduces x.text.items ≡ Some o
      → (c : IsCell code act names fixed x.text.items cell) → S.may cell
      → register_for S.registers cell ≡ None
      → Operand code act S.registers names e 0 v instrs
      (load 1 cell ∷ instr.Calc 1 1 (alu_of o) v ∷ store cell (value.Reg 1) ∷ more)
      → OwedSeen code heartbeat z act set.fuel S names more end k
      → OwedSeen code heartbeat z act set.fuel S names instrs end
      (λ st. then (result (run set (Fold x e) st)) k)
  fold_law fixed x e o v cell instrs more end is_op is_cell may none c post i st state shows
      stands =
      subst (λ (p : Option Op).
      (S.owing i (then (result (given e st
      (λ n. done (record st { vars = folded p st.vars x.text.items n })))) k)).Holds state)
      (sym is_op)
      (operand_is code heartbeat z act set.fuel expr_law S i names st state shows e 0 v instrs
      (load 1 cell ∷ instr.Calc 1 1 (alu_of o) v ∷ store cell (value.Reg 1) ∷ more) end c stands
      (λ n. done (record st { vars = folded (Some o) st.vars x.text.items n })) k
      (λ n in_n words beat at keeps is here.
      folds n in_n (moved state words beat at)
      (still_seen code heartbeat z act set.fuel S i names st state 0 words beat at shows keeps) is
      here))
    where
      before : ℤ
      before = lookup st.vars x.text.items

      folds : (n : ℤ) → InRange n → (task : machine.State)
          → SeenIn code heartbeat z act set.fuel S i names st task
          → operand task.registers v ≡ word.Int n
          → Remains code task.block task.at
          (load 1 cell ∷ instr.Calc 1 1 (alu_of o) v ∷ store cell (value.Reg 1) ∷ more) end
          → (S.owing i (k (record st {
            vars = assign st.vars x.text.items (combine o before n);
          }))).Holds
          task
      folds n in_n task shows_task is left =
          let m : ℤ = combine o before n in
          let K : Back code heartbeat =
          S.owing i (k (record st { vars = assign st.vars x.text.items m })) in
          let low : task.stack.base ≤ z =
          low_there code heartbeat z act set.fuel S i names st task shows_task in
          let held : word_at task.stack (pos (z + cell)) ≡ Some (word.Int before) =
          number_in code heartbeat z act set.fuel S i names st task shows_task None cell before
          none (before_in fixed x.text.items cell is_cell i st task shows_task) in
          let in_before : InRange before =
          value_in st (in_range code heartbeat z act set.fuel S i names st task shows_task) (Var x)
          tt before refl in
          let one : machine.State = with_register (advanced task) 1 (word.Int before) in
          let words : List Word = slice_set task.registers 1 (word.Int before) in
          let two : machine.State = with_register (advanced one) 1 (word.Int m) in
          let words2 : List Word = slice_set words 1 (word.Int m) in
          let size : length words ≡ 32 = length-set task.registers 1 (word.Int before) ∙ shows_task.size in
          let size2 : length words2 ≡ length task.registers =
          length-set words 1 (word.Int m) ∙ length-set task.registers 1 (word.Int before) in
          let above : (r : ℕ) → 24 ≤ r → register words2 r ≡ register task.registers r =
          λ r from.
          register_other words 1 r (word.Int m) (λ (q : r ≡ 1). absurd (omega (arith, q, from)))
          ∙ register_other task.registers 1 r (word.Int before)
          (λ (q : r ≡ 1). absurd (omega (arith, q, from))) in
          let base : register words2 31 ≡ word.Int (pos z) =
          above 31 (omega arith) ∙ shows_task.base in
          let is_m : register words2 1 ≡ word.Int m = register_set words 1 (word.Int m) (omega (arith, size)) in
          let is_before : register words 1 ≡ word.Int before =
          register_set task.registers 1 (word.Int before) (omega (arith, shows_task.size)) in
          let is_n : operand words v ≡ word.Int n =
          operand_stays code act S.registers names e v instrs _ S.high c task.registers
          (word.Int before) ∙ is in
          let gives : calculated (alu_of o) (register words 1) (operand words v) ≡ Ok (word.Int m) =
          ap (λ w. calculated (alu_of o) w (operand words v)) is_before
          ∙ (ap (λ w. calculated (alu_of o) (word.Int before) w) is_n ∙ combines o before n) in
          let second : Remains code task.block (task.at + 1)
          (instr.Calc 1 1 (alu_of o) v ∷ store cell (value.Reg 1) ∷ more) end =
          behind code task.block task.at _ _ end left in
          let third : Remains code task.block (task.at + 1 + 1) (store cell (value.Reg 1) ∷ more)
          end =
          behind code task.block (task.at + 1) _ _ end second in
          let shows_two : SeenIn code heartbeat z act set.fuel S i names st two =
          shows_low code heartbeat z act set.fuel S i task.stack shows_task words2 size2 above in
          on_load code heartbeat K task 1 31 cell (pos z) (word.Int before)
          (next code task _ _ end left) shows_task.base held
          (on_calc code heartbeat K one 1 1 (alu_of o) v (word.Int m) (next code one _ _ end second) gives
          (stores code heartbeat z act set.fuel K two cell (value.Reg 1) more end third base low
          (room_there code heartbeat z act set.fuel S i names st task shows_task)
          (omega (arith, is_cell.at_level, is_cell.below))
          (subst (λ (w : Word).
          K.Holds (effect.with_stack (advanced two) (with_word task.stack (pos (z + cell)) w)))
          (sym is_m)
          (post i (record st { vars = assign st.vars x.text.items m })
          (effect.with_stack (advanced two) (with_word task.stack (pos (z + cell)) (word.Int m)))
          (shows_stored code heartbeat z act set.fuel S i task.stack cell (word.Int m) low
          (none_stands S.registers cell none)
          (shows_assigned code heartbeat z act set.fuel S i shows_two fixed x.text.items cell m
          is_cell
          may lowest (combine_fits o before n in_before in_n)))
          (behind code task.block (task.at + 1 + 1) _ more end third)))))

  -- the same, where a register stands for the variable's cell
  pub fold_register_law : (fixed : List ℕ) (x : Name) (e : Expr) (o : Op) (v : operands.Value)
      (cell held : ℕ) (instrs more : List Instr) (end : Term)
      → operator_of set.reduces x.text.items ≡ Some o
      → (c : IsCell code act names fixed x.text.items cell) → S.may cell
      → register_for S.registers cell ≡ Some held
      → Operand code act S.registers names e 0 v instrs (instr.Calc held held (alu_of o) v ∷ more)
      → OwedSeen code heartbeat z act set.fuel S names more end k
      → OwedSeen code heartbeat z act set.fuel S names instrs end
      (λ st. then (result (run set (Fold x e) st)) k)
  fold_register_law fixed x e o v cell held instrs more end is_op is_cell may is_held c post i st
      state shows stands =
      subst (λ (p : Option Op).
      (S.owing i (then (result (given e st
      (λ n. done (record st { vars = folded p st.vars x.text.items n })))) k)).Holds state)
      (sym is_op)
      (operand_is code heartbeat z act set.fuel expr_law S i names st state shows e 0 v instrs
      (instr.Calc held held (alu_of o) v ∷ more) end c stands
      (λ n. done (record st { vars = folded (Some o) st.vars x.text.items n })) k
      (λ n in_n words beat at keeps is here.
      let task : machine.State = moved state words beat at in
      let shows_task : SeenIn code heartbeat z act set.fuel S i names st task =
      still_seen code heartbeat z act set.fuel S i names st state 0 words beat at shows keeps in
      let before : ℤ = lookup st.vars x.text.items in
      let m : ℤ = combine o before n in
      let low : state.stack.base ≤ z =
      low_there code heartbeat z act set.fuel S i names st task shows_task in
      let there =
      number_in code heartbeat z act set.fuel S i names st task shows_task (Some held) cell before
      is_held (before_in fixed x.text.items cell is_cell i st task shows_task) in
      let in_before : InRange before =
      value_in st (in_range code heartbeat z act set.fuel S i names st task shows_task) (Var x) tt
      before refl in
      let gives : calculated (alu_of o) (register words held) (operand words v) ≡ Ok (word.Int m) =
      ap (λ w. calculated (alu_of o) w (operand words v)) there.2
      ∙ (ap (λ w. calculated (alu_of o) (word.Int before) w) is ∙ combines o before n) in
      on_calc code heartbeat (S.owing i (k (record st { vars = assign st.vars x.text.items m })))
      task
      held held (alu_of o) v (word.Int m) (next code task _ _ end here) gives
      (post i (record st { vars = assign st.vars x.text.items m })
      (with_register (advanced task) held (word.Int m))
      (shows_held code heartbeat z act set.fuel S i state.stack cell held (word.Int m) is_held low
      (omega (arith, shows_task.size, there.1))
      (λ (q : held ≡ 31). absurd (omega (arith, q, there.1)))
      (shows_assigned code heartbeat z act set.fuel S i shows_task fixed x.text.items cell m is_cell
      may
      lowest (combine_fits o before n in_before in_n)))
      (behind code state.block at (instr.Calc held held (alu_of o) v) more end here))))

  -- no fold, where the variable is not reduced
  pub fold_nothing_law : (x : Name) (e : Expr) (instrs more : List Instr) (end : Term)
      → operator_of set.reduces x.text.items ≡ None → Computes code act S.registers names e 0 instrs
      more
      → OwedSeen code heartbeat z act set.fuel S names more end k
      → OwedSeen code heartbeat z act set.fuel S names instrs end
      (λ st. then (result (run set (Fold x e) st)) k)
  fold_nothing_law x e instrs more end is_none c post i st state shows stands =
      subst (λ (p : Option Op). (S.owing i (then (result (given e st (λ n. done (record st { vars = folded p st.vars x.text.items n })))) k)).Holds state) (sym is_none)
      (computes code heartbeat z act set.fuel expr_law S i names st state shows e 0 instrs more end c stands (λ n. done st) k
      (λ n in_n words beat at keeps is here.
      post i st (moved state words beat at) (still_seen code heartbeat z act set.fuel S i names st
      state 0 words beat at shows keeps) here))
