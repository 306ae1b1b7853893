-- The law of the code of arguments, which leaves the numbers of expressions in cells.
use Rattle.std.proofs.Common.{◌≡◌, ◌≢◌, ℕ, zero, suc, ◌+◌, ◌<◌, ◌≤◌, List, [], ◌∷◌, length, None, Some}
use Rattle.std.proofs.Common.{refl, sym, ap, subst, ◌∙◌, arith}
use Rattle.std.specs.Prelude.{ℤ, pos, ⊤, slice_set}
use Rattle.std.proofs.lemmas.List.{length-set}
use Rattle.stack_marks.specs.Stacks.{StackValue, word_at, with_word}
use Rattle.loop_syntax.specs.declared.Name.{Name}
use Rattle.loop_syntax.specs.declared.Expr.{Expr}
use Rattle.loop_rules.specs.Names.{texts}
use Rattle.loop_meaning.specs.Calls.{bound}
use Rattle.loop_meaning.specs.InRange.{InRange}
use Rattle.loop_meaning.specs.State as meaning
use Rattle.loop_meaning.specs.State.{Ran}
use Rattle.loop_meaning.specs.Statements.{given_all}
use Rattle.tpal_syntax.specs.declared.instructions.Instr.{Instr}
use Rattle.tpal_syntax.specs.declared.instructions.Term.{Term}
use Rattle.tpal_syntax.specs.declared.instructions.Value as operands
use Rattle.tpal_syntax.specs.declared.instructions.Value.TheVariants as value
use Rattle.tpal_syntax.specs.declared.words.Word.{Word}
use Rattle.tpal_syntax.specs.declared.words.Word.TheVariants as word
use Rattle.tpal_syntax.specs.Listing.{Listing}
use Rattle.tpal_machine.specs.Effect as effect
use Rattle.tpal_machine.specs.Reading.{register, operand, with_register}
use Rattle.tpal_machine.specs.State as machine
use Rattle.tpal_machine.specs.Step.{advanced}
use Rattle.tpal_machine.proofs.Kit.{Back, on_load}
use Rattle.expr_lower.specs.Leaving.{moved}
use Rattle.expr_lower.specs.Standing.{Remains}
use Rattle.expr_lower.proofs.Keeping.{register_set, register_other}
use Rattle.expr_lower.proofs.Standing.{next, behind}
use Rattle.handler_gen.proofs.Words.{word_same, word_other}
use Rattle.scene_laws.specs.Code.{Computes, Operand, number, standing, computed, Arguments}
use Rattle.scene_laws.specs.Code.{no_argument}
use Rattle.scene_laws.specs.Code.{one_argument, parameter_cell, passed, store}
use Rattle.scene_laws.specs.Layout.{value_cell, Activation, kept_argument}
use Rattle.scene_laws.proofs.Scenes.Results.{Result, result, then}
use Rattle.scene_laws.proofs.Scenes.Scene.{Scene, ShowsIn}
use Rattle.scene_laws.proofs.Scenes.Showing.{shows_words, shows_new}
use Rattle.form_laws.proofs.Forms.Simple.{stores_in, still_shows}
use Rattle.scene_laws.proofs.Scenes.Values.{ExprLaw, operand_is_bare}
use Rattle.scene_laws.proofs.Scenes.Variables.{AreHeld, var_names}

-- ---- numbers in cells

-- each number, from the one with a number on, is in its cell
abbrev pub AreIn : StackValue → ℕ → (ℕ → ℕ) → ℕ → List ℤ → Type 0
AreIn s z cell i [] = ⊤
AreIn s z cell i (n ∷ ns) = (word_at s (pos (z + cell i)) ≡ Some (word.Int n)) × InRange n × AreIn s z cell (suc i) ns

-- where the cells are as before
pub are_in_same : (s t : StackValue) (z : ℕ) (cell : ℕ → ℕ) (i : ℕ) (ns : List ℤ) → ((j : ℕ) → i ≤ j → j < i + length ns → word_at t (pos (z + cell j)) ≡ word_at s (pos (z + cell j))) → AreIn s z cell i ns → AreIn t z cell i ns
are_in_same s t z cell i [] same h = tt
are_in_same s t z cell i (n ∷ ns) same h = (same i (omega arith) (omega arith) ∙ h.0, h.1, are_in_same s t z cell (suc i) ns (λ j low high. same j (omega (arith, low)) (omega (arith, high))) h.2)

-- numbers in the cells of variables are those of parameters
pub held_bound : (s : StackValue) (z size i : ℕ) (xs : List Name) (ns : List ℤ) → AreIn s z (λ j. size + value_cell j) i ns → AreHeld s (z + size) i (bound xs ns)
held_bound s z size i [] ns h = tt
held_bound s z size i (x ∷ xs) [] h = tt
held_bound s z size i (x ∷ xs) (n ∷ ns) h =
    let same : z + size + value_cell i ≡ z + (size + value_cell i) = omega arith in
    (ap (λ a. word_at s (pos a)) same ∙ h.0, h.1, held_bound s z size (suc i) xs ns h.2)

pub names_bound : (xs : List Name) (ns : List ℤ) → length ns ≡ length xs → var_names (bound xs ns) ≡ texts xs
names_bound [] ns many = refl
names_bound (x ∷ xs) [] many = absurd (omega (arith, many))
names_bound (x ∷ xs) (n ∷ ns) many = ap (λ us. x.text.items ∷ us) (names_bound xs ns (omega (arith, many)))

-- numbers were stored to their cells, and nothing else
pub record Stored (z : ℕ) (cell : ℕ → ℕ) (i : ℕ) (ns : List ℤ) (s t : StackValue) : Type 0 where
  pub are : AreIn t z cell i ns
  pub others : (a : ℕ) → ((j : ℕ) → i ≤ j → j < i + length ns → a ≢ z + cell j) → word_at t (pos a) ≡ word_at s (pos a)

none_stored : (z : ℕ) (cell : ℕ → ℕ) (i : ℕ) (s : StackValue) → Stored z cell i [] s s
none_stored z cell i s = record { are = tt; others = λ a ne. refl }

abbrev pub Rises : (ℕ → ℕ) → Type 0
Rises cell = (p q : ℕ) → p < q → cell p < cell q

one_stored : (z : ℕ) (cell : ℕ → ℕ) (i : ℕ) (n : ℤ) (ns : List ℤ) (s t : StackValue) → Rises cell → InRange n → s.base ≤ z + cell i → z + cell i < s.base + length s.cells → Stored z cell (suc i) ns (with_word s (pos (z + cell i)) (word.Int n)) t → Stored z cell i (n ∷ ns) s t
one_stored z cell i n ns s t rises fits from inside stored = record {
  are = (stored.others (z + cell i) (λ j low high q. absurd (omega (arith, q, rises i j (omega (arith, low))))) ∙ word_same s (z + cell i) (word.Int n) from inside, fits, stored.are);
  others = λ a ne. stored.others a (λ j low high. ne j (omega (arith, low)) (omega (arith, high))) ∙ word_other s (z + cell i) a (word.Int n) from (ne i (omega arith) (omega arith));
}

-- ---- an activation that has more cells on top

-- the same activation, with so many cells more
abbrev pub wider : Activation → ℕ → Activation
wider act n = record act { size = act.size + n }

computes_wider : (code : Listing) (act : Activation) (n : ℕ) (names : List (List ℕ)) (e : Expr)
    (r : ℕ) (instrs more : List Instr) → Computes code act [] names e r instrs more
    → Computes code (wider act n) [] names e r instrs more
computes_wider code act n names e r instrs more c = record {
  scope = c.scope;
  sees = c.sees;
  kept = c.kept;
  inside = c.inside;
  low = c.low;
  ranged = c.ranged;
  first = c.first;
  body = c.body;
  traps = c.traps;
}

operand_wider : (code : Listing) (act : Activation) (n : ℕ) (names : List (List ℕ)) (e : Expr)
    (r : ℕ) (v : operands.Value) (instrs more : List Instr) → Operand code act [] names e r v instrs
    more → Operand code (wider act n) [] names e r v instrs more
operand_wider code act n names e r _ _ more (number is fits) = number is fits
operand_wider code act n names e r _ _ more (standing is_x c is_held) =
    let wrong : None ≡ Some _ = is_held in cc
operand_wider code act n names e r _ instrs more (computed c) = computed (computes_wider code act n names e r instrs more c)

-- ---- the laws

module _ (code : Listing) (heartbeat z : ℕ) (act : Activation) (n fuel : ℕ)
    (S : Scene code heartbeat z) (i : S.World) (names : List (List ℕ))
    (lowest : S.lowest ≤ length names) (st : meaning.State) where
  abbrev Showing : machine.State → Type 0
  Showing task = ShowsIn code heartbeat z (wider act n) fuel S i names st task

  -- a number in register 0 or a literal is stored
  stores_number : (K : Back code heartbeat) (state : machine.State) (cell : ℕ) (v : operands.Value) (m : ℤ) (more : List Instr) (end : Term) → Showing state → operand state.registers v ≡ word.Int m → value_cell (length names) ≤ cell → cell < act.size + n
      → Remains code state.block state.at (store cell v ∷ more) end
      → (Showing (effect.with_stack (advanced state) (with_word state.stack (pos (z + cell)) (word.Int m))) → Remains code state.block (state.at + 1) more end → K.Holds (effect.with_stack (advanced state) (with_word state.stack (pos (z + cell)) (word.Int m))))
      → K.Holds state
  stores_number K state cell v m more end shows is above inside stands holds =
      stores_in code heartbeat z (wider act n) fuel K state cell v more end stands shows.base shows.low (omega (arith, shows.top, inside))
      (subst (λ (w : Word). K.Holds (effect.with_stack (advanced state) (with_word state.stack (pos (z + cell)) w))) (sym is)
      (holds (shows_new code heartbeat z (wider act n) fuel S i shows cell (word.Int m) above lowest) (behind code state.block state.at (store cell v) more end stands)))

  pub arguments_law : S.registers ≡ [] → (expr_law : ExprLaw code heartbeat) {cell : ℕ → ℕ} {j : ℕ}
      {es : List Expr} {instrs more : List Instr} → Arguments code act names cell j es instrs more → Rises cell → value_cell (length names) ≤ cell 0 → ((p : ℕ) → p < j + length es → cell p < act.size + n)
      → (end : Term) (state : machine.State) → Showing state → Remains code state.block state.at instrs end → (f : List ℤ → Ran) (k : meaning.State → Result)
      → ((ns : List ℤ) (task : machine.State) → length ns ≡ length es → Showing task → Stored z cell j ns state.stack task.stack → Remains code task.block task.at more end → (S.owing i (then (result (f ns)) k)).Holds task)
      → (S.owing i (then (result (given_all es st f)) k)).Holds state
  arguments_law bare expr_law {cell} (no_argument {i = j}) rises above inside end state shows stands f k go = go [] state refl shows (none_stored z cell j state.stack) stands
  arguments_law bare expr_law {cell} (one_argument {i = j} {e = e} {es = es} {v = v} {second = second} {more = more} c rest) rises above inside end state shows stands f k go =
      operand_is_bare code heartbeat z (wider act n) fuel expr_law S bare i names st state shows e 0
      v _ (store (cell j) v ∷ second) end (operand_wider code act n names e 0 v _
      (store (cell j) v ∷ second) c) stands (λ m. given_all es st (λ ns. f (m ∷ ns))) k
      (λ m fits words beat at keeps is here.
      let K : Back code heartbeat = S.owing i (then (result (given_all es st (λ ns. f (m ∷ ns)))) k) in
      let one : machine.State = moved state words beat at in
      let shows_one : Showing one = still_shows code heartbeat z (wider act n) fuel S i names st state 0 words beat at shows keeps in
      let higher : value_cell (length names) ≤ cell j = go_up j in
      let within : cell j < act.size + n = inside j (omega arith) in
      stores_number K one (cell j) v m second end shows_one is higher within here (λ shows_two left_two.
      arguments_law bare expr_law rest rises above (λ p low. inside p (omega (arith, low))) end (effect.with_stack (advanced one) (with_word state.stack (pos (z + cell j)) (word.Int m))) shows_two left_two (λ ns. f (m ∷ ns)) k
      (λ ns task many shows_task stored left.
      go (m ∷ ns) task (ap suc many) shows_task (one_stored z cell j m ns state.stack task.stack rises fits (omega (arith, shows_one.low)) (omega (arith, shows_one.top, within)) stored) left)))
    where
      go_up : (p : ℕ) → value_cell (length names) ≤ cell p
      go_up zero = above
      go_up (suc p) = omega (arith, above, rises 0 (suc p) (omega arith))

  -- numbers that are kept become arguments
  pub passed_law : (K : Back code heartbeat) (ns : List ℤ) (j : ℕ) (more : List Instr) (end : Term) (state : machine.State) → Showing state → Remains code state.block state.at (passed code act (length ns) j more) end
      → value_cell (length names) ≤ act.size → AreIn state.stack z (kept_argument act) j ns → ((p : ℕ) → p < j + length ns → kept_argument act p < act.size) → ((p : ℕ) → p < j + length ns → value_cell p < n)
      → ((task : machine.State) → Showing task → Stored z (parameter_cell code act) j ns state.stack task.stack → Remains code task.block task.at more end → K.Holds task)
      → K.Holds state
  passed_law K [] j more end state shows stands above are below inside go = go state shows (none_stored z (parameter_cell code act) j state.stack) stands
  passed_law K (m ∷ ns) j more end state shows stands above are below inside go =
      on_load code heartbeat K state 0 31 (kept_argument act j) (pos z) (word.Int m) (next code state _ _ end stands) shows.base are.0
      (stores_number K one (parameter_cell code act j) (value.Reg 0) m (passed code act (length ns) (suc j) more) end shows_one is (omega (arith, above)) within (behind code state.block state.at _ _ end stands) (λ shows_two left_two.
      passed_law K ns (suc j) more end (effect.with_stack (advanced one) stack) shows_two left_two above
      (are_in_same state.stack stack z (kept_argument act) (suc j) ns (λ p low high. word_other state.stack (z + parameter_cell code act j) (z + kept_argument act p) (word.Int m) (omega (arith, shows.low)) (λ q. absurd (omega (arith, q, below p (omega (arith, high)))))) are.2)
      (λ p low. below p (omega (arith, low))) (λ p low. inside p (omega (arith, low)))
      (λ task shows_task stored left.
      go task shows_task (one_stored z (parameter_cell code act) j m ns state.stack task.stack (λ p q lt. omega (arith, lt)) are.1 (omega (arith, shows.low)) (omega (arith, shows.top, within)) stored) left)))
    where
      one : machine.State
      one = with_register (advanced state) 0 (word.Int m)

      stack : StackValue
      stack = with_word state.stack (pos (z + parameter_cell code act j)) (word.Int m)

      within : parameter_cell code act j < act.size + n
      within = omega (arith, inside j (omega arith))

      is : register (slice_set state.registers 0 (word.Int m)) 0 ≡ word.Int m
      is = register_set state.registers 0 (word.Int m) (omega (arith, shows.size))

      shows_one : Showing one
      shows_one = shows_words code heartbeat z (wider act n) fuel S i shows (slice_set state.registers 0 (word.Int m)) (length-set state.registers 0 (word.Int m)) (register_other state.registers 0 31 (word.Int m) (λ (q : 31 ≡ 0). absurd (omega (arith, q))))
