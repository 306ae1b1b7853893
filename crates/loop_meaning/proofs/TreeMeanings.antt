-- The run of a program, its meaning and its chances, by its tree alone.
use Rattle.std.proofs.Common.{◌≡◌, ◌∷◌, [], ℕ, zero, suc, ◌+◌, ◌*◌, ℤ, pos, Bool, true, false, cond}
use Rattle.std.proofs.Common.{List, map, Option, Some, None, bytes_eq, refl, sym, ap, ◌∙◌}
use mathlib.Core.Path.{fun_ext}
use Rattle.std.specs.Prelude.{◌-ℤ◌, ◌-◌, unsigned_abs, option_map, replicate}
use Rattle.std.specs.Int.{int_gap}
use Rattle.tp_value.specs.Number.{wrapped}
use Rattle.tp_value.specs.declared.limits.TheConstants.{MAX_CALL_DEPTH}
use Rattle.tp_value.specs.declared.values.Op.{Op}
use Rattle.tp_value.specs.declared.values.Place.{Place}
use Rattle.tp_value.specs.declared.values.Table.{Table}
use Rattle.tp_value.specs.declared.values.TrapKind.TheVariants.{Index, Deep}
use Rattle.loop_syntax.specs.declared.expression.Name.{Name}
use Rattle.loop_syntax.specs.declared.expression.Expr.{Expr}
use Rattle.loop_syntax.specs.declared.expression.Expr.TheVariants.{Int, Var, Cell', Rows, Cols}
use Rattle.loop_syntax.specs.declared.expression.Expr.TheVariants.{Neg', Bin'}
use Rattle.loop_syntax.specs.declared.statement.Reduce.{Reduce}
use Rattle.loop_syntax.specs.declared.statement.Stmt.{Stmt, Row_of-Stmt, end_of-Stmt, more_of-Stmt}
use Rattle.loop_syntax.specs.declared.statement.Stmt.TheVariants.{Let, Set, Put, If', While', Loop'}
use Rattle.loop_syntax.specs.declared.statement.Stmt.TheVariants.{Par', Fold, Call, Both, Print}
use Rattle.loop_syntax.specs.declared.statement.Stmt.TheVariants.{Emit, Leave, Fill}
use Rattle.loop_syntax.specs.declared.program.Func.{Func}
use Rattle.loop_syntax.specs.declared.program.Program.{Program}
use Rattle.loop_syntax.specs.declared.program.TableDecl.{TableDecl}
use Rattle.loop_syntax.specs.declared.program.TableDecl.TheVariants.{Input, Made}
use Rattle.loop_syntax.specs.Tree.{Spelled, spelled, Tree, TInt, TVar, TCell, TRows, TCols, TNeg}
use Rattle.loop_syntax.specs.Tree.{TBin, tree_of, ReduceTree, reduce_of, AppTree, app_of, ParHead}
use Rattle.loop_syntax.specs.Tree.{Node, NLet, NSet, NPut, NIf, NWhile, NLoop, NPar, NFold, NCall}
use Rattle.loop_syntax.specs.Tree.{NBoth, NPrint, NEmit, NLeave, NFill, Nodes, Last, Then, node_of}
use Rattle.loop_syntax.specs.Tree.{nodes_of}
use Rattle.loop_syntax.specs.Tree.{TableTree, TInput, TMade, FuncTree, ProgramTree, program_of}
use Rattle.loop_syntax.specs.Tree as trees
use Rattle.loop_rules.specs.Names.{func_of, operator_of}
use Rattle.loop_rules.proofs.TreeNodes.{node_rows, rows_of, row_nodes}
use Rattle.loop_meaning.specs.declared.value.Answer.TheVariants.{Number}
use Rattle.loop_meaning.specs.declared.value.Variable.{Variable}
use Rattle.loop_meaning.specs.Calls.{bound, number_in, returned, enter, no_value, call_on, call_at}
use Rattle.loop_meaning.specs.Calls.{setting}
use Rattle.loop_meaning.specs.Expressions.{Value, number, traps, bind, calculated, eval}
use Rattle.loop_meaning.specs.Meaning.{cell_count, input_cells, is_too_large, zero_table, add_table}
use Rattle.loop_meaning.specs.Meaning.{unless_large, make_tables, first_state, whole_run}
use Rattle.loop_meaning.specs.Meaning.{outcome_of, meaning, count_chances, chances}
use Rattle.loop_meaning.specs.State.{lookup, assign, declare, table_of, has_cell, cell_of}
use Rattle.loop_meaning.specs.State.{write_cell, print_line, print_table, State, Note, Reads}
use Rattle.loop_meaning.specs.State.{Writes, Emits, Chance, Ran, done, trapped, out_of_fuel, noted}
use Rattle.loop_meaning.specs.State.{left_with, after, tick}
use Rattle.loop_meaning.specs.Leaving.{or_else, left_of, left_in, caught}
use Rattle.loop_meaning.specs.Statements.{given_answer, given, given_two, given_all, folded, choose}
use Rattle.loop_meaning.specs.Statements.{block, turns, iterate, unless_wide, too_wide, Called}
use Rattle.loop_meaning.specs.Statements.{with_call, Setting, two_calls, run, run_all, run_list}

-- ---- expressions

abbrev read_tree : List Table → Spelled → ℤ → ℤ → Value
read_tree ts t i j =
    elim (has_cell (table_of ts t.text) i j) [
      | true ↦ record { answer = Number (cell_of (table_of ts t.text) i j); notes = Reads t.text i j ∷ [] }
      | false ↦ traps Index t.place
    ]

abbrev eval_tree : List Variable → List Table → Tree → Value
eval_tree vs ts (TInt n place) = number n
eval_tree vs ts (TVar x) = number (lookup vs x.text)
eval_tree vs ts (TCell t a b) = bind (eval_tree vs ts a) (λ i. bind (eval_tree vs ts b) (λ j. read_tree ts t i j))
eval_tree vs ts (TRows t) = number (pos (table_of ts t.text).rows)
eval_tree vs ts (TCols t) = number (pos (table_of ts t.text).cols)
eval_tree vs ts (TNeg a place) = bind (eval_tree vs ts a) (λ n. number (wrapped (pos 0 -ℤ n)))
eval_tree vs ts (TBin o place a b) = bind (eval_tree vs ts a) (λ m. bind (eval_tree vs ts b) (λ n. calculated o place m n))

eval_same : (vs : List Variable) (ts : List Table) (e : Expr) → eval vs ts e ≡ eval_tree vs ts (tree_of e)
eval_same vs ts (Int n place) = refl
eval_same vs ts (Var x) = refl
eval_same vs ts (Cell' t p a q b) =
    ap (λ v. bind v (λ i. bind (eval vs ts b) (λ j. read_tree ts (spelled t) i j))) (eval_same vs ts a)
    ∙ ap (λ v. bind (eval_tree vs ts (tree_of a)) (λ i. bind v (λ j. read_tree ts (spelled t) i j))) (eval_same vs ts b)
eval_same vs ts (Rows t) = refl
eval_same vs ts (Cols t) = refl
eval_same vs ts (Neg' p a place) = ap (λ v. bind v (λ n. number (wrapped (pos 0 -ℤ n)))) (eval_same vs ts a)
eval_same vs ts (Bin' o place p a q b) =
    ap (λ v. bind v (λ m. bind (eval vs ts b) (λ n. calculated o place m n))) (eval_same vs ts a)
    ∙ ap (λ v. bind (eval_tree vs ts (tree_of a)) (λ m. bind v (λ n. calculated o place m n))) (eval_same vs ts b)

abbrev given_tree : Tree → State → (ℤ → Ran) → Ran
given_tree e s go = let v : Value = eval_tree s.vars s.tables e in given_answer v.answer v.notes s go

given_same : (e : Expr) (s : State) (go : ℤ → Ran) → given e s go ≡ given_tree (tree_of e) s go
given_same e s go = ap (λ (v : Value). given_answer v.answer v.notes s go) (eval_same s.vars s.tables e)

abbrev given_two_trees : Tree → Tree → State → (ℤ → ℤ → Ran) → Ran
given_two_trees a b s go = given_tree a s (λ m. given_tree b s (λ n. go m n))

given_two_same : (a b : Expr) (s : State) (go : ℤ → ℤ → Ran) → given_two a b s go ≡ given_two_trees (tree_of a) (tree_of b) s go
given_two_same a b s go = given_same a s _ ∙ ap (λ (v : Value). given_tree (tree_of a) s (λ m. given_answer v.answer v.notes s (λ n. go m n))) (eval_same s.vars s.tables b)

abbrev given_trees : List Tree → State → (List ℤ → Ran) → Ran
given_trees [] s go = go []
given_trees (e ∷ es) s go = given_tree e s (λ n. given_trees es s (λ ns. go (n ∷ ns)))

given_all_same : (es : List Expr) (s : State) (go : List ℤ → Ran) → given_all es s go ≡ given_trees (map tree_of es) s go
given_all_same [] s go = refl
given_all_same (e ∷ es) s go =
    given_same e s _ ∙ ap (λ f. given_tree (tree_of e) s f) (fun_ext (λ n. given_all_same es s (λ ns. go (n ∷ ns))))

-- ---- statements

abbrev set_tree : Spelled → ℤ → State → State
set_tree x n s = record s { vars = assign s.vars x.text n }

abbrev put_tree : Spelled → ℤ → ℤ → ℤ → State → Ran
put_tree t i j v s =
    elim (has_cell (table_of s.tables t.text) i j) [
      | true ↦ noted (Writes t.text i j ∷ []) (done (record s { tables = write_cell s.tables t.text i j v }))
      | false ↦ trapped Index t.place s
    ]

unfoldable turns_tree : ℕ → ℕ → Tree → (State → Ran) → State → Ran
turns_tree zero fuel e body s = out_of_fuel s
turns_tree (suc n) fuel e body s =
    given_tree e s (λ v. choose v (λ t. after (after (tick fuel t) body) (turns_tree n fuel e body)) done s)

turns_same : (n fuel : ℕ) (e : Expr) (body : State → Ran) (s : State) → turns n fuel e body s ≡ turns_tree n fuel (tree_of e) body s
unfolding turns turns_tree
turns_same zero fuel e body s = refl
turns_same (suc n) fuel e body s =
    given_same e s _
    ∙ ap (λ (f : State → Ran). given_tree (tree_of e) s (λ v. choose v (λ t. after (after (tick fuel t) body) f) done s)) (fun_ext (turns_same n fuel e body))

-- what a statement needs to know, with the reduce list as trees
record TreeSetting : Type 0 where
  reduces : List ReduceTree
  fuel : ℕ
  call : List ℕ → Place → List ℤ → List Note → State → Called

abbrev setting_tree : Setting → TreeSetting
setting_tree k = record { reduces = map reduce_of k.reduces; fuel = k.fuel; call = k.call }

abbrev operator_tree : List ReduceTree → List ℕ → Option Op
operator_tree [] x = None
operator_tree (r ∷ rs) x = cond (bytes_eq r.target.text x) (Some r.op) (operator_tree rs x)

operator_same : (rs : List Reduce) (x : List ℕ) → operator_of rs x ≡ operator_tree (map reduce_of rs) x
operator_same [] x = refl
operator_same (r ∷ rs) x = ap (λ o. cond (bytes_eq r.target.text.items x) (Some r.op) o) (operator_same rs x)

abbrev call_tree : TreeSetting → Spelled → AppTree → State → Ran
call_tree k x f s = given_trees f.args s (λ ns. with_call (k.call f.callee.text f.callee.place ns [] s) (λ v t. done (set_tree x v t)))

abbrev both_tree : TreeSetting → Spelled → AppTree → Spelled → AppTree → State → Ran
both_tree k x f y g s =
    given_trees f.args s (λ ns. given_trees g.args s (λ ms.
    with_call (k.call f.callee.text f.callee.place ns (Chance ∷ []) s) (λ v t.
    with_call (k.call g.callee.text g.callee.place ms [] t) (λ w u. done (set_tree y w (set_tree x v u))))))

abbrev mutual
  left_tree : Node → Option (List ℕ)
  left_tree (NLeave x e) = Some x.text
  left_tree (NIf e body other) = or_else (left_nodes body) (left_nodes other)
  left_tree (NWhile e body) = left_nodes body
  left_tree (NLoop x a b body) = left_nodes body
  left_tree _ = None

  left_nodes : Nodes → Option (List ℕ)
  left_nodes Last = None
  left_nodes (Then n ns) = or_else (left_tree n) (left_nodes ns)

mutual
  left_same : (t : Stmt) → left_of t ≡ left_tree (node_rows t)
  left_same (Leave x e) = refl
  left_same (If' e p body q other) = ap (λ x. or_else x (left_in other)) (left_row body) ∙ ap (or_else (left_nodes (row_nodes body))) (left_row other)
  left_same (While' e p body) = left_row body
  left_same (Loop' x a b p body) = left_row body
  left_same (Let x e) = refl
  left_same (Set x e) = refl
  left_same (Put t a b e) = refl
  left_same (Par' place x a b carry_place carries reduces p body) = refl
  left_same (Fold x e) = refl
  left_same (Call x f) = refl
  left_same (Both x f y g) = refl
  left_same (Print place e) = refl
  left_same (Emit place t) = refl
  left_same (Fill f t r es) = refl

  left_row : {m : _} (row : Row_of-Stmt m) → left_in row ≡ left_nodes (row_nodes row)
  left_row end_of-Stmt = refl
  left_row (more_of-Stmt t rest) =
      ap (λ x. or_else x (left_in rest)) (left_same t ∙ ap left_tree (sym (rows_of t))) ∙ ap (or_else (left_tree (node_of t))) (left_row rest)

abbrev mutual
  run_tree : TreeSetting → Node → State → Ran
  run_tree k (NLet x e) s = given_tree e s (λ n. done (record s { vars = declare s.vars x.text n }))
  run_tree k (NSet x e) s = given_tree e s (λ n. done (set_tree x n s))
  run_tree k (NPut t a b e) s = given_two_trees a b s (λ i j. given_tree e s (λ n. put_tree t i j n s))
  run_tree k (NIf e body other) s = given_tree e s (λ n. choose n (block (run_nodes k body)) (block (run_nodes k other)) s)
  run_tree k (NWhile e body) s = turns_tree (k.fuel + 1) k.fuel e (block (run_nodes k body)) s
  run_tree k (NLoop x a b body) s = given_two_trees a b s (λ i j. iterate k.fuel x.text (run_nodes k body) [] [] (int_gap i j) i s)
  run_tree k (NPar head body) s =
      given_two_trees head.from head.to s (λ i j. unless_wide (too_wide i j) head.place (λ t. caught (left_nodes body) (iterate k.fuel head.var.text (run_nodes (record k { reduces = head.reduces }) body) (Chance ∷ []) [] (int_gap i j) i t)) s)
  run_tree k (NFold x e) s = given_tree e s (λ n. done (record s { vars = folded (operator_tree k.reduces x.text) s.vars x.text n }))
  run_tree k (NCall x f) s = call_tree k x f s
  run_tree k (NBoth x f y g) s = both_tree k x f y g s
  run_tree k (NPrint place e) s = given_tree e s (λ n. done (print_line n s))
  run_tree k (NEmit place t) s = noted (Emits t.text ∷ []) (done (print_table (table_of s.tables t.text) s))
  run_tree k (NLeave x e) s = given_tree e s (λ n. left_with n s)
  run_tree k (NFill f t r es) s = done s

  run_nodes : TreeSetting → Nodes → State → Ran
  run_nodes k Last s = done s
  run_nodes k (Then n ns) s = after (run_tree k n s) (run_nodes k ns)

mutual
  step_same : (k : Setting) (t : Stmt) (s : State) → run k t s ≡ run_tree (setting_tree k) (node_rows t) s
  step_same k (Let x e) s = given_same e s _
  step_same k (Set x e) s = given_same e s _
  step_same k (Put t a b e) s =
      given_two_same a b s _
      ∙ ap (λ (v : Value). given_two_trees (tree_of a) (tree_of b) s (λ i j. given_answer v.answer v.notes s (λ n. put_tree (spelled t) i j n s))) (eval_same s.vars s.tables e)
  step_same k (If' e p body q other) s =
      given_same e s _
      ∙ ap (λ (f : State → Ran). given_tree (tree_of e) s (λ n. choose n (block f) (block (run_all k other)) s)) (row_same k body)
      ∙ ap (λ (g : State → Ran). given_tree (tree_of e) s (λ n. choose n (block (run_nodes (setting_tree k) (row_nodes body))) (block g) s)) (row_same k other)
  step_same k (While' e p body) s =
      turns_same (k.fuel + 1) k.fuel e (block (run_all k body)) s
      ∙ ap (λ (f : State → Ran). turns_tree (k.fuel + 1) k.fuel (tree_of e) (block f) s) (row_same k body)
  step_same k (Loop' x a b p body) s =
      given_two_same a b s _
      ∙ ap (λ (f : State → Ran). given_two_trees (tree_of a) (tree_of b) s (λ i j. iterate k.fuel x.text.items f [] [] (int_gap i j) i s)) (row_same k body)
  step_same k (Par' place x a b carry_place carries reduces p body) s =
      given_two_same a b s _
      ∙ ap (λ (f : State → Ran). given_two_trees (tree_of a) (tree_of b) s (λ i j. unless_wide (too_wide i j) place (λ t. caught (left_in body) (iterate k.fuel x.text.items f (Chance ∷ []) [] (int_gap i j) i t)) s)) (row_same (record k { reduces = reduces.items }) body)
      ∙ ap (λ (y : Option (List ℕ)). given_two_trees (tree_of a) (tree_of b) s (λ i j. unless_wide (too_wide i j) place (λ t. caught y (iterate k.fuel x.text.items (run_nodes (setting_tree (record k { reduces = reduces.items })) (row_nodes body)) (Chance ∷ []) [] (int_gap i j) i t)) s)) (left_row body)
  step_same k (Fold x e) s =
      given_same e s _
      ∙ ap (λ (o : Option Op). given_tree (tree_of e) s (λ n. done (record s { vars = folded o s.vars x.text.items n }))) (operator_same k.reduces x.text.items)
  step_same k (Call x f) s = given_all_same f.args.items s _
  step_same k (Both x f y g) s =
      given_all_same f.args.items s _
      ∙ ap (λ h. given_trees (map tree_of f.args.items) s h)
      (fun_ext (λ ns. given_all_same g.args.items s (λ ms. two_calls k x f.callee ns y g.callee ms (Chance ∷ []) s)))
  step_same k (Print place e) s = given_same e s _
  step_same k (Emit place t) s = refl
  step_same k (Leave x e) s = given_same e s _
  step_same k (Fill f t r es) s = refl

  row_same : {m : _} (k : Setting) (row : Row_of-Stmt m) → run_all k row ≡ run_nodes (setting_tree k) (row_nodes row)
  row_same k end_of-Stmt = refl
  row_same k (more_of-Stmt t rest) =
      fun_ext (λ s.
      ap (λ (r : Ran). after r (run_all k rest)) (step_same k t s ∙ ap (λ (n : Node). run_tree (setting_tree k) n s) (sym (rows_of t)))
      ∙ ap (λ (f : State → Ran). after (run_tree (setting_tree k) (node_of t) s) f) (row_same k rest))

list_same : (k : Setting) (ss : List Stmt) → run_list k ss ≡ run_nodes (setting_tree k) (nodes_of ss)
list_same k [] = refl
list_same k (t ∷ ss) =
    fun_ext (λ s.
    ap (λ (r : Ran). after r (run_list k ss)) (step_same k t s ∙ ap (λ (n : Node). run_tree (setting_tree k) n s) (sym (rows_of t)))
    ∙ ap (λ (f : State → Ran). after (run_tree (setting_tree k) (node_of t) s) f) (list_same k ss))

-- ---- calls

abbrev func_tree : List FuncTree → List ℕ → Option FuncTree
func_tree [] x = None
func_tree (f ∷ fs) x = cond (bytes_eq f.name.text x) (Some f) (func_tree fs x)

func_same : (fs : List Func) (x : List ℕ) → func_tree (map trees.func_of fs) x ≡ option_map trees.func_of (func_of fs x)
func_same [] x = refl
func_same (f ∷ fs) x = go (bytes_eq f.name.text.items x) (func_same fs x)
  where
    go : (b : Bool) → func_tree (map trees.func_of fs) x ≡ option_map trees.func_of (func_of fs x) → cond b (Some (trees.func_of f)) (func_tree (map trees.func_of fs) x) ≡ option_map trees.func_of (cond b (Some f) (func_of fs x))
    go true same = refl
    go false same = same

abbrev bound_tree : List Spelled → List ℤ → List Variable
bound_tree [] ns = []
bound_tree (x ∷ xs) [] = []
bound_tree (x ∷ xs) (n ∷ ns) = record { name = x.text; value = n } ∷ bound_tree xs ns

bound_same : (xs : List Name) (ns : List ℤ) → bound xs ns ≡ bound_tree (map spelled xs) ns
bound_same [] ns = refl
bound_same (x ∷ xs) [] = refl
bound_same (x ∷ xs) (n ∷ ns) = ap (λ vs. record { name = x.text.items; value = n } ∷ vs) (bound_same xs ns)

abbrev returned_tree : Tree → List Variable → Ran → Called
returned_tree e vs r = record {
  value = number_in (eval_tree r.state.vars r.state.tables e).answer;
  ran = let end : Ran = after r (λ s. given_tree e s (λ n. done s)) in record end { state = record end.state { vars = vs } };
}

returned_same : (e : Expr) (vs : List Variable) (r : Ran) → returned e vs r ≡ returned_tree (tree_of e) vs r
returned_same e vs r =
    ap (λ (v : Value). record { value = number_in v.answer; ran = let end : Ran = after r (λ s. given e s (λ n. done s)) in record end { state = record end.state { vars = vs } } }) (eval_same r.state.vars r.state.tables e)
    ∙ ap (λ (f : State → Ran). record { value = number_in (eval_tree r.state.vars r.state.tables (tree_of e)).answer; ran = let end : Ran = after r f in record end { state = record end.state { vars = vs } } }) (fun_ext (λ s. given_same e s (λ n. done s)))

abbrev enter_tree : TreeSetting → Option FuncTree → List ℤ → List Note → State → Called
enter_tree k None ns begin s = record { value = pos 0; ran = noted begin (done s) }
enter_tree k (Some f) ns begin s =
    returned_tree f.value s.vars (noted begin (run_nodes k f.body (record s { vars = bound_tree f.params ns })))

enter_same : (k : Setting) (o : Option Func) (ns : List ℤ) (begin : List Note) (s : State) → enter k o ns begin s ≡ enter_tree (setting_tree k) (option_map trees.func_of o) ns begin s
enter_same k None ns begin s = refl
enter_same k (Some f) ns begin s =
    returned_same f.result s.vars _
    ∙ ap (λ (body : State → Ran). returned_tree (tree_of f.result) s.vars (noted begin (body (record s { vars = bound f.params.items ns })))) (list_same k f.body.items)
    ∙ ap (λ (vs : List Variable). returned_tree (tree_of f.result) s.vars (noted begin (run_nodes (setting_tree k) (nodes_of f.body.items) (record s { vars = vs })))) (bound_same f.params.items ns)

unfoldable call_at_tree : List FuncTree → ℕ → ℕ → List ℕ → Place → List ℤ → List Note → State → Called
call_at_tree fs fuel zero f p ns begin s =
    let t : Ran = tick fuel s in call_on t.stop t (λ u. no_value (trapped Deep p u))
call_at_tree fs fuel (suc room) f p ns begin s =
    let t : Ran = tick fuel s in
    call_on t.stop t (enter_tree (record { reduces = []; fuel = fuel; call = call_at_tree fs fuel room }) (func_tree fs f) ns begin)

-- calls that give the same are the same
calls_same : (fs : List Func) (fuel room : ℕ) → ((f : List ℕ) (p : Place) (ns : List ℤ) (begin : List Note) (s : State) → call_at fs fuel room f p ns begin s ≡ call_at_tree (map trees.func_of fs) fuel room f p ns begin s) → call_at fs fuel room ≡ call_at_tree (map trees.func_of fs) fuel room
calls_same fs fuel room same = fun_ext (λ f. fun_ext (λ p. fun_ext (λ ns. fun_ext (λ begin. fun_ext (λ s. same f p ns begin s)))))

call_at_same : (fs : List Func) (fuel room : ℕ) (f : List ℕ) (p : Place) (ns : List ℤ) (begin : List Note) (s : State) → call_at fs fuel room f p ns begin s ≡ call_at_tree (map trees.func_of fs) fuel room f p ns begin s
unfolding call_at call_at_tree
call_at_same fs fuel zero f p ns begin s = refl
call_at_same fs fuel (suc room) f p ns begin s =
    ap (λ (go : State → Called). call_on (tick fuel s).stop (tick fuel s) go) (fun_ext (λ u.
    enter_same (record { reduces = []; fuel = fuel; call = call_at fs fuel room }) (func_of fs f) ns begin u
    ∙ ap (λ (o : Option FuncTree). enter_tree (record { reduces = []; fuel = fuel; call = call_at fs fuel room }) o ns begin u) (sym (func_same fs f))
    ∙ ap (λ (c : List ℕ → Place → List ℤ → List Note → State → Called). enter_tree (record { reduces = []; fuel = fuel; call = c }) (func_tree (map trees.func_of fs) f) ns begin u) (calls_same fs fuel room (call_at_same fs fuel room))))

-- ---- programs

abbrev input_cells_tree : List TableTree → List Table → ℕ
input_cells_tree [] ts = 0
input_cells_tree (TInput x ∷ ds) ts = cell_count (table_of ts x.text) + input_cells_tree ds ts
input_cells_tree (TMade x a b ∷ ds) ts = input_cells_tree ds ts

input_cells_same : (ds : List TableDecl) (ts : List Table) → input_cells ds ts ≡ input_cells_tree (map trees.table_of ds) ts
input_cells_same [] ts = refl
input_cells_same (Input x ∷ ds) ts = ap (λ n. cell_count (table_of ts x.text.items) + n) (input_cells_same ds ts)
input_cells_same (Made x a b ∷ ds) ts = input_cells_same ds ts

abbrev zero_tree : Spelled → ℤ → ℤ → Table
zero_tree x m n = record { name = x.text; rows = unsigned_abs m; cols = unsigned_abs n; cells = replicate (unsigned_abs m * unsigned_abs n) (pos 0) }

abbrev make_trees : List Table → ℕ → List TableTree → State → Ran
make_trees ts cells [] s = done s
make_trees ts cells (TInput x ∷ ds) s = make_trees ts cells ds (add_table (table_of ts x.text) s)
make_trees ts cells (TMade x a b ∷ ds) s =
    given_two_trees a b s (λ m n. unless_large (is_too_large cells m n) x.place
    (λ t. make_trees ts (cells + unsigned_abs m * unsigned_abs n) ds (add_table (zero_tree x m n) t)) s)

make_same : (ts : List Table) (cells : ℕ) (ds : List TableDecl) (s : State) → make_tables ts cells ds s ≡ make_trees ts cells (map trees.table_of ds) s
make_same ts cells [] s = refl
make_same ts cells (Input x ∷ ds) s = make_same ts cells ds (add_table (table_of ts x.text.items) s)
make_same ts cells (Made x a b ∷ ds) s =
    given_two_same a b s _
    ∙ ap (λ (f : ℤ → ℤ → Ran). given_two_trees (tree_of a) (tree_of b) s f)
    (fun_ext (λ m. fun_ext (λ n.
    ap (λ (go : State → Ran). unless_large (is_too_large cells m n) x.place go s)
    (fun_ext (λ t. make_same ts (cells + unsigned_abs m * unsigned_abs n) ds (add_table (zero_table x m n) t))))))

abbrev whole_tree : ProgramTree → List Table → ℕ → Ran
whole_tree p ts fuel =
    after (make_trees ts (input_cells_tree p.tables ts) p.tables first_state)
    (run_nodes (record { reduces = []; fuel = fuel; call = call_at_tree p.funcs fuel (MAX_CALL_DEPTH - 0) }) p.main)

whole_by_tree : (p : Program) (ts : List Table) (fuel : ℕ) → whole_run p ts fuel ≡ whole_tree (program_of p) ts fuel
unfolding whole_run
whole_by_tree p ts fuel =
    ap (λ (r : Ran). after r (run_list (setting p fuel 0 []) p.main.items))
    (make_same ts (input_cells p.tables.items ts) p.tables.items first_state
    ∙ ap (λ (n : ℕ). make_trees ts n (map trees.table_of p.tables.items) first_state) (input_cells_same p.tables.items ts))
    ∙ ap (λ (f : State → Ran). after (make_trees ts (input_cells_tree (map trees.table_of p.tables.items) ts) (map trees.table_of p.tables.items) first_state) f)
    (list_same (setting p fuel 0 []) p.main.items
    ∙ ap (λ (c : List ℕ → Place → List ℤ → List Note → State → Called). run_nodes (record { reduces = []; fuel = fuel; call = c }) (nodes_of p.main.items)) (calls_same p.funcs.items fuel (MAX_CALL_DEPTH - 0) (call_at_same p.funcs.items fuel (MAX_CALL_DEPTH - 0))))

-- programs with one tree run in the same way
pub whole_of_tree : (p q : Program) (ts : List Table) (fuel : ℕ) → program_of p ≡ program_of q → whole_run p ts fuel ≡ whole_run q ts fuel
whole_of_tree p q ts fuel same = whole_by_tree p ts fuel ∙ ap (λ (t : ProgramTree). whole_tree t ts fuel) same ∙ sym (whole_by_tree q ts fuel)

pub meaning_of_tree : (p q : Program) (ts : List Table) (fuel : ℕ) → program_of p ≡ program_of q → meaning p ts fuel ≡ meaning q ts fuel
unfolding meaning
meaning_of_tree p q ts fuel same = ap outcome_of (whole_of_tree p q ts fuel same)

pub chances_of_tree : (p q : Program) (ts : List Table) (fuel : ℕ) → program_of p ≡ program_of q → chances p ts fuel ≡ chances q ts fuel
unfolding chances
chances_of_tree p q ts fuel same = ap (λ (r : Ran). count_chances r.notes) (whole_of_tree p q ts fuel same)
