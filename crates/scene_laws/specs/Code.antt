-- Which code is the code of a statement. It is said of what remains of a block: the code of a
-- statement leads from some instructions with an end to others with an end, which are the code of
-- what follows.
use Rattle.std.specs.Prelude.{◌≡◌, ◌≢◌, ℕ, suc, ◌+◌, ◌<◌, ◌≤◌, ℤ, pos, List, [], ◌∷◌, ◌++◌}
use Rattle.std.specs.Prelude.{true, false, length, Option, Some, None, Vec}
use Rattle.std.specs.List.{AllByRecursion}
use Rattle.std.specs.declared.alloc.Global.{Global}
use Rattle.loop_syntax.specs.declared.Name.{Name}
use Rattle.loop_syntax.specs.declared.Expr.{Expr}
use Rattle.loop_syntax.specs.declared.Expr.TheVariants as expr
use Rattle.loop_syntax.specs.declared.Stmt.{Stmt}
use Rattle.loop_syntax.specs.declared.ParLoop.{ParLoop}
use Rattle.loop_syntax.specs.declared.Reduce.{Reduce}
use Rattle.loop_syntax.specs.declared.App.{App}
use Rattle.loop_syntax.specs.declared.Stmt.TheVariants.{Let, Set, Put, If, While, Loop, Par, Fold}
use Rattle.loop_syntax.specs.declared.Stmt.TheVariants.{Call, Both, Print, Emit}
use Rattle.loop_rules.specs.Limits.{height}
use Rattle.loop_rules.specs.Names.{operator_of}
use Rattle.loop_meaning.specs.InRange.{InRange, ExprInRange}
use Rattle.tp_value.specs.declared.limits.TheConstants.{MAX_EXPRESSION_HEIGHT}
use Rattle.tp_value.specs.declared.limits.TheConstants.{MAX_PAR_NESTING}
use Rattle.tp_value.specs.declared.limits.TheConstants.{MAX_PARAMETERS}
use Rattle.tp_value.specs.declared.Op.{Op}
use Rattle.tp_value.specs.declared.Place.{Place}
use Rattle.tp_value.specs.declared.TrapKind.TheVariants.{Index}
use Rattle.tpal_syntax.specs.declared.instructions.Alu.TheVariants.{Lt, Add}
use Rattle.tpal_syntax.specs.declared.instructions.Instr.{Instr}
use Rattle.tpal_syntax.specs.declared.instructions.Instr.TheVariants as instr
use Rattle.tpal_syntax.specs.declared.instructions.Term.{Term}
use Rattle.tpal_syntax.specs.declared.instructions.Term.TheVariants as term
use Rattle.tpal_syntax.specs.declared.instructions.Value.{Value}
use Rattle.tpal_syntax.specs.declared.instructions.Value.TheVariants as value
use Rattle.tpal_syntax.specs.declared.notes.Note.TheVariants as note
use Rattle.tpal_syntax.specs.Listing.{Listing}
use Rattle.expr_lower.specs.declared.scope.Scope.{Scope}
use Rattle.expr_lower.specs.Bodies.{body_of, traps_of, trap_block, literal, range_tests}
use Rattle.expr_lower.specs.Scopes.{IsIn, HasCell, HasTable, HasVariable, offset_of, register_of}
use Rattle.expr_lower.specs.Scopes.{table_number}
use Rattle.expr_lower.specs.Standing.{AreAt}
use Rattle.scene_laws.specs.DeepMarked.{IsDeepSite}
use Rattle.scene_laws.specs.LeafMarked.{IsLeafAt, leaf_turn}
use Rattle.scene_laws.specs.Layout.{value_cell, bound_cell, kept_cell, kept_by_both, Entry}
use Rattle.scene_laws.specs.Layout.{entry_of, Activation, kept_argument}
use Rattle.scene_laws.specs.Marked.{IsQuietSite}
use Rattle.scene_laws.specs.Names.{Sees, names_after}
use Rattle.scene_laws.specs.Opposite.{opposite}
use Rattle.scene_laws.specs.Pairs.{IsPair}
use Rattle.scene_laws.specs.Quiet.{list_is_quiet}
use Rattle.scene_laws.specs.Round.{Round, leaf_round, loop_round, par_round, register_for}
use Rattle.handler_gen.specs.LeafSites.{head_label, stored_loop}
use Rattle.handler_gen.specs.Sites.{over_label}
use Rattle.tpal_syntax.specs.declared.sites.CallSite.{CallSite}
use Rattle.tpal_syntax.specs.declared.sites.LeafSite.{LeafSite}
use Rattle.tpal_syntax.specs.declared.sites.LoopSite.{LoopSite}
pub use Rattle.scene_laws.specs.Calling.{call_test, call_entry, call_exit, parameter_cell, passed}
pub use Rattle.scene_laws.specs.Opening.{OpensAs, Opens, to, store, load}
pub use Rattle.join_gen.specs.Blocks.{alu_of}

-- the test of a loop: another turn where the number in a register is below the bound
abbrev pub below_test : ℕ → Value → ℕ → List Instr
below_test counter bound again = instr.Calc 0 counter Lt bound ∷ instr.IfJump 0 again ∷ []

-- the next number of a loop, in a register and in its variable's cell
abbrev pub step_up : ℕ → ℕ → List Instr → List Instr
step_up counter level more =
    load counter (value_cell level) ∷ instr.Calc counter counter Add (value.Int (pos 1))
    ∷ store (value_cell level) (value.Reg counter) ∷ more

-- the end of a turn up to a bound in a cell, and another one at a label where it is below it
abbrev pub next_turn : ℕ → ℕ → List Instr
next_turn level again =
    step_up 1 level (load 0 (bound_cell level) ∷ below_test 1 (value.Reg 0) again)

-- a cell of a table is set where it is one: the row, the column and the number are in three
-- registers, and another one is for the tests
abbrev pub put_tested : ℕ → ℕ → ℕ → ℕ → ℕ → ℕ → List Instr → List Instr
put_tested table row col number test trap more =
    range_tests table row col test trap ++ instr.Put table row col number ∷ more

-- the variable that an expression is
abbrev pub variable_of : Expr → Option (List ℕ)
variable_of (expr.Int n place) = None
variable_of (expr.Var x) = Some x.text.items
variable_of (expr.Cell' t p a q b) = None
variable_of (expr.Rows t) = None
variable_of (expr.Cols t) = None
variable_of (expr.Neg' p a place) = None
variable_of (expr.Bin' o place p a q b) = None

-- registers stand for cells as a scope has it
abbrev pub Stand : Scope → List (ℕ × ℕ) → Type 0
Stand scope registers =
    (x : List ℕ) → HasVariable scope x
    → HasCell scope x × (register_of scope x ≡ register_for registers (offset_of scope x))

-- The code of the statements of main, or of a function, that stands on this.
module _ (code : Listing) (act : Activation) where
  -- the code of an expression, which leaves its value in register `to`, and what stands behind it
  pub record Computes (registers : List (ℕ × ℕ)) (names : List (List ℕ)) (e : Expr) (r : ℕ)
      (instrs more : List Instr) : Type 0
    where
      pub scope : Scope
      pub sees : Sees scope names act.tables
      pub kept : Stand scope registers
      pub inside : IsIn scope e
      pub low : r + height e ≤ MAX_EXPRESSION_HEIGHT
      pub ranged : ExprInRange e
      pub first : ℕ
      pub body : instrs ≡ body_of scope first e r ++ more
      pub traps : AreAt code first (traps_of first e)

  -- the cell of a variable
  pub record IsPlace (names : List (List ℕ)) (x : List ℕ) (cell : ℕ) : Type 0 where
    pub scope : Scope
    pub sees : Sees scope names act.tables
    pub inside : HasCell scope x
    pub is : cell ≡ offset_of scope x

  -- the cell of a variable that is none of those at the fixed levels
  pub record IsCell (names : List (List ℕ)) (fixed : List ℕ) (x : List ℕ) (cell : ℕ) : Type 0 where
    pub scope : Scope
    pub sees : Sees scope names act.tables
    pub inside : HasCell scope x
    pub is : cell ≡ offset_of scope x
    pub level : ℕ
    pub at_level : cell ≡ value_cell level
    pub below : level < act.most
    pub free : AllByRecursion (λ j. j ≢ level) fixed

  -- the code of an operand: none for a literal or a variable in a register, else that of an
  -- expression
  pub data Operand (registers : List (ℕ × ℕ)) (names : List (List ℕ)) (e : Expr) (r : ℕ) : Value
      → List Instr → List Instr → Type 0 where
    number : {n : ℤ} {more : List Instr}
        → literal e ≡ Some n
        → InRange n
        → Operand registers names e r (value.Int n) more more
    standing : {x : List ℕ} {cell held : ℕ} {more : List Instr}
        → variable_of e ≡ Some x
        → IsPlace names x cell
        → register_for registers cell ≡ Some held
        → Operand registers names e r (value.Reg held) more more
    computed : {instrs more : List Instr}
        → Computes registers names e r instrs more
        → Operand registers names e r (value.Reg r) instrs more

  -- a variable that may be set
  pub record IsFreeCell (names : List (List ℕ)) (fixed : List ℕ) (x : List ℕ) : Type 0 where
    pub cell : ℕ
    pub is : IsCell names fixed x cell

  -- the number of a table
  pub record IsTable (registers : List (ℕ × ℕ)) (names : List (List ℕ)) (t : List ℕ) (number : ℕ)
      : Type 0 where
    pub scope : Scope
    pub sees : Sees scope names act.tables
    pub kept : Stand scope registers
    pub inside : HasTable scope t
    pub is : number ≡ table_number scope t

  -- so many cells are kept behind those of the variables
  abbrev pub Keeps : ℕ → Type 0
  Keeps n = kept_cell act n ≤ act.size

  -- the code of arguments, from the one with a number on, which leaves the value of each in its
  -- cell
  pub data Arguments (names : List (List ℕ)) (cell : ℕ → ℕ) : ℕ → List Expr → List Instr
      → List Instr → Type 0 where
    no_argument : {i : ℕ} {instrs : List Instr} → Arguments names cell i [] instrs instrs
    one_argument : {i : ℕ} {e : Expr} {es : List Expr} {v : Value} {instrs second more : List Instr}
        → Operand [] names e 0 v instrs (store (cell i) v ∷ second)
        → Arguments names cell (suc i) es second more
        → Arguments names cell i (e ∷ es) instrs more

  -- a call of a function, whose arguments stand in its activation, from a tick on; behind it stands
  -- what follows at its label
  pub record Calls (place : Place) (entry : Entry) (instrs : List Instr) (end : Term)
      (back : List Instr) (last : Term) : Type 0 where
    pub go : ℕ
    pub return : ℕ
    pub test : instrs ≡ call_test go place
    pub stops : end ≡ term.Halt
    pub enters : Opens code go (call_entry act.size return) (to entry.label)
    pub behind : Opens code return (call_exit entry.size act.size back) last

  mutual
    -- The code of a statement, where this stands round it and these variables are visible: from
    -- some instructions and an end to others.
    pub data Code : Round → List (List ℕ) → Stmt → List Instr → Term → List Instr
        → Term → Type 0 where
      let_code : {round : Round} {names : List (List ℕ)} {x : Name}
          {e : Expr} {v : Value} {instrs more : List Instr} {end : Term}
          → length names < act.most
          → Operand round.registers names e 0 v instrs (store (value_cell (length names)) v ∷ more)
          → Code round names (Let x e) instrs end more end
      set_code : {round : Round} {names : List (List ℕ)} {x : Name}
          {e : Expr} {v : Value} {cell : ℕ} {instrs more : List Instr} {end : Term}
          → IsCell names round.fixed x.text.items cell
          → register_for round.registers cell ≡ None
          → Operand round.registers names e 0 v instrs (store cell v ∷ more)
          → Code round names (Set x e) instrs end more end
      set_register_code : {round : Round} {names : List (List ℕ)} {x : Name}
          {e : Expr} {v : Value} {cell held : ℕ} {instrs more : List Instr} {end : Term}
          → IsCell names round.fixed x.text.items cell
          → register_for round.registers cell ≡ Some held
          → Operand round.registers names e 0 v instrs (instr.Move held v ∷ more)
          → Code round names (Set x e) instrs end more end
      put_code : {round : Round} {names : List (List ℕ)} {t : Name}
          {a b e : Expr} {table trap : ℕ} {instrs second third more : List Instr} {end : Term}
          → IsTable round.registers names t.text.items table
          → Computes round.registers names a 0 instrs second
          → Computes round.registers names b 1 second third
          → Computes round.registers names e 2 third (put_tested table 0 1 2 3 trap more)
          → AreAt code trap (trap_block trap Index t.place ∷ [])
          → Code round names (Put t a b e) instrs end more end
      put_kept_code : {round : Round} {names : List (List ℕ)} {t : Name}
          {a b e : Expr} {table trap : ℕ} {instrs second third more : List Instr} {end : Term}
          → Keeps 2
          → IsTable round.registers names t.text.items table
          → Computes round.registers names a 0 instrs
          (store (kept_cell act 0) (value.Reg 0) ∷ second)
          → Computes round.registers names b 0 second
          (store (kept_cell act 1) (value.Reg 0) ∷ third)
          → Computes round.registers names e 0 third
          (load 1 (kept_cell act 0) ∷ load 2 (kept_cell act 1)
          ∷ put_tested table 1 2 0 3 trap more)
          → AreAt code trap (trap_block trap Index t.place ∷ [])
          → Code round names (Put t a b e) instrs end more end
      if_code : {round : Round} {names : List (List ℕ)} {e : Expr}
          (body other : Vec Stmt Global) {first second exit : ℕ} {instrs more : List Instr}
          {end : Term}
          → Computes round.registers names e 0 instrs (instr.IfJump 0 first ∷ [])
          → Branch round names body.items first exit
          → Other round names other.items second exit
          → Opens code exit more end
          → Code round names (If e body other) instrs (to second) more end
      if_not_code : {round : Round} {names : List (List ℕ)} {e e' : Expr}
          (body other : Vec Stmt Global) {second exit : ℕ} {instrs inner more : List Instr}
          {end last : Term}
          → opposite e ≡ Some e'
          → Computes round.registers names e' 0 instrs (instr.IfJump 0 second ∷ inner)
          → Codes round names body.items inner end [] (to exit)
          → Other round names other.items second exit
          → Opens code exit more last
          → Code round names (If e body other) instrs end more last
      while_code : {round : Round} {names : List (List ℕ)} {e : Expr}
          (body : Vec Stmt Global) {again exit : ℕ} {instrs inner test more : List Instr}
          {last end : Term}
          → Computes round.registers names e 0 instrs (instr.IfJump 0 again ∷ [])
          → Opens code again (instr.Tick ∷ inner) last
          → Codes round names body.items inner last test (to exit)
          → Computes round.registers names e 0 test (instr.IfJump 0 again ∷ [])
          → Opens code exit more end
          → Code round names (While e body) instrs (to exit) more end
      loop_code : {round : Round} {names : List (List ℕ)} {x : Name}
          {a b : Expr} (body : Vec Stmt Global) {again exit : ℕ}
          {instrs second inner more : List Instr} {last end : Term}
          → length names < act.most
          → Computes round.registers names a 0 instrs (store (value_cell (length names))
          (value.Reg 0) ∷ second)
          → Computes round.registers names b 0 second
          (store (bound_cell (length names)) (value.Reg 0) ∷ load 1 (value_cell (length names))
          ∷ below_test 1 (value.Reg 0) again)
          → Opens code again (instr.Tick ∷ inner) last
          → Codes (loop_round round (length names)) (names ++ x.text.items ∷ []) body.items inner
          last
          (step_up 1 (length names)
          (load 0 (bound_cell (length names)) ∷ below_test 1 (value.Reg 0) again))
          (to exit)
          → Opens code exit more end
          → Code round names (Loop x a b body) instrs (to exit) more end
      loop_to_code : {round : Round} {names : List (List ℕ)} {x : Name}
          {a b : Expr} (body : Vec Stmt Global) {n : ℤ} {again exit : ℕ}
          {instrs inner more : List Instr} {last end : Term}
          → length names < act.most
          → literal b ≡ Some n → InRange n
          → Computes round.registers names a 0 instrs
          (store (value_cell (length names)) (value.Reg 0) ∷ below_test 0 (value.Int n) again)
          → Opens code again (instr.Tick ∷ inner) last
          → Codes (loop_round round (length names)) (names ++ x.text.items ∷ []) body.items inner
          last
          (step_up 0 (length names) (below_test 0 (value.Int n) again)) (to exit)
          → Opens code exit more end
          → Code round names (Loop x a b body) instrs (to exit) more end
      quiet_par_code : {round : Round} {names : List (List ℕ)} (l : ParLoop) (site : LoopSite)
          {check first head exit : ℕ} {instrs second inner again more : List Instr}
          {last half end : Term}
          → round.registers ≡ []
          → round.depth < MAX_PAR_NESTING
          → length names < act.most
          → list_is_quiet act.calls l.body.items ≡ true
          → AllByRecursion (λ (r : Reduce). IsFreeCell names round.fixed r.target.text.items)
          l.reduces.items
          → Computes [] names l.from 0 instrs
          (store (value_cell (length names)) (value.Reg 0) ∷ second)
          → Computes [] names l.to 0 second
          (store (bound_cell (length names)) (value.Reg 0) ∷ load 1 (value_cell (length names))
          ∷ instr.Calc 2 1 Lt (value.Reg 0) ∷ instr.IfJump 2 check ∷ [])
          → IsQuietSite code act names l round.depth check first exit site
          → Opens code first (instr.Tick ∷ inner) last
          → Codes (par_round round names l.reduces.items) (names ++ l.var.text.items ∷ [])
          l.body.items inner last (next_turn (length names) head) (to (over_label site.label))
          → OpensAs code (note.Ready act.dispatch) head (instr.Tick ∷ again) half
          → Codes (par_round round names l.reduces.items) (names ++ l.var.text.items ∷ [])
          l.body.items again half (next_turn (length names) head) (to (over_label site.label))
          → Opens code exit more end
          → Code round names (Par l) instrs (to exit) more end
      leaf_par_code : {round : Round} {names : List (List ℕ)} (l : ParLoop) (site : LeafSite)
          {check first exit : ℕ} {instrs second inner again more : List Instr}
          {last half end : Term}
          → round.registers ≡ []
          → round.depth < MAX_PAR_NESTING
          → length names < act.most
          → list_is_quiet false l.body.items ≡ true
          → AllByRecursion (λ (r : Reduce). IsFreeCell names round.fixed r.target.text.items)
          l.reduces.items
          → Computes [] names l.from 0 instrs
          (store (value_cell (length names)) (value.Reg 0) ∷ second)
          → Computes [] names l.to 0 second
          (store (bound_cell (length names)) (value.Reg 0) ∷ load 1 (value_cell (length names))
          ∷ instr.Calc 2 1 Lt (value.Reg 0) ∷ instr.IfJump 2 check ∷ [])
          → IsLeafAt code act names l round.depth check first exit site
          → OpensAs code (note.Ready site.label) (head_label site) (instr.Tick ∷ again) half
          → Codes (leaf_round round names l.reduces.items site)
          (names ++ l.var.text.items ∷ []) l.body.items again half (leaf_turn site)
          (to (over_label (stored_loop site).label))
          → Opens code first (instr.Tick ∷ inner) last
          → Codes (leaf_round round names l.reduces.items site)
          (names ++ l.var.text.items ∷ []) l.body.items inner last (leaf_turn site)
          (to (over_label (stored_loop site).label))
          → Opens code exit more end
          → Code round names (Par l) instrs (to exit) more end
      deep_par_code : {round : Round} {names : List (List ℕ)} (l : ParLoop) (site : LoopSite)
          {check head turn exit : ℕ} {instrs second inner more : List Instr} {half end : Term}
          → round.registers ≡ []
          → round.depth < MAX_PAR_NESTING
          → length names < act.most
          → list_is_quiet act.calls l.body.items ≡ false
          → AllByRecursion (λ (r : Reduce). IsFreeCell names round.fixed r.target.text.items)
          l.reduces.items
          → Computes [] names l.from 0 instrs
          (store (value_cell (length names)) (value.Reg 0) ∷ second)
          → Computes [] names l.to 0 second
          (store (bound_cell (length names)) (value.Reg 0) ∷ load 1 (value_cell (length names))
          ∷ instr.Calc 2 1 Lt (value.Reg 0) ∷ instr.IfJump 2 check ∷ [])
          → IsDeepSite code act act.dispatch names l round.depth check head turn exit site
          → Opens code turn (instr.Tick ∷ inner) half
          → Codes (par_round round names l.reduces.items) (names ++ l.var.text.items ∷ [])
          l.body.items inner half [] (to head)
          → Opens code exit more end
          → Code round names (Par l) instrs (to exit) more end
      fold_code : {round : Round} {names : List (List ℕ)} {x : Name}
          {e : Expr} {o : Op} {v : Value} {cell : ℕ} {instrs more : List Instr} {end : Term}
          → operator_of round.reduces x.text.items ≡ Some o
          → IsCell names round.fixed x.text.items cell
          → register_for round.registers cell ≡ None
          → Operand round.registers names e 0 v instrs
          (load 1 cell ∷ instr.Calc 1 1 (alu_of o) v ∷ store cell (value.Reg 1) ∷ more)
          → Code round names (Fold x e) instrs end more end
      fold_register_code : {round : Round} {names : List (List ℕ)} {x : Name}
          {e : Expr} {o : Op} {v : Value} {cell held : ℕ} {instrs more : List Instr} {end : Term}
          → operator_of round.reduces x.text.items ≡ Some o
          → IsCell names round.fixed x.text.items cell
          → register_for round.registers cell ≡ Some held
          → Operand round.registers names e 0 v instrs (instr.Calc held held (alu_of o) v ∷ more)
          → Code round names (Fold x e) instrs end more end
      fold_nothing_code : {round : Round} {names : List (List ℕ)}
          {x : Name} {e : Expr} {instrs more : List Instr} {end : Term}
          → operator_of round.reduces x.text.items ≡ None
          → Computes round.registers names e 0 instrs more
          → Code round names (Fold x e) instrs end more end
      call_code : {round : Round} {names : List (List ℕ)} {x : Name}
          {f : App} {entry : Entry} {cell : ℕ} {arguments test more : List Instr} {last end : Term}
          → round.registers ≡ []
          → entry_of act.functions f.callee.text.items ≡ Some entry
          → length f.args.items ≡ entry.parameters
          → IsCell names round.fixed x.text.items cell
          → Arguments names (parameter_cell code act) 0 f.args.items arguments test
          → Calls f.callee.place entry test last (store cell (value.Reg 0) ∷ more) end
          → Code round names (Call x f) (instr.Salloc entry.size ∷ arguments) last more end
      both_code : {round : Round} {names : List (List ℕ)} {x y : Name}
          {f g : App} (first second : Entry) (site : CallSite) {x_cell y_cell : ℕ}
          {arguments others begins more : List Instr} {last end : Term}
          → round.registers ≡ []
          → Keeps (kept_by_both (length g.args.items))
          → entry_of act.functions f.callee.text.items ≡ Some first
          → length f.args.items ≡ first.parameters
          → entry_of act.functions g.callee.text.items ≡ Some second
          → length g.args.items ≡ second.parameters
          → IsCell names round.fixed x.text.items x_cell
          → IsCell names round.fixed y.text.items y_cell
          → length g.args.items ≤ MAX_PARAMETERS
          → Arguments names (parameter_cell code act) 0 f.args.items arguments others
          → Arguments names (kept_argument act) 0 g.args.items others begins
          → IsPair code act act.dispatch f.callee.place x_cell (length g.args.items) first second
          site
          begins
          last
          (store y_cell (value.Reg 0) ∷ more)
          end
          → Code round names (Both x f y g) (instr.Salloc first.size ∷ arguments) last more end
      print_code : {round : Round} {names : List (List ℕ)} {place : Place}
          {e : Expr} {instrs more : List Instr} {end : Term}
          → Computes round.registers names e 0 instrs (instr.Print 0 ∷ more)
          → Code round names (Print place e) instrs end more end
      emit_code : {round : Round} {names : List (List ℕ)} {place : Place}
          {t : Name} {table : ℕ} {more : List Instr} {end : Term}
          → IsTable round.registers names t.text.items table
          → Code round names (Emit place t) (instr.Emit table ∷ more) end more end

    -- the code of statements in order
    pub data Codes : Round → List (List ℕ) → List Stmt → List Instr → Term
        → List Instr → Term → Type 0 where
      none : {round : Round} {names : List (List ℕ)} {instrs : List Instr}
          {end : Term}
          → Codes round names [] instrs end instrs end
      one_more : {round : Round} {names : List (List ℕ)} {s : Stmt}
          {ss : List Stmt} {instrs middle more : List Instr} {end half last : Term}
          → Code round names s instrs end middle half
          → Codes round (names_after names s) ss middle half more last
          → Codes round names (s ∷ ss) instrs end more last

    -- the block of a branch, and what goes on at the exit
    pub data Branch : Round → List (List ℕ) → List Stmt → ℕ → ℕ → Type 0 where
      branch : {round : Round} {names : List (List ℕ)} {body : List Stmt}
          {label exit : ℕ} {instrs : List Instr} {end : Term}
          → Opens code label instrs end
          → Codes round names body instrs end [] (to exit)
          → Branch round names body label exit

    -- a branch with no statements has no block
    pub data Other : Round → List (List ℕ) → List Stmt → ℕ → ℕ → Type 0 where
      nothing : {round : Round} {names : List (List ℕ)} {exit : ℕ}
          → Other round names [] exit exit
      something : {round : Round} {names : List (List ℕ)}
          {body : List Stmt} {label exit : ℕ}
          → Branch round names body label exit
          → Other round names body label exit
