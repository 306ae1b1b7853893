-- The span of a run: what is left of its work where the iterations of a `par`, and the two calls of
-- a `both`, run at once. It is taken along the run itself: each part begins in the state in which
-- the run is then.
use Rattle.std.specs.Prelude.{ℕ, zero, suc, ◌+◌, ◌-◌, max, ℤ, pos, negsuc, ◌+ℤ◌, List, [], ◌∷◌}
use Rattle.std.specs.Prelude.{Bool, true, false, Option, Some, None}
use Rattle.std.specs.Int.{int_gap}
use Rattle.tp_value.specs.declared.limits.TheConstants.{MAX_CALL_DEPTH}
use Rattle.tp_value.specs.declared.Stop.{Stop}
use Rattle.tp_value.specs.declared.Stop.TheVariants.{Done, Left, Trap, NoFuel}
use Rattle.tp_value.specs.declared.Table.{Table}
use Rattle.loop_syntax.specs.declared.Expr.{Expr}
use Rattle.loop_syntax.specs.declared.App.{App}
use Rattle.loop_syntax.specs.declared.Reduce.{Reduce}
use Rattle.loop_syntax.specs.declared.Func.{Func}
use Rattle.loop_syntax.specs.declared.Stmt.{Stmt, Row_of-Stmt, end_of-Stmt, more_of-Stmt}
use Rattle.loop_syntax.specs.declared.Stmt.TheVariants.{Let, Set, Put, If', While', Loop', Par'}
use Rattle.loop_syntax.specs.declared.Stmt.TheVariants.{Fold, Call, Both, Print, Emit, Leave, Fill}
use Rattle.loop_syntax.specs.declared.Program.{Program}
use Rattle.loop_rules.specs.Names.{func_of}
use Rattle.loop_meaning.specs.declared.value.Answer.{Answer}
use Rattle.loop_meaning.specs.declared.value.Answer.TheVariants.{Number, Traps}
use Rattle.loop_meaning.specs.State.{declare, State, Note, Chance, Ran, after, tick}
use Rattle.loop_meaning.specs.Expressions.{eval}
use Rattle.loop_meaning.specs.Statements.{block, iteration, too_wide, Setting, run, run_all}
use Rattle.loop_meaning.specs.Calls.{bound, call_at, setting}
use Rattle.loop_meaning.specs.Meaning.{make_tables, input_cells, first_state}

-- ---- behind expressions and runs

-- goes on with the number of an expression; behind a trap nothing is run
abbrev pub with_answer : Answer → (ℤ → ℕ) → ℕ
with_answer (Number n) f = f n
with_answer (Traps k p) f = 0

abbrev pub given_span : Expr → State → (ℤ → ℕ) → ℕ
given_span e s f = with_answer (eval s.vars s.tables e).answer f

-- the same with two expressions
abbrev pub given_two_span : Expr → Expr → State → (ℤ → ℤ → ℕ) → ℕ
given_two_span a b s f = given_span a s (λ m. given_span b s (λ n. f m n))

-- the same with a list of arguments
abbrev pub given_all_span : List Expr → State → (List ℤ → ℕ) → ℕ
given_all_span [] s f = f []
given_all_span (e ∷ es) s f = given_span e s (λ n. given_all_span es s (λ ns. f (n ∷ ns)))

-- goes on where a run is done; behind any other end nothing is run
abbrev pub with_stop : Stop → State → (State → ℕ) → ℕ
with_stop Done s f = f s
with_stop (Left n) s f = 0
with_stop (Trap k p) s f = 0
with_stop NoFuel s f = 0

abbrev pub then_span : Ran → (State → ℕ) → ℕ
then_span r f = with_stop r.stop r.state f

-- 1 and the span of what a tick begins; 0 where the tick isn't counted, since nothing begins
abbrev pub begun : ℕ → State → (State → ℕ) → ℕ
begun fuel s f = then_span (tick fuel s) (λ t. 1 + f t)

-- ---- branches and loops

-- the first where the number isn't 0
abbrev pub chosen : ℤ → (State → ℕ) → (State → ℕ) → State → ℕ
chosen (pos zero) f g s = g s
chosen (pos (suc n)) f g s = f s
chosen (negsuc n) f g s = f s

-- at most n turns of a `while`, one after another
unfoldable pub turns_span : ℕ → ℕ → Expr → (State → Ran) → (State → ℕ) → State → ℕ
turns_span zero fuel e body inside s = 0
turns_span (suc n) fuel e body inside s =
    given_span e s (λ v. chosen v
    (λ t. begun fuel t inside
    + then_span (after (tick fuel t) body) (turns_span n fuel e body inside))
    (λ t. 0) s)

-- n iterations, of which each is joined with those behind it: by + where they run one after
-- another, by the greater where they run at once
unfoldable pub iterate_span : (ℕ → ℕ → ℕ) → ℕ → List ℕ → (State → Ran) → (State → ℕ) → List Note
    → List Note → ℕ → ℤ → State → ℕ
iterate_span joined fuel x body inside again ns zero i s = 0
iterate_span joined fuel x body inside again ns (suc n) i s =
    joined (begun fuel s (λ t. inside (record t { vars = declare t.vars x i })))
    (then_span (iteration fuel x body ns i s)
    (iterate_span joined fuel x body inside again again n (i +ℤ pos 1)))

-- what the iterations of a `par` come to, unless its range is too wide
abbrev pub unless_wide_span : Bool → (State → ℕ) → State → ℕ
unless_wide_span true f s = 0
unless_wide_span false f s = f s

-- ---- statements

-- how statements run, and the span of a call of that function with those arguments
pub record Spans : Type 0 where
  pub setting : Setting
  pub call : List ℕ → List ℤ → State → ℕ

-- the same under the reduce list of a `par`
abbrev pub reducing : List Reduce → Spans → Spans
reducing rs k = record k { setting = record k.setting { reduces = rs } }

-- two calls at once: the second is run behind the first
abbrev pub both_span : Spans → App → App → State → ℕ
both_span k f g s =
    given_all_span f.args.items s
    (λ ns. given_all_span g.args.items s
    (λ ms. max (k.call f.callee.text.items ns s)
    (then_span (k.setting.call f.callee.text.items f.callee.place ns (Chance ∷ []) s).ran
    (λ t. k.call g.callee.text.items ms t))))

-- the span of a statement, and of those of a block in order. Before a block stands its vector's
-- shape, here p and q
abbrev mutual
  pub span : Spans → Stmt → State → ℕ
  span k (Let x e) s = 0
  span k (Set x e) s = 0
  span k (Put t a b e) s = 0
  span k (If' e p body q other) s =
      given_span e s (λ n. chosen n (span_all k body) (span_all k other) s)
  span k (While' e p body) s =
      turns_span (k.setting.fuel + 1) k.setting.fuel e (block (run_all k.setting body))
      (span_all k body) s
  span k (Loop' x a b p body) s =
      given_two_span a b s (λ i j. iterate_span (λ m n. m + n) k.setting.fuel x.text.items
      (run_all k.setting body) (span_all k body) [] [] (int_gap i j) i s)
  span k (Par' place x a b carry_place carries reduces p body) s =
      given_two_span a b s (λ i j. unless_wide_span (too_wide i j)
      (iterate_span max k.setting.fuel x.text.items
      (run_all (reducing reduces.items k).setting body) (span_all (reducing reduces.items k) body)
      (Chance ∷ []) [] (int_gap i j) i)
      s)
  span k (Fold x e) s = 0
  span k (Call x f) s =
      given_all_span f.args.items s (λ ns. k.call f.callee.text.items ns s)
  span k (Both x f y g) s = both_span k f g s
  span k (Print place e) s = 0
  span k (Emit place t) s = 0
  span k (Leave x e) s = 0
  span k (Fill f t r es) s = 0

  pub span_all : {m : _} → Spans → Row_of-Stmt m → State → ℕ
  span_all k end_of-Stmt s = 0
  span_all k (more_of-Stmt first rest) s =
      span k first s + then_span (run k.setting first s) (span_all k rest)

-- that of the statements of a list in order
abbrev pub span_list : Spans → List Stmt → State → ℕ
span_list k [] s = 0
span_list k (first ∷ rest) s =
    span k first s + then_span (run k.setting first s) (span_list k rest)

-- ---- calls and programs

-- the body of a function, with fresh variables
abbrev pub enter_span : Spans → Option Func → List ℤ → State → ℕ
enter_span k None ns s = 0
enter_span k (Some f) ns s =
    span_list k f.body.items (record s { vars = bound f.params.items ns })

-- how statements run in a call where this many more calls may be open
abbrev pub setting_in : List Func → ℕ → ℕ → Setting
setting_in fs fuel room = record { reduces = []; fuel = fuel; call = call_at fs fuel room }

-- a call where this many more calls may be open: 1 and its body
unfoldable pub call_span : List Func → ℕ → ℕ → List ℕ → List ℤ → State → ℕ
call_span fs fuel zero f ns s = begun fuel s (λ t. 0)
call_span fs fuel (suc room) f ns s =
    begun fuel s
    (enter_span (record { setting = setting_in fs fuel room; call = call_span fs fuel room })
    (func_of fs f) ns)

-- how statements run at a depth of calls under a reduce list, with the spans of calls there
abbrev pub spans : Program → ℕ → ℕ → List Reduce → Spans
spans p fuel depth rs =
    record {
      setting = setting p fuel depth rs;
      call = call_span p.funcs.items fuel (MAX_CALL_DEPTH - depth);
    }

-- the span of a program over given tables, with that much fuel: that of main, behind its tables
unfoldable pub whole_span : Program → List Table → ℕ → ℕ
whole_span p ts fuel =
    then_span (make_tables ts (input_cells p.tables.items ts) p.tables.items first_state)
    (span_list (spans p fuel 0 []) p.main.items)
