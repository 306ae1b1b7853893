-- What statements do.
use Rattle.std.specs.Prelude.{ℕ, zero, suc, ◌+◌, Bool, true, false, ℤ, pos, negsuc, ◌+ℤ◌, List, []}
use Rattle.std.specs.Prelude.{◌∷◌, length, nat_lt, Option, Some, None}
use Rattle.std.specs.Int.{int_gap}
use Rattle.tp_value.specs.declared.limits.TheConstants.{MAX_PAR_LENGTH}
use Rattle.tp_value.specs.declared.Place.{Place}
use Rattle.tp_value.specs.declared.TrapKind.TheVariants.{Index, Wide}
use Rattle.tp_value.specs.declared.Stop.TheVariants.{Trap}
use Rattle.tp_value.specs.declared.Op.{Op}
use Rattle.loop_syntax.specs.declared.Name.{Name}
use Rattle.loop_syntax.specs.declared.Expr.{Expr}
use Rattle.loop_syntax.specs.declared.Reduce.{Reduce}
use Rattle.loop_syntax.specs.declared.App.{App}
use Rattle.loop_syntax.specs.declared.Stmt.{Stmt, Row_of-Stmt, end_of-Stmt, more_of-Stmt}
use Rattle.loop_syntax.specs.declared.Stmt.TheVariants.{Let, Set, Put, If', While', Loop', Par'}
use Rattle.loop_syntax.specs.declared.Stmt.TheVariants.{Fold, Call, Both, Print, Emit, Leave, Fill}
use Rattle.loop_rules.specs.Names.{operator_of}
use Rattle.loop_meaning.specs.declared.value.Answer.{Answer}
use Rattle.loop_meaning.specs.declared.value.Answer.TheVariants.{Number, Traps}
use Rattle.loop_meaning.specs.declared.value.Variable.{Variable}
use Rattle.reduce_ops.specs.Reduction.{combine}
use Rattle.loop_meaning.specs.State.{lookup, assign, declare, table_of, has_cell, write_cell}
use Rattle.loop_meaning.specs.State.{print_line, print_table, State, Note, Writes, Emits, Chance}
use Rattle.loop_meaning.specs.State.{Ran, done, trapped, out_of_fuel, left_with, noted, after, tick}
use Rattle.loop_meaning.specs.State.{leave_block}
use Rattle.loop_meaning.specs.Leaving.{left_in, caught}
use Rattle.loop_meaning.specs.Expressions.{Value, eval}

-- ---- numbers of expressions

-- goes on with the number of an expression, or stops at its trap
abbrev pub given_answer : Answer → List Note → State → (ℤ → Ran) → Ran
given_answer (Number n) ns s go = noted ns (go n)
given_answer (Traps k p) ns s go = record { stop = Trap k p; state = s; notes = ns }

abbrev pub given : Expr → State → (ℤ → Ran) → Ran
given e s go = let v : Value = eval s.vars s.tables e in given_answer v.answer v.notes s go

-- the same with two expressions, the first one first
abbrev pub given_two : Expr → Expr → State → (ℤ → ℤ → Ran) → Ran
given_two a b s go = given a s (λ m. given b s (λ n. go m n))

-- the same with a list of arguments, in order
abbrev pub given_all : List Expr → State → (List ℤ → Ran) → Ran
given_all [] s go = go []
given_all (e ∷ es) s go = given e s (λ n. given_all es s (λ ns. go (n ∷ ns)))

-- ---- assignments and writes

-- the state after an assignment
abbrev pub set_var : Name → ℤ → State → State
set_var x n s = record s { vars = assign s.vars x.text.items n }

-- the variables after a fold: x op n, or no change where the nearest `par` doesn't reduce x
abbrev pub folded : Option Op → List Variable → List ℕ → ℤ → List Variable
folded None vs x n = vs
folded (Some o) vs x n = assign vs x (combine o (lookup vs x) n)

-- a write to the cell at row i, column j
abbrev pub put_cell : Name → ℤ → ℤ → ℤ → State → Ran
put_cell t i j v s =
    elim (has_cell (table_of s.tables t.text.items) i j) [
      | true ↦ noted (Writes t.text.items i j ∷ [])
          (done (record s { tables = write_cell s.tables t.text.items i j v }))
      | false ↦ trapped Index t.place s
    ]

-- ---- branches and loops

-- the first where the number isn't 0
abbrev pub choose : ℤ → (State → Ran) → (State → Ran) → State → Ran
choose (pos zero) f g s = g s
choose (pos (suc n)) f g s = f s
choose (negsuc n) f g s = f s

-- a body in a block of its own
abbrev pub block : (State → Ran) → State → Ran
block body s = leave_block (length s.vars) (body s)

-- at most n turns of a `while`. As each turn counts a tick, more than the fuel and one are never
-- begun
unfoldable pub turns : ℕ → ℕ → Expr → (State → Ran) → State → Ran
turns zero fuel e body s = out_of_fuel s
turns (suc n) fuel e body s =
    given e s (λ v. choose v (λ t. after (after (tick fuel t) body) (turns n fuel e body)) done s)

-- one iteration of a loop over the variable x, with the number i; where it begins, ns are noted
abbrev pub iteration : ℕ → List ℕ → (State → Ran) → List Note → ℤ → State → Ran
iteration fuel x body ns i s =
    leave_block (length s.vars)
    (after (tick fuel s) (λ t. noted ns (body (record t { vars = declare t.vars x i }))))

-- n iterations in order, with the numbers i, i + 1, ..; the first notes ns, and each later one
-- notes again
unfoldable pub iterate : ℕ → List ℕ → (State → Ran) → List Note → List Note → ℕ → ℤ → State → Ran
iterate fuel x body again ns zero i s = done s
iterate fuel x body again ns (suc n) i s =
    after (iteration fuel x body ns i s) (iterate fuel x body again again n (i +ℤ pos 1))

-- whether the second bound of a `par` exceeds the first by too much
abbrev pub too_wide : ℤ → ℤ → Bool
too_wide a b = nat_lt MAX_PAR_LENGTH (int_gap a b)

-- goes on where it doesn't
abbrev pub unless_wide : Bool → Place → (State → Ran) → State → Ran
unless_wide true p go s = trapped Wide p s
unless_wide false p go s = go s

-- ---- calls, as a statement sees them

-- what a call gives: its end, and its value where that is done
pub record Called : Type 0 where
  pub value : ℤ
  pub ran : Ran

-- goes on with the value of a call
abbrev pub with_call : Called → (ℤ → State → Ran) → Ran
with_call c go = after c.ran (go c.value)

-- what a statement needs to know: the reduce list of the nearest `par`, the fuel, and what a call
-- means. A call is given the callee with its place, the arguments, and what is noted where its body
-- begins
pub record Setting : Type 0 where
  pub reduces : List Reduce
  pub fuel : ℕ
  pub call : List ℕ → Place → List ℤ → List Note → State → Called

abbrev pub run_call : Setting → Name → App → State → Ran
run_call k x f s =
    given_all f.args.items s
    (λ ns. with_call (k.call f.callee.text.items f.callee.place ns [] s)
    (λ v t. done (set_var x v t)))

-- the two calls of a `both`, one after the other, and then its two assignments
abbrev pub two_calls : Setting → Name → Name → List ℤ → Name → Name → List ℤ → List Note → State
    → Ran
two_calls k x f ns y g ms begin s =
    with_call (k.call f.text.items f.place ns begin s) (λ v t.
    with_call (k.call g.text.items g.place ms [] t) (λ w u. done (set_var y w (set_var x v u))))

abbrev pub run_both : Setting → Name → App → Name → App → State → Ran
run_both k x f y g s =
    given_all f.args.items s
    (λ ns. given_all g.args.items s
    (λ ms. two_calls k x f.callee ns y g.callee ms (Chance ∷ []) s))

-- ---- statements

-- what a statement does, and what those of a block do in order. Before a block stands its vector's
-- shape, here p and q
abbrev mutual
  pub run : Setting → Stmt → State → Ran
  run k (Let x e) s = given e s (λ n. done (record s { vars = declare s.vars x.text.items n }))
  run k (Set x e) s = given e s (λ n. done (set_var x n s))
  run k (Put t a b e) s = given_two a b s (λ i j. given e s (λ n. put_cell t i j n s))
  run k (If' e p body q other) s =
      given e s (λ n. choose n (block (run_all k body)) (block (run_all k other)) s)
  run k (While' e p body) s = turns (k.fuel + 1) k.fuel e (block (run_all k body)) s
  run k (Loop' x a b p body) s =
      given_two a b s (λ i j. iterate k.fuel x.text.items (run_all k body) [] [] (int_gap i j) i s)
  run k (Par' place x a b carry_place carries reduces p body) s =
      given_two a b s
      (λ i j. unless_wide (too_wide i j) place (λ t. caught (left_in body)
      (iterate k.fuel x.text.items (run_all (record k { reduces = reduces.items }) body)
      (Chance ∷ []) [] (int_gap i j) i t))
      s)
  run k (Fold x e) s =
      given e s
      (λ n. done
      (record s { vars = folded (operator_of k.reduces x.text.items) s.vars x.text.items n }))
  run k (Call x f) s = run_call k x f s
  run k (Both x f y g) s = run_both k x f y g s
  run k (Print place e) s = given e s (λ n. done (print_line n s))
  run k (Emit place t) s =
      noted (Emits t.text.items ∷ []) (done (print_table (table_of s.tables t.text.items) s))
  run k (Leave x e) s = given e s (λ n. left_with n s)
  run k (Fill f t r es) s = done s

  pub run_all : {m : _} → Setting → Row_of-Stmt m → State → Ran
  run_all k end_of-Stmt s = done s
  run_all k (more_of-Stmt first rest) s = after (run k first s) (run_all k rest)

-- the statements of a list in order
abbrev pub run_list : Setting → List Stmt → State → Ran
run_list k [] s = done s
run_list k (first ∷ rest) s = after (run k first s) (run_list k rest)
