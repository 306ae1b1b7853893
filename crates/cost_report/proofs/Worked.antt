-- Worked programs: how each ends, its work and its span, computed from the definitions.
use Rattle.std.proofs.Common.{◌≡◌, ℕ, ◌<◌, ◌^◌, ℤ, pos, Vec, Box, List, [], ◌∷◌, refl}
use Rattle.std.proofs.Common.{length, arith, lit<}
use Rattle.std.specs.Int.{int_wrap}
use Rattle.std.specs.Fmt.{digits}
use Rattle.std.specs.declared.alloc.Global.{Global}
use denote.RawPtr.{Ptr, null_ptr}
use Rattle.tp_value.specs.declared.Place.{Place}
use Rattle.tp_value.specs.declared.Table.{Table}
use Rattle.tp_value.specs.declared.Stop.{Stop}
use Rattle.tp_value.specs.declared.Stop.TheVariants.{Done, NoFuel}
use Rattle.tp_value.specs.declared.Op.TheVariants.{Add}
use Rattle.loop_syntax.specs.declared.Name.{Name}
use Rattle.loop_syntax.specs.declared.BinOp.{BinOp}
use Rattle.loop_syntax.specs.declared.BinOp.TheVariants as op
use Rattle.loop_syntax.specs.declared.Expr.{Expr}
use Rattle.loop_syntax.specs.declared.Expr.TheVariants.{Int, Var, Cell, Rows, Bin}
use Rattle.loop_syntax.specs.declared.Stmt.{Stmt}
use Rattle.loop_syntax.specs.declared.Stmt.TheBlock.{hidden-the_row-Stmt-0, shape-the_row-Stmt-0}
use Rattle.loop_syntax.specs.declared.Stmt.TheVariants.{Let, Set, Put, If, While, Loop, Par, Fold}
use Rattle.loop_syntax.specs.declared.Stmt.TheVariants.{Call, Both, Leave}
use Rattle.loop_syntax.specs.declared.Func.{Func}
use Rattle.loop_syntax.specs.declared.Reduce.{Reduce}
use Rattle.loop_syntax.specs.declared.TableDecl.TheVariants.{Input, Made}
use Rattle.loop_syntax.specs.declared.Program.{Program}
use Rattle.loop_meaning.specs.Statements.{iterate, turns}
use Rattle.loop_meaning.specs.Calls.{call_at}
use Rattle.loop_meaning.specs.Meaning.{meaning, whole_run}
use Rattle.cost_report.specs.Span.{turns_span, iterate_span, call_span, whole_span}

-- how a program ends, its work and its span
abbrev costs : Program → List Table → ℕ → Stop × ℕ × ℕ
costs p ts fuel = ((meaning p ts fuel).stop, (meaning p ts fuel).ticks, whole_span p ts fuel)

module _ (g : Global) (q : Ptr) where
  vec : {A : Type 0} (xs : List A) → length xs < 2 ^ 63 → Vec A Global
  vec xs h = record { ptr = null_ptr; len = length xs; cap = length xs; alloc = g; items = xs; ok = (refl, omega arith); small = h }

  at : Place
  at = record { line = 1; col = 1 }

  nm : ℕ → Name
  unfolding vec at
  nm c = record { text = vec (c ∷ []) (lit< tt); place = at }

  box : Expr → Box Expr Global
  box e = record { ptr = null_ptr; alloc = g; value = e }

  int : ℤ → Expr
  unfolding at
  int n = Int n at

  var : ℕ → Expr
  unfolding nm vec at
  var c = Var (nm c)

  bin : BinOp → Expr → Expr → Expr
  unfolding box at
  bin o a b = Bin o at (box a) (box b)

  cell : ℕ → Expr → Expr → Expr
  unfolding box nm vec at
  cell t a b = Cell (nm t) (box a) (box b)

  none : {A : Type 0} → Vec A Global
  unfolding vec
  none = vec [] (lit< tt)

  one : Stmt → Vec Stmt Global
  unfolding vec
  one s = vec (s ∷ []) (lit< tt)

  two : Stmt → Stmt → Vec Stmt Global
  unfolding vec
  two s t = vec (s ∷ t ∷ []) (lit< tt)

  par : ℕ → Expr → Expr → Vec Reduce Global → Vec Stmt Global → Stmt
  unfolding nm vec at none
  par x a b rs body = Par (record { place = at; var = nm x; from = a; to = b; carry_place = at; carries = none; reduces = rs; body = body })

  sums : ℕ → Vec Reduce Global
  unfolding nm vec at
  sums x = vec (record { target = nm x; op = Add } ∷ []) (lit< tt)

  main : Vec Stmt Global → Program
  unfolding none vec
  main body = record { tables = none; funcs = none; main = body }

  -- the sum of a table's rows: its iterations run at once
  total : Program
  unfolding vec at nm box int var bin cell none one two par sums main
  total = record { tables = vec (Input (nm 97) ∷ []) (lit< tt); funcs = none; main = two (Let (nm 115) (int (pos 0))) (par 105 (int (pos 0)) (Rows (nm 97)) (sums 115) (one (Fold (nm 115) (cell 97 (var 105) (int (pos 0)))))) }

  total_costs : costs total (record { name = 97 ∷ []; rows = 4; cols = 1; cells = pos 1 ∷ pos 2 ∷ pos 3 ∷ pos 4 ∷ [] } ∷ []) 100 ≡ (Done, 4, 1)
  unfolding vec at nm box int var bin cell none one two par sums main total meaning whole_run whole_span iterate turns call_at iterate_span turns_span call_span hidden-the_row-Stmt-0 shape-the_row-Stmt-0 denote.Hole.Carrier.hidden int_wrap digits
  total_costs = refl

  -- a `par` in a `par`: the greatest of the outer iterations
  nested : Program
  unfolding vec at nm box int var bin cell none one two par sums main
  nested = record { tables = vec (Made (nm 116) (int (pos 3)) (int (pos 3)) ∷ []) (lit< tt); funcs = none; main = one (par 105 (int (pos 0)) (int (pos 3)) none (one (par 106 (int (pos 0)) (int (pos 3)) none (one (Put (nm 116) (var 105) (var 106) (var 106)))))) }

  nested_costs : costs nested [] 100 ≡ (Done, 12, 2)
  unfolding vec at nm box int var bin cell none one two par sums main nested meaning whole_run whole_span iterate turns call_at iterate_span turns_span call_span hidden-the_row-Stmt-0 shape-the_row-Stmt-0 denote.Hole.Carrier.hidden int_wrap digits
  nested_costs = refl

  nested_spent : costs nested [] 11 ≡ (NoFuel, 12, 2)
  unfolding vec at nm box int var bin cell none one two par sums main nested meaning whole_run whole_span iterate turns call_at iterate_span turns_span call_span hidden-the_row-Stmt-0 shape-the_row-Stmt-0 denote.Hole.Carrier.hidden int_wrap digits
  nested_spent = refl

  -- iterations of unequal length: a loop in a `par`, of which the first is the longest
  unequal : Program
  unfolding vec at nm box int var bin cell none one two par sums main
  unequal = main (one (par 105 (int (pos 0)) (int (pos 3)) none (one (Loop (nm 106) (bin op.Mul (var 105) (var 105)) (int (pos 3)) none))))

  unequal_costs : costs unequal [] 100 ≡ (Done, 8, 4)
  unfolding vec at nm box int var bin cell none one two par sums main unequal meaning whole_run whole_span iterate turns call_at iterate_span turns_span call_span hidden-the_row-Stmt-0 shape-the_row-Stmt-0 denote.Hole.Carrier.hidden int_wrap digits
  unequal_costs = refl

  -- a `par` in a loop: each turn adds its own, and a `par` without iterations adds nothing
  in_turn : Program
  unfolding vec at nm box int var bin cell none one two par sums main
  in_turn = main (two (Loop (nm 106) (int (pos 0)) (int (pos 3)) (one (par 105 (int (pos 0)) (var 106) none none))) (While (int (pos 0)) none))

  in_turn_costs : costs in_turn [] 100 ≡ (Done, 6, 5)
  unfolding vec at nm box int var bin cell none one two par sums main in_turn meaning whole_run whole_span iterate turns call_at iterate_span turns_span call_span hidden-the_row-Stmt-0 shape-the_row-Stmt-0 denote.Hole.Carrier.hidden int_wrap digits
  in_turn_costs = refl

  -- the second iteration leaves: it has the span of what it ran, and no further one is begun
  found : Program
  unfolding vec at nm box int var bin cell none one two par sums main
  found = main (two (Let (nm 120) (int (pos 0))) (par 105 (int (pos 0)) (int (pos 4)) none (one (Loop (nm 106) (int (pos 0)) (int (pos 3)) (one (If (bin op.Eq (var 105) (int (pos 1))) (one (Leave (nm 120) (var 105))) none))))))

  found_costs : costs found [] 100 ≡ (Done, 6, 4)
  unfolding vec at nm box int var bin cell none one two par sums main found meaning whole_run whole_span iterate turns call_at iterate_span turns_span call_span hidden-the_row-Stmt-0 shape-the_row-Stmt-0 denote.Hole.Carrier.hidden int_wrap digits
  found_costs = refl

  -- the first iteration leaves, and what comes behind the `par` is run
  left_first : Program
  unfolding vec at nm box int var bin cell none one two par sums main
  left_first = main (two (Let (nm 120) (int (pos 0))) (par 105 (int (pos 0)) (int (pos 4)) none (two (Loop (nm 106) (int (pos 0)) (int (pos 2)) none) (Leave (nm 120) (var 105)))))

  left_first_costs : costs left_first [] 100 ≡ (Done, 3, 3)
  unfolding vec at nm box int var bin cell none one two par sums main left_first meaning whole_run whole_span iterate turns call_at iterate_span turns_span call_span hidden-the_row-Stmt-0 shape-the_row-Stmt-0 denote.Hole.Carrier.hidden int_wrap digits
  left_first_costs = refl

  -- a function that takes its argument's number of turns
  long : Func
  unfolding vec at nm box int var bin cell none one two par sums main
  long = record { name = nm 102; params = vec (nm 110 ∷ []) (lit< tt); body = one (Loop (nm 106) (int (pos 0)) (var 110) none); result = (var 110) }

  -- two calls at once, of as many turns as these numbers
  both_of : ℤ → ℤ → Program
  unfolding vec at nm box int var bin cell none one two par sums main long
  both_of m k = record { tables = none; funcs = vec (long ∷ []) (lit< tt); main = vec (Let (nm 120) (int (pos 0)) ∷ Let (nm 121) (int (pos 0)) ∷ Both (nm 120) (record { callee = nm 102; args = vec (int m ∷ []) (lit< tt) }) (nm 121) (record { callee = nm 102; args = vec (int k ∷ []) (lit< tt) }) ∷ []) (lit< tt) }

  greater_first : costs (both_of (pos 5) (pos 2)) [] 100 ≡ (Done, 9, 6)
  unfolding vec at nm box int var bin cell none one two par sums main long both_of meaning whole_run whole_span iterate turns call_at iterate_span turns_span call_span hidden-the_row-Stmt-0 shape-the_row-Stmt-0 denote.Hole.Carrier.hidden int_wrap digits
  greater_first = refl

  greater_second : costs (both_of (pos 2) (pos 5)) [] 100 ≡ (Done, 9, 6)
  unfolding vec at nm box int var bin cell none one two par sums main long both_of meaning whole_run whole_span iterate turns call_at iterate_span turns_span call_span hidden-the_row-Stmt-0 shape-the_row-Stmt-0 denote.Hole.Carrier.hidden int_wrap digits
  greater_second = refl

  -- Fibonacci's numbers by two calls at once: a tick a level
  fib : Func
  unfolding vec at nm box int var bin cell none one two par sums main
  fib = record { name = nm 102; params = vec (nm 110 ∷ []) (lit< tt); body = two (Let (nm 114) (var 110)) (If (bin op.Lt (int (pos 1)) (var 110)) (vec (Let (nm 120) (int (pos 0)) ∷ Let (nm 121) (int (pos 0)) ∷ Both (nm 120) (record { callee = nm 102; args = vec (bin op.Sub (var 110) (int (pos 1)) ∷ []) (lit< tt) }) (nm 121) (record { callee = nm 102; args = vec (bin op.Sub (var 110) (int (pos 2)) ∷ []) (lit< tt) }) ∷ Set (nm 114) (bin op.Add (var 120) (var 121)) ∷ []) (lit< tt)) none); result = (var 114) }

  -- the number of 10
  fib_of : Program
  unfolding vec at nm box int var bin cell none one two par sums main fib
  fib_of = record { tables = none; funcs = vec (fib ∷ []) (lit< tt); main = two (Let (nm 120) (int (pos 0))) (Call (nm 120) (record { callee = nm 102; args = vec (int (pos 10) ∷ []) (lit< tt) })) }

  fib_costs : costs fib_of [] 177 ≡ (Done, 177, 10)
  unfolding vec at nm box int var bin cell none one two par sums main fib fib_of meaning whole_run whole_span iterate turns call_at iterate_span turns_span call_span hidden-the_row-Stmt-0 shape-the_row-Stmt-0 denote.Hole.Carrier.hidden int_wrap digits
  fib_costs = refl

  fib_spent : costs fib_of [] 176 ≡ (NoFuel, 177, 10)
  unfolding vec at nm box int var bin cell none one two par sums main fib fib_of meaning whole_run whole_span iterate turns call_at iterate_span turns_span call_span hidden-the_row-Stmt-0 shape-the_row-Stmt-0 denote.Hole.Carrier.hidden int_wrap digits
  fib_spent = refl
