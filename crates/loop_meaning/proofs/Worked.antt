-- Worked programs, computed from the definitions, so that a reader sees what these say.
use Rattle.std.proofs.Common.{◌≡◌, ℕ, ◌<◌, ◌^◌, ℤ, pos, negsuc, Vec, Box, List, [], ◌∷◌, refl}
use Rattle.std.proofs.Common.{length, arith, lit<, codes}
use Rattle.std.specs.Int.{int_wrap}
use Rattle.std.specs.Fmt.{digits}
use Rattle.std.specs.declared.alloc.Global.{Global}
use denote.RawPtr.{Ptr, null_ptr}
use Rattle.tp_value.specs.declared.Place.{Place}
use Rattle.tp_value.specs.declared.TrapKind.TheVariants.{Divide, Index, Deep, Wide}
use Rattle.tp_value.specs.declared.Stop.TheVariants.{Done, Trap, NoFuel}
use Rattle.loop_syntax.specs.declared.Name.{Name}
use Rattle.loop_syntax.specs.declared.BinOp.{BinOp}
use Rattle.loop_syntax.specs.declared.BinOp.TheVariants as op
use Rattle.loop_syntax.specs.declared.Expr.{Expr}
use Rattle.loop_syntax.specs.declared.Expr.TheVariants.{Int, Var, Cell, Bin}
use Rattle.loop_syntax.specs.declared.App.{App}
use Rattle.loop_syntax.specs.declared.Stmt.{Stmt}
use Rattle.loop_syntax.specs.declared.Stmt.TheBlock.{hidden-the_row-Stmt-0, shape-the_row-Stmt-0}
use Rattle.loop_syntax.specs.declared.Stmt.TheVariants.{Let, Set, Put, If, Loop, Par, Fold, Call}
use Rattle.loop_syntax.specs.declared.Stmt.TheVariants.{Both, Print, Emit, Leave}
use Rattle.loop_syntax.specs.declared.Func.{Func}
use Rattle.loop_syntax.specs.declared.Reduce.{Reduce}
use Rattle.loop_syntax.specs.declared.TableDecl.TheVariants.{Made}
use Rattle.tp_value.specs.declared.Op.TheVariants.{Add}
use Rattle.loop_syntax.specs.declared.Program.{Program}
use Rattle.loop_meaning.specs.Statements.{iterate, turns}
use Rattle.loop_meaning.specs.Calls.{call_at}
use Rattle.loop_meaning.specs.Meaning.{meaning, whole_run, chances, first_state}
use Rattle.loop_meaning.specs.Answers.{text_of}

module _ (g : Global) (q : Ptr) where
  vec : {A : Type 0} (xs : List A) → length xs < 2 ^ 63 → Vec A Global
  vec xs h = record { ptr = null_ptr; len = length xs; cap = length xs; alloc = g; items = xs; ok = (refl, omega arith); small = h }

  at : ℕ → ℕ → Place
  at l c = record { line = l; col = c }

  nm : ℕ → Name
  unfolding vec at
  nm c = record { text = vec (c ∷ []) (lit< tt); place = at 1 c }

  box : Expr → Box Expr Global
  box e = record { ptr = null_ptr; alloc = g; value = e }

  three_turns : Program
  unfolding vec nm at
  three_turns = record { tables = vec [] (lit< tt); funcs = vec [] (lit< tt); main = vec (Loop (nm 105) (Int (pos 0) (at 1 1)) (Int (pos 3) (at 1 1)) (vec [] (lit< tt)) ∷ []) (lit< tt) }

  loop_done : meaning three_turns [] 3 ≡ record { stop = Done; output = []; ticks = 3 }
  unfolding vec nm at three_turns meaning whole_run iterate turns call_at hidden-the_row-Stmt-0 shape-the_row-Stmt-0 denote.Hole.Carrier.hidden
  loop_done = refl

  loop_spent : meaning three_turns [] 2 ≡ record { stop = NoFuel; output = []; ticks = 3 }
  unfolding vec nm at three_turns meaning whole_run iterate turns call_at hidden-the_row-Stmt-0 shape-the_row-Stmt-0 denote.Hole.Carrier.hidden
  loop_spent = refl

  int : ℤ → Expr
  unfolding at
  int n = Int n (at 1 1)

  var : ℕ → Expr
  unfolding nm vec at
  var c = Var (nm c)

  bin : BinOp → Place → Expr → Expr → Expr
  unfolding box
  bin o p a b = Bin o p (box a) (box b)

  none : {A : Type 0} → Vec A Global
  unfolding vec
  none = vec [] (lit< tt)

  low : Program
  unfolding vec nm at int var bin box none
  low = record {
    tables = none;
    funcs = none;
    main = vec (Let (nm 109) (bin op.Sub (at 1 1) (bin op.Sub (at 1 1) (int (pos 0)) (int (pos 9223372036854775807))) (int (pos 1)))
        ∷ Print (at 1 1) (bin op.Div (at 1 1) (var 109) (int (negsuc 0)))
        ∷ Print (at 1 1) (bin op.Rem (at 1 1) (var 109) (int (negsuc 0))) ∷ []) (lit< tt);
  }

  least_quotient : meaning low [] 0 ≡ record { stop = Done; output = codes "-9223372036854775808\n0\n"; ticks = 0 }
  unfolding vec nm at box int var bin none low meaning whole_run iterate turns call_at hidden-the_row-Stmt-0 shape-the_row-Stmt-0 denote.Hole.Carrier.hidden int_wrap digits
  least_quotient = refl

  fib_call : ℤ → App
  unfolding vec nm at int var bin box
  fib_call d = record { callee = nm 102; args = vec (bin op.Sub (at 1 1) (var 110) (int d) ∷ []) (lit< tt) }

  fib : Func
  unfolding vec nm at int var bin box none fib_call
  fib = record {
    name = nm 102;
    params = vec (nm 110 ∷ []) (lit< tt);
    body = vec (Let (nm 114) (var 110)
        ∷ If (bin op.Lt (at 1 1) (int (pos 1)) (var 110))
        (vec (Let (nm 97) (int (pos 0)) ∷ Let (nm 98) (int (pos 0)) ∷ Both (nm 97) (fib_call (pos 1)) (nm 98) (fib_call (pos 2))
        ∷ Set (nm 114) (bin op.Add (at 1 1) (var 97) (var 98)) ∷ []) (lit< tt)) none ∷ []) (lit< tt);
    result = var 114;
  }

  fib_of : ℤ → Program
  unfolding vec nm at int var bin box none fib_call fib
  fib_of n = record {
    tables = none;
    funcs = vec (fib ∷ []) (lit< tt);
    main = vec (Let (nm 120) (int (pos 0)) ∷ Call (nm 120) (record { callee = nm 102; args = vec (int n ∷ []) (lit< tt) }) ∷ Print (at 1 1) (var 120) ∷ []) (lit< tt);
  }

  small_fib : meaning (fib_of (pos 3)) [] 5 ≡ record { stop = Done; output = codes "2\n"; ticks = 5 }
  unfolding vec nm at box int var bin none fib_call fib fib_of meaning whole_run iterate turns call_at hidden-the_row-Stmt-0 shape-the_row-Stmt-0 denote.Hole.Carrier.hidden int_wrap digits
  small_fib = refl

  fib_done : meaning (fib_of (pos 10)) [] 177 ≡ record { stop = Done; output = codes "55\n"; ticks = 177 }
  unfolding vec nm at box int var bin none fib_call fib fib_of meaning whole_run iterate turns call_at hidden-the_row-Stmt-0 shape-the_row-Stmt-0 denote.Hole.Carrier.hidden int_wrap digits
  fib_done = refl

  fib_spent : meaning (fib_of (pos 10)) [] 176 ≡ record { stop = NoFuel; output = []; ticks = 177 }
  unfolding vec nm at box int var bin none fib_call fib fib_of meaning whole_run iterate turns call_at hidden-the_row-Stmt-0 shape-the_row-Stmt-0 denote.Hole.Carrier.hidden int_wrap digits
  fib_spent = refl

  par : Place → ℕ → ℤ → ℤ → Vec Reduce Global → Vec Stmt Global → Stmt
  unfolding nm vec int at none
  par p x a b rs body = Par (record { place = p; var = nm x; from = int a; to = int b; carry_place = p; carries = none; reduces = rs; body = body })

  at_nm : ℕ → ℕ → ℕ → Name
  unfolding vec at
  at_nm c l k = record { text = vec (c ∷ []) (lit< tt); place = at l k }

  two_traps : Program
  unfolding vec nm at int var bin box none par at_nm
  two_traps = record {
    tables = vec (Made (nm 116) (int (pos 2)) (int (pos 1)) ∷ []) (lit< tt);
    funcs = none;
    main = vec (Let (nm 115) (int (pos 0))
        ∷ par (at 4 3) 105 (pos 0) (pos 4) (vec (record { target = nm 115; op = Add } ∷ []) (lit< tt))
        (vec (If (bin op.Eq (at 1 1) (var 105) (int (pos 1))) (vec (Fold (nm 115) (Cell (at_nm 116 5 29) (box (int (pos 9))) (box (int (pos 0)))) ∷ []) (lit< tt)) none
        ∷ If (bin op.Eq (at 1 1) (var 105) (int (pos 3))) (vec (Fold (nm 115) (bin op.Div (at 6 31) (int (pos 1)) (int (pos 0))) ∷ []) (lit< tt)) none ∷ []) (lit< tt))
        ∷ Print (at 1 1) (var 115) ∷ []) (lit< tt);
  }

  first_trap : meaning two_traps [] 1000000000 ≡ record { stop = Trap Index (at 5 29); output = []; ticks = 2 }
  unfolding vec nm at box int var bin none par at_nm two_traps meaning whole_run iterate turns call_at hidden-the_row-Stmt-0 shape-the_row-Stmt-0 denote.Hole.Carrier.hidden int_wrap digits
  first_trap = refl

  late_trap : Program
  unfolding vec nm at int var bin box none par
  late_trap = record {
    tables = none;
    funcs = none;
    main = vec (Let (nm 122) (int (pos 0))
        ∷ par (at 3 3) 105 (pos 0) (pos 4) none
        (vec (Let (nm 113) (int (pos 1))
        ∷ If (bin op.Eq (at 1 1) (var 105) (int (pos 3))) (vec (Set (nm 113) (bin op.Div (at 5 23) (int (pos 1)) (var 122)) ∷ []) (lit< tt)) none ∷ []) (lit< tt)) ∷ []) (lit< tt);
  }

  trap_first : meaning late_trap [] 4 ≡ record { stop = Trap Divide (at 5 23); output = []; ticks = 4 }
  unfolding vec nm at box int var bin none par late_trap meaning whole_run iterate turns call_at hidden-the_row-Stmt-0 shape-the_row-Stmt-0 denote.Hole.Carrier.hidden int_wrap digits
  trap_first = refl

  fuel_first : meaning late_trap [] 3 ≡ record { stop = NoFuel; output = []; ticks = 4 }
  unfolding vec nm at box int var bin none par late_trap meaning whole_run iterate turns call_at hidden-the_row-Stmt-0 shape-the_row-Stmt-0 denote.Hole.Carrier.hidden int_wrap digits
  fuel_first = refl

  times : Program
  unfolding vec nm at int var bin box none par
  times = record {
    tables = vec (Made (nm 116) (int (pos 3)) (int (pos 3)) ∷ []) (lit< tt);
    funcs = none;
    main = vec (par (at 3 3) 105 (pos 0) (pos 3) none
        (vec (par (at 4 5) 106 (pos 0) (pos 3) none
        (vec (Put (nm 116) (var 105) (var 106) (bin op.Mul (at 1 1) (bin op.Add (at 1 1) (var 105) (int (pos 1))) (bin op.Add (at 1 1) (var 106) (int (pos 1)))) ∷ []) (lit< tt)) ∷ []) (lit< tt))
        ∷ Emit (at 6 3) (nm 116) ∷ []) (lit< tt);
  }

  nested_loops : meaning times [] 1000000000 ≡ record { stop = Done; output = codes "1 2 3\n2 4 6\n3 6 9\n"; ticks = 12 }
  unfolding vec nm at box int var bin none par times meaning whole_run iterate turns call_at hidden-the_row-Stmt-0 shape-the_row-Stmt-0 denote.Hole.Carrier.hidden int_wrap digits
  nested_loops = refl

  wide : Program
  unfolding vec nm at int none par
  wide = record {
    tables = none;
    funcs = none;
    main = vec (par (at 1 8) 105 (pos 5) (pos 5) none none ∷ par (at 1 26) 105 (pos 7) (pos 2) none none ∷ par (at 1 44) 105 (pos 0) (pos 1099511627777) none none ∷ []) (lit< tt);
  }

  wide_par : meaning wide [] 1000000000 ≡ record { stop = Trap Wide (at 1 44); output = []; ticks = 0 }
  unfolding vec nm at box int none par wide meaning whole_run iterate turns call_at hidden-the_row-Stmt-0 shape-the_row-Stmt-0 denote.Hole.Carrier.hidden int_wrap digits
  wide_par = refl

  -- at the greatest depth a call counts its tick and traps; without fuel it stops at the tick
  too_deep : (call_at [] 5 0 (102 ∷ []) (at 3 23) [] [] first_state).ran.stop ≡ Trap Deep (at 3 23)
  unfolding at call_at
  too_deep = refl

  spent_first : (call_at [] 0 0 (102 ∷ []) (at 3 23) [] [] first_state).ran.stop ≡ NoFuel
  unfolding at call_at
  spent_first = refl

  -- two iterations of the outer loop and six of the inner ones aren't the first
  loop_chances : chances times [] 1000000000 ≡ 8
  unfolding vec nm at box int var bin none par times chances whole_run iterate turns call_at hidden-the_row-Stmt-0 shape-the_row-Stmt-0 denote.Hole.Carrier.hidden int_wrap digits
  loop_chances = refl

  -- the first calls for 3 and for 2
  call_chances : chances (fib_of (pos 3)) [] 5 ≡ 2
  unfolding vec nm at box int var bin none fib_call fib fib_of chances whole_run iterate turns call_at hidden-the_row-Stmt-0 shape-the_row-Stmt-0 denote.Hole.Carrier.hidden int_wrap digits
  call_chances = refl

  trap_text : text_of (meaning two_traps [] 1000000000) ≡ codes "trap Index at 5:29\n"
  unfolding vec nm at box int var bin none par at_nm two_traps meaning whole_run iterate turns call_at hidden-the_row-Stmt-0 shape-the_row-Stmt-0 denote.Hole.Carrier.hidden int_wrap digits
  trap_text = refl

  spent_text : text_of (meaning three_turns [] 2) ≡ codes "out of fuel\n"
  unfolding vec nm at three_turns meaning whole_run iterate turns call_at hidden-the_row-Stmt-0 shape-the_row-Stmt-0 denote.Hole.Carrier.hidden
  spent_text = refl

  -- the second iteration leaves the outer loop from the inner one; the trap behind it isn't met
  found : Program
  unfolding vec nm at int var bin box none par
  found = record {
    tables = none;
    funcs = none;
    main = vec (Let (nm 120) (int (negsuc 0))
        ∷ par (at 3 3) 105 (pos 0) (pos 4) none
        (vec (Loop (nm 106) (int (pos 0)) (int (pos 3))
        (vec (If (bin op.Eq (at 1 1) (var 105) (int (pos 1))) (vec (Leave (nm 120) (bin op.Mul (at 1 1) (int (pos 7)) (var 105)) ∷ []) (lit< tt)) none ∷ []) (lit< tt))
        ∷ If (bin op.Eq (at 1 1) (var 105) (int (pos 2))) (vec (Let (nm 113) (bin op.Div (at 6 31) (int (pos 1)) (int (pos 0))) ∷ []) (lit< tt)) none ∷ []) (lit< tt))
        ∷ Print (at 1 1) (var 120) ∷ []) (lit< tt);
  }

  found_done : meaning found [] 6 ≡ record { stop = Done; output = codes "7\n"; ticks = 6 }
  unfolding vec nm at box int var bin none par found meaning whole_run iterate turns call_at hidden-the_row-Stmt-0 shape-the_row-Stmt-0 denote.Hole.Carrier.hidden int_wrap digits
  found_done = refl

  found_spent : meaning found [] 5 ≡ record { stop = NoFuel; output = []; ticks = 6 }
  unfolding vec nm at box int var bin none par found meaning whole_run iterate turns call_at hidden-the_row-Stmt-0 shape-the_row-Stmt-0 denote.Hole.Carrier.hidden int_wrap digits
  found_spent = refl

  -- the iteration that leaves is begun, and isn't the first
  found_chances : chances found [] 6 ≡ 1
  unfolding vec nm at box int var bin none par found chances whole_run iterate turns call_at hidden-the_row-Stmt-0 shape-the_row-Stmt-0 denote.Hole.Carrier.hidden int_wrap digits
  found_chances = refl
