-- Numbers stay in the range of 64 bits in the iterations of a `par`.
use Rattle.frame_machine.proofs.Begins.{UnitsRight}
use Rattle.frame_machine.proofs.Ranges.{low}
use Rattle.frame_machine.specs.Iterating.{LoopInRange, iterations_in}
use Rattle.loop_meaning.proofs.Ranges.{runs_in_range}
use Rattle.loop_meaning.proofs.Runs.{run_loop_is}
use Rattle.loop_meaning.specs.Calls.{setting}
use Rattle.loop_meaning.specs.InRange.{InRange, StateInRange, StmtInRange, VariableInRange}
use Rattle.loop_meaning.specs.State.{Ran, State, after, go_on, lookup}
use Rattle.loop_meaning.specs.Statements.{Setting, iterate, run, run_list}
use Rattle.loop_meaning.specs.declared.value.Variable.{Variable}
use Rattle.loop_syntax.specs.declared.Expr.TheVariants.{Int}
use Rattle.loop_syntax.specs.declared.ParLoop.{ParLoop}
use Rattle.loop_syntax.specs.declared.Program.{Program}
use Rattle.loop_syntax.specs.declared.Reduce.{Reduce}
use Rattle.loop_syntax.specs.declared.Stmt.{Stmt}
use Rattle.loop_syntax.specs.declared.Stmt.TheVariants.{Loop}
use Rattle.reduce_ops.specs.Laws.{combine-unit_right}
use Rattle.std.proofs.Common.{All, Bool, List, [], arith, bytes_eq, cond, false, negsuc, pos, refl}
use Rattle.std.proofs.Common.{subst, true, ℕ, ℤ, ◌+ℤ◌, ◌-◌, ◌∷◌, ◌≡◌, ◌≤ℤ◌, ◌≤◌}
use Rattle.std.proofs.lemmas.Int.{ints}
use Rattle.std.proofs.lemmas.List.Elements.{All-cons, All-head, All-nil, All-tail}
use Rattle.std.specs.Int.{int_gap}
use Rattle.tp_value.specs.declared.Stop.{Stop}
use Rattle.tp_value.specs.declared.Stop.TheVariants.{Done, Left, NoFuel, Trap}
use Rattle.tp_value.specs.declared.limits.TheConstants.{MAX_CALL_DEPTH}

after_nothing : (k : Setting) (r : Ran) → (after r (run_list k [])).state ≡ r.state
after_nothing k r = go r.stop
  where
    go : (x : Stop) → (go_on x r (run_list k [])).state ≡ r.state
    go Done = refl
    go (Left m) = refl
    go (Trap a b) = refl
    go NoFuel = refl

gap_reaches : (a b : ℤ) → a ≤ℤ b → a +ℤ pos (int_gap a b) ≡ b
gap_reaches (pos a) (pos b) h = omega (arith, ints, h)
gap_reaches (pos a) (negsuc b) h = absurd (omega (arith, ints, h))
gap_reaches (negsuc a) (pos b) h = omega (arith, ints, h)
gap_reaches (negsuc a) (negsuc b) h = omega (arith, ints, h)

-- from i to n further there are n numbers
pub gap_is : (i : ℤ) (n : ℕ) → int_gap i (i +ℤ pos n) ≡ n
gap_is i n = let g = gap_reaches i (i +ℤ pos n) (omega (arith, ints)) in omega (arith, ints, g)

pub gap_back : (i j : ℤ) → i ≤ℤ j → i +ℤ pos (int_gap i j) ≡ j
gap_back i j h = gap_reaches i j h

module _ (p : Program) (fuel : ℕ) (l : ParLoop) (n : ℕ) (i : ℤ) (s : State) (h : LoopInRange p l s i (i +ℤ pos n)) where
  -- the same iterations as a `loop`
  as_loop : Stmt
  as_loop = Loop l.var (Int i l.place) (Int (i +ℤ pos n) l.place) l.body

  at_depth : (depth : ℕ) → StateInRange (iterate fuel l.var.text.items (run_list (setting p fuel depth l.reduces.items) l.body.items) [] [] n i s).state
  unfolding as_loop
  at_depth depth =
      let k : Setting = setting p fuel depth l.reduces.items in
      let all : StateInRange (run_list k (as_loop ∷ []) s).state =
      runs_in_range p fuel depth l.reduces.items (as_loop ∷ []) s h.funcs
      (All-cons StmtInRange as_loop [] (h.begins, h.ends, h.par.2) (All-nil StmtInRange)) h.state in
      let one : StateInRange (run k as_loop s).state = subst StateInRange (after_nothing k (run k as_loop s)) all in
      let two : StateInRange (iterate fuel l.var.text.items (run_list k l.body.items) [] [] (int_gap i (i +ℤ pos n)) i s).state =
      subst (λ (r : Ran). StateInRange r.state) (run_loop_is k as_loop l.var (Int i l.place) (Int (i +ℤ pos n) l.place) l.body s refl) one in
      subst (λ (m : ℕ). StateInRange (iterate fuel l.var.text.items (run_list k l.body.items) [] [] m i s).state) (gap_is i n) two

  pub iterations_in_range : (room : ℕ) → room ≤ MAX_CALL_DEPTH → StateInRange (iterations_in p fuel room l [] [] n i s).state
  iterations_in_range room low =
      let e : MAX_CALL_DEPTH - (MAX_CALL_DEPTH - room) ≡ room = omega arith in
      subst (λ (r : ℕ). StateInRange (iterations_in p fuel r l [] [] n i s).state) e (at_depth (MAX_CALL_DEPTH - room))

pub lookup_in_range : (vs : List Variable) (x : List ℕ) → All VariableInRange vs → InRange (lookup vs x)
lookup_in_range [] x h = omega (arith, ints)
lookup_in_range (v ∷ vs) x h = go (bytes_eq v.name x) (lookup_in_range vs x (All-tail VariableInRange v vs h))
  where
    go : (b : Bool) → InRange (lookup vs x) → InRange (cond b v.value (lookup vs x))
    go true r = All-head VariableInRange v vs h
    go false r = r

-- so the units stand on the right of what the variables hold
pub units_right : (rs : List Reduce) (vs : List Variable) → All VariableInRange vs → UnitsRight rs (λ y. lookup vs y)
units_right rs vs h y o e = combine-unit_right o (lookup vs y) (lookup_in_range vs y h)
