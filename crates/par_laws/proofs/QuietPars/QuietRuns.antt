-- The ticks and the numbers of iterations of a `par`.
use Rattle.std.proofs.Common.{◌≡◌, ⊎_elim, ℕ, ◌+◌, ◌-◌, ◌<◌, ◌≤◌, [], ◌∷◌, refl, sym, ap, subst}
use Rattle.std.proofs.Common.{◌∙◌, arith}
use Rattle.std.specs.Prelude.{ℤ, pos, negsuc, ◌+ℤ◌, ◌≤ℤ◌}
use Rattle.std.specs.Int.{int_gap}
use Rattle.std.proofs.lemmas.Bool.{cases_lt}
use Rattle.std.proofs.lemmas.Int.{ints}
use Rattle.std.proofs.lemmas.List.Elements.{All-cons, All-nil}
use Rattle.tp_value.specs.declared.limits.TheConstants.{MAX_CALL_DEPTH}
use Rattle.tp_value.specs.declared.Stop.TheVariants.{Done, Left, Trap, NoFuel}
use Rattle.tp_value.specs.declared.Stop.{Stop}
use Rattle.loop_syntax.specs.declared.Expr.TheVariants.{Int}
use Rattle.loop_syntax.specs.declared.ParLoop.{ParLoop}
use Rattle.loop_syntax.specs.declared.Program.{Program}
use Rattle.loop_syntax.specs.declared.Stmt.{Stmt}
use Rattle.loop_syntax.specs.declared.Stmt.TheVariants.{Loop}
use Rattle.loop_meaning.specs.Calls.{setting}
use Rattle.loop_meaning.specs.InRange.{StateInRange, StmtInRange}
use Rattle.loop_meaning.specs.State.{Chance, Ran, State, after, go_on}
use Rattle.loop_meaning.specs.Statements.{Setting, iterate, run, run_list}
use Rattle.loop_meaning.specs.Told.{Moves, Spent, moved, moved_ran}
use Rattle.loop_meaning.proofs.Ranges.{runs_in_range}
use Rattle.loop_meaning.proofs.Runs.{iterate_notes, run_loop_is}
use Rattle.loop_meaning.proofs.Telling.{iterations_move}
use Rattle.frame_machine.specs.Iterating.{LoopInRange, body_setting, iterations_in}

-- a run from a state within the fuel that is done: its ticks
pub record IsWithin (fuel : ℕ) (s : State) (r : Ran) : Type 0 where
  pub later : s.ticks ≤ r.state.ticks
  pub within : r.state.ticks ≤ fuel

within_by : (fuel : ℕ) (f : State → Ran) (s : State) → Moves fuel f → s.ticks ≤ fuel
    → (f s).stop ≡ Done → IsWithin fuel s (f s)
within_by fuel f s moves within done =
    subst (λ (u : State). IsWithin fuel s (f u)) same
    (⊎_elim
    (λ (over : fuel < (f first).state.ticks + s.ticks). absurd (spent_done over))
    (λ (under : (f first).state.ticks + s.ticks ≤ fuel).
    let is : f (moved s.ticks [] first) ≡ moved_ran s.ticks [] (f first) =
    moves.suffices s.ticks [] first (omega (arith, within)) under in
    let ticks : (f (moved s.ticks [] first)).state.ticks ≡ (f first).state.ticks + s.ticks =
    ap (λ (r : Ran). r.state.ticks) is in
    record { later = omega (arith, ticks); within = omega (arith, ticks, under) })
    (cases_lt fuel ((f first).state.ticks + s.ticks)))
  where
    first : State
    first = record s { ticks = 0 }

    same : moved s.ticks [] first ≡ s
    same = ap (λ (n : ℕ). record s { ticks = n }) (omega arith)

    spent_done : fuel < (f first).state.ticks + s.ticks → ⊥
    spent_done over =
        let spent : Spent fuel (f (moved s.ticks [] first)) =
        moves.spent s.ticks [] first (omega (arith, within)) over in
        let here : (f s).stop ≡ NoFuel =
        ap (λ (u : State). (f u).stop) (sym same) ∙ spent.stop in
        let wrong : Done ≡ NoFuel = sym done ∙ here in
        cc

room_back : (room : ℕ) → room ≤ MAX_CALL_DEPTH → MAX_CALL_DEPTH - (MAX_CALL_DEPTH - room) ≡ room
room_back room low = omega (arith, low)

module _ (p : Program) (fuel : ℕ) (l : ParLoop) (n : ℕ) (i : ℤ) (s : State) where
  -- iterations that are done leave the ticks within the fuel
  pub iterations_within : (room : ℕ) → room ≤ MAX_CALL_DEPTH → s.ticks ≤ fuel
      → (iterations_in p fuel room l (Chance ∷ []) [] n i s).stop ≡ Done
      → IsWithin fuel s (iterations_in p fuel room l (Chance ∷ []) [] n i s)
  iterations_within room low within =
      subst (λ (r : ℕ). (iterations_in p fuel r l (Chance ∷ []) [] n i s).stop ≡ Done
      → IsWithin fuel s (iterations_in p fuel r l (Chance ∷ []) [] n i s)) (room_back room low)
      (within_by fuel
      (iterations_in p fuel (MAX_CALL_DEPTH - (MAX_CALL_DEPTH - room)) l (Chance ∷ []) [] n i) s
      (iterations_move p fuel (MAX_CALL_DEPTH - room) l.reduces.items l.body.items l.var.text.items
      (Chance ∷ []) [] refl refl n i) within)

-- ---- numbers

after_nothing : (k : Setting) (r : Ran) → (after r (run_list k [])).state ≡ r.state
after_nothing k r = go r.stop
  where
    go : (x : Stop) → (go_on x r (run_list k [])).state ≡ r.state
    go Done = refl
    go (Left number) = refl
    go (Trap a b) = refl
    go NoFuel = refl

gap_reaches : (a b : ℤ) → a ≤ℤ b → a +ℤ pos (int_gap a b) ≡ b
gap_reaches (pos a) (pos b) h = omega (arith, ints, h)
gap_reaches (pos a) (negsuc b) h = absurd (omega (arith, ints, h))
gap_reaches (negsuc a) (pos b) h = omega (arith, ints, h)
gap_reaches (negsuc a) (negsuc b) h = omega (arith, ints, h)

-- so many numbers stand between
many_between : (i : ℤ) (n : ℕ) → int_gap i (i +ℤ pos n) ≡ n
many_between i n =
    let g = gap_reaches i (i +ℤ pos n) (omega (arith, ints)) in omega (arith, ints, g)

module _ (p : Program) (fuel : ℕ) (l : ParLoop) (n : ℕ) (i : ℤ) (s : State)
    (h : LoopInRange p l s i (i +ℤ pos n)) where
  -- the same iterations as a `loop`
  as_loop : Stmt
  as_loop = Loop l.var (Int i l.place) (Int (i +ℤ pos n) l.place) l.body

  at_depth : (depth : ℕ)
      → StateInRange (iterations_in p fuel (MAX_CALL_DEPTH - depth) l [] [] n i s).state
  unfolding as_loop
  at_depth depth =
      let k : Setting = setting p fuel depth l.reduces.items in
      let all : StateInRange (run_list k (as_loop ∷ []) s).state =
      runs_in_range p fuel depth l.reduces.items (as_loop ∷ []) s h.funcs
      (All-cons StmtInRange as_loop [] (h.begins, h.ends, h.par.2) (All-nil StmtInRange))
      h.state in
      let one : StateInRange (run k as_loop s).state =
      subst StateInRange (after_nothing k (run k as_loop s)) all in
      let two : StateInRange (iterate fuel l.var.text.items (run_list k l.body.items) [] []
      (int_gap i (i +ℤ pos n)) i s).state =
      subst (λ (r : Ran). StateInRange r.state)
      (run_loop_is k as_loop l.var (Int i l.place) (Int (i +ℤ pos n) l.place) l.body s refl) one in
      subst (λ (m : ℕ). StateInRange
      (iterate fuel l.var.text.items (run_list k l.body.items) [] [] m i s).state)
      (many_between i n) two

  -- numbers stay in the range of 64 bits
  pub iterations_ranged : (room : ℕ) → room ≤ MAX_CALL_DEPTH
      → StateInRange (iterations_in p fuel room l (Chance ∷ []) [] n i s).state
  iterations_ranged room low =
      subst StateInRange
      (sym (iterate_notes n fuel l.var.text.items
      (run_list (body_setting p fuel room l) l.body.items) (Chance ∷ []) [] i s).state)
      (subst (λ (r : ℕ). StateInRange (iterations_in p fuel r l [] [] n i s).state)
      (room_back room low) (at_depth (MAX_CALL_DEPTH - room)))
