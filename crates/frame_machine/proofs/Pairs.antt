-- A pair of calls that is cut: the first call, then the second from no ticks, joined, is both.
use Rattle.frame_machine.proofs.Following.{Joined, after_goes, done_first, goes_done, joined_from}
use Rattle.frame_machine.proofs.Guarding.{KeptCall}
use Rattle.frame_machine.proofs.Guards.{kept_call}
use Rattle.frame_machine.proofs.Joining.{joined_within, up_done}
use Rattle.frame_machine.proofs.Moving.{Base, NearCall}
use Rattle.frame_machine.proofs.MovingCalls.{near_call}
use Rattle.frame_machine.proofs.Owning.{Clear}
use Rattle.frame_machine.proofs.Tables.{agree_trans}
use Rattle.frame_machine.specs.FrameLaws.{LawfulCalls, PairJoins, WholeCells}
use Rattle.frame_machine.specs.Iterating.{NoCell}
use Rattle.frame_machine.specs.Lawful.{Callable}
use Rattle.frame_machine.specs.Modes.{Modes}
use Rattle.frame_machine.specs.Parts.{AgreeOn, NotesKeep, Outside}
use Rattle.loop_meaning.specs.Calls.{call_at}
use Rattle.loop_meaning.specs.Ends.{EndAlike}
use Rattle.loop_meaning.specs.Frames.{one_call, two_calls_of}
use Rattle.loop_meaning.specs.State.{Chance, Note, State, after, go_on}
use Rattle.loop_meaning.specs.Statements.{Called}
use Rattle.loop_syntax.specs.declared.Program.{Program}
use Rattle.std.proofs.Common.{List, [], ap, arith, refl, subst, sym, ℕ, ℤ, ◌+◌, ◌∙◌, ◌∷◌, ◌≡◌, ◌≤◌}
use Rattle.std.proofs.lemmas.List.{append-nil}
use Rattle.tp_value.specs.declared.Place.{Place}
use Rattle.tp_value.specs.declared.Stop.{Stop}
use Rattle.tp_value.specs.declared.Stop.TheVariants.{Done, Left, NoFuel, Trap}

module _ (p : Program) (m : Modes) (fuel room : ℕ) (f g : List ℕ) (rules : LawfulCalls p m f g) where
  abbrev call : List ℕ → Place → List ℤ → List Note → State → Called
  call = call_at p.funcs.items fuel room

  clear : Clear (WholeCells m) m
  clear t e i j = e

  -- a call leaves variables, tables and output, and reads only whole tables
  pub call_keeps : (h : List ℕ) → Callable p m h → (place : Place) (ns : List ℤ) (b : List Note) → NotesKeep (WholeCells m) NoCell b → (u : State) → KeptCall (WholeCells m) NoCell u (call h place ns b u)
  call_keeps h safe place ns b k u = kept_call (WholeCells m) NoCell m clear (Callable p m) p.funcs.items fuel rules.functions room h safe place ns b k u

  module _ (place : Place) (ns : List ℤ) (second_place : Place) (ms : List ℤ) (s u : State)
      (within : s.ticks ≤ fuel) (given : AgreeOn (WholeCells m) u.tables s.tables) (ticks : u.ticks ≡ 0) (output : u.output ≡ []) where
    low : Called
    low = call f place ns (Chance ∷ []) s

    up : Called
    up = call g second_place ms [] u

    next : State → Called
    next v = call g second_place ms [] v

    kept : KeptCall (WholeCells m) NoCell s low
    unfolding low
    kept = call_keeps f rules.first place ns (Chance ∷ []) (tt, tt) s

    next_kept : (v : State) → KeptCall (WholeCells m) NoCell v (next v)
    unfolding next
    next_kept v = call_keeps g rules.second second_place ms [] tt v

    near_first : NearCall fuel 0 [] (WholeCells m) (λ v. call f place ns (Chance ∷ []) v)
    near_first = near_call fuel 0 [] (WholeCells m) m clear (Callable p m) p.funcs.items rules.functions room f rules.first place ns (Chance ∷ [])

    near_next : NearCall fuel low.ran.state.ticks low.ran.state.output (WholeCells m) next
    unfolding next
    near_next = near_call fuel low.ran.state.ticks low.ran.state.output (WholeCells m) m clear (Callable p m) p.funcs.items rules.functions room g rules.second second_place ms []

    inside : AgreeOn (Outside NoCell) s.tables low.ran.state.tables → AgreeOn (WholeCells m) s.tables low.ran.state.tables
    inside a t = record { rows = (a t).rows; cols = (a t).cols; size = (a t).size; cells = λ i j w h. (a t).cells i j (λ z. z) h }

    base : low.ran.stop ≡ Done → Base fuel low.ran.state.ticks low.ran.state.output (WholeCells m) u low.ran.state
    unfolding low
    base d = record {
      tables = agree_trans (WholeCells m) u.tables s.tables low.ran.state.tables given (inside (kept.tables (goes_done d)));
      output = sym (rw output (append-nil low.ran.state.output));
      ticks = rw ticks (omega arith);
      fits = (near_first.later s).keeps within (goes_done d);
    }

    joined : Joined fuel (Base fuel low.ran.state.ticks low.ran.state.output (WholeCells m)) low.ran up.ran (after low.ran (λ v. (next v).ran))
    unfolding up next
    joined = joined_from fuel (Base fuel low.ran.state.ticks low.ran.state.output (WholeCells m)) low.ran (λ v. (next v).ran) u (λ d. near_next.near u low.ran.state (base d))

    low_ends : (after low.ran (λ v. (next v).ran)).stop ≡ Done → low.ran.stop ≡ Done
    low_ends d = done_first low.ran (λ v. (next v).ran) d

    goes_on : (after low.ran (λ v. (next v).ran)).stop ≡ Done → EndAlike (after low.ran (λ v. (next v).ran)) (next low.ran.state).ran
    goes_on d = after_goes low.ran (λ v. (next v).ran) (low_ends d)

    value : (after low.ran (λ v. (next v).ran)).stop ≡ Done → (next low.ran.state).value ≡ up.value
    unfolding up next
    value d =
        let e = sym joined.stop ∙ d in
        let w : low.ran.state.ticks + up.ran.state.ticks ≤ fuel = joined_within low.ran.stop low.ran.state.ticks up.ran.stop up.ran.state.ticks fuel e (low_ends d) in
        near_next.value u low.ran.state (base (low_ends d)) (omega (arith, w)) (up_done low.ran.stop low.ran.state.ticks up.ran.stop up.ran.state.ticks fuel e)

    outputs : (after low.ran (λ v. (next v).ran)).state.output ≡ s.output
    outputs = go low.ran.stop refl
      where
        go : (x : Stop) → low.ran.stop ≡ x → (go_on x low.ran (λ v. (next v).ran)).state.output ≡ s.output
        go Done e = (next_kept low.ran.state).output ∙ kept.output
        go (Left n) e = kept.output
        go (Trap a b) e = kept.output
        go NoFuel e = kept.output

    pub pair_joins : PairJoins fuel s (one_call (call f place ns (Chance ∷ []) s)) (one_call (call g second_place ms [] u)) (two_calls_of (call f place ns (Chance ∷ []) s) (call g second_place ms []))
    unfolding low up next
    pair_joins = record {
      stop = joined.stop;
      ticks = joined.ticks;
      results = λ d. ap (λ n. low.value ∷ n ∷ []) (value d);
      vars = λ d. ap (λ z. z.vars) (goes_on d).state ∙ (next_kept low.ran.state).vars (goes_done (sym (goes_on d).stop ∙ d)) ∙ kept.vars (goes_done (low_ends d));
      tables = λ d. agree_trans (Outside NoCell) s.tables low.ran.state.tables (after low.ran (λ v. (next v).ran)).state.tables (kept.tables (goes_done (low_ends d)))
          (subst (λ (z : State). AgreeOn (Outside NoCell) low.ran.state.tables z.tables) (sym (goes_on d).state) ((next_kept low.ran.state).tables (goes_done (sym (goes_on d).stop ∙ d))));
      output = outputs;
    }
