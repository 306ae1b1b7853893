-- What the tasks of a pair of calls owe: that of the whole its world's ending, where the result is
-- that of the call, and a side its own end.
use Rattle.std.proofs.Common.{◌≡◌, ◌⊎◌, inl, inr, ℕ, Bool, true, false, List, [], ◌++◌, length}
use Rattle.std.proofs.Common.{Option, None, Some, bytes_eq, drop, take, refl, sym, ap, subst, ◌∙◌}
use Rattle.std.proofs.Common.{arith, ◌≤◌}
use Rattle.std.specs.Prelude.{ℤ, ⊤, nat_le, ◌&&◌}
use Rattle.std.specs.Int.{w64}
use Rattle.std.specs.Ordering.{int_eq}
use Rattle.std.proofs.lemmas.Bool.Decides.{Decides-int_eq, nat_tests}
use Rattle.std.proofs.lemmas.Int.{SFits-int_wrap, int_wrap_fits}
use Rattle.std.proofs.lemmas.List.{take-append-drop}
use Rattle.std.proofs.lemmas.Slice.Eq.{bytes_eq-Decides}
use Rattle.std.proofs.Math.Seq.{drop-append_seam, take-append_seam}
use Rattle.std.specs.List.{AllByRecursion}
use Rattle.tp_value.specs.Number.{wrapped}
use Rattle.tp_value.specs.declared.Stop.{Stop}
use Rattle.tp_value.specs.declared.Stop.TheVariants.{Done, Left, NoFuel, Trap}
use Rattle.tp_value.specs.declared.Outcome.{Outcome}
use Rattle.loop_meaning.specs.InRange.{InRange}
use Rattle.loop_meaning.specs.State as meaning
use Rattle.loop_meaning.specs.State.{Chance, Note}
use Rattle.tpal_syntax.specs.declared.words.Word.TheVariants.{Int}
use Rattle.tpal_syntax.specs.Listing.{Listing}
use Rattle.tpal_machine.specs.declared.ends.End.TheVariants as place
use Rattle.tpal_machine.specs.declared.ends.Ending.{Ending}
use Rattle.tpal_machine.specs.declared.ends.Ending.TheVariants as ending
use Rattle.tpal_machine.specs.declared.ends.Goal.{Goal}
use Rattle.tpal_machine.specs.declared.ends.Goal.TheVariants as goal
use Rattle.tpal_machine.specs.declared.ends.SideName.{SideName}
use Rattle.tpal_machine.specs.declared.ends.Wait.{Wait}
use Rattle.tpal_machine.specs.Effect.{answered, with_answer}
use Rattle.tpal_machine.specs.Ended.{ended, ended_at}
use Rattle.tpal_machine.specs.Keeping.{JoinedKeeps, StepKeeps, place_of}
use Rattle.tpal_machine.specs.Merge.{ended_together}
use Rattle.tpal_machine.specs.Owes.{Bound, is_at_point}
use Rattle.tpal_machine.specs.Owes as owes
use Rattle.tpal_machine.specs.RestState.{end_of}
use Rattle.tpal_machine.specs.State.{State}
use Rattle.tpal_machine.specs.Step.{Beats, Ends, Goes, step}
use Rattle.tpal_machine.proofs.Keeping.{merge_keeps, step_keeps}
use Rattle.tpal_machine.proofs.Kit.{Back}
use Rattle.handler_gen.proofs.Reaching.{reached}
use Rattle.join_gen.specs.CallJoins.{call_side}
use Rattle.join_gen.specs.LoopJoins.{ComesToEnd}
use Rattle.scene_laws.proofs.Scenes.Called.{value_of, with_value}
use Rattle.scene_laws.proofs.Counts.Lists.{all_behind}
use Rattle.scene_laws.proofs.Pairs.PairRuns.{call_side_by}
use Rattle.scene_laws.proofs.Scenes.Promises.{Promise, Terms, promised, promising}
use Rattle.scene_laws.proofs.Scenes.Regions.{Covers}
use Rattle.scene_laws.proofs.Scenes.Results.{End, Fin, Out, Result, fin, noting, out}
use Rattle.scene_laws.proofs.Scenes.Scene.{IsEarly}
use Rattle.scene_laws.proofs.Cuts.Sides.{Part}

-- ---- a task ends where its goal is

same_goal : (answer : Option ℕ) (waits : State) → (answered answer waits).goal ≡ waits.goal
same_goal answer waits = by_wait waits.waiting answer
  where
    by_wait : (wait : Option Wait) (answer : Option ℕ)
        → (with_answer wait answer waits).goal ≡ waits.goal
    by_wait None answer = refl
    by_wait (Some wait) None = refl
    by_wait (Some wait) (Some k) = refl

module _ (code : Listing) (heartbeat : ℕ) where
  pub ends_there : (due : Bool) (n : ℕ) (state : State) (e : Ending)
      → Bound code heartbeat due n state e → place_of e ≡ end_of state.goal
  ends_there due n state e (owes.ends _ _ is) =
      (subst (StepKeeps heartbeat state) is (step_keeps heartbeat code true state)).place
  ends_there due n state e (owes.goes _ _ k _ after _ more is bound) =
      ends_there due k after e bound
      ∙ ap end_of (subst (StepKeeps heartbeat state) is (step_keeps heartbeat code true state)).goal
  ends_there due n state e (owes.beats _ k _ after other _ more calmly is bound also) =
      ends_there false k after e bound
      ∙ ap end_of
      (subst (StepKeeps heartbeat state) calmly (step_keeps heartbeat code false state)).goal
  ends_there due n state e (owes.asks _ waits _ is bound) =
      ends_there false 0 (answered None waits) e (bound None tt)
      ∙ ap end_of (same_goal None waits
      ∙ (subst (StepKeeps heartbeat state) is (step_keeps heartbeat code true state)).goal)
  ends_there due n state e (owes.forks _ parts p q _ is left right merged) =
      subst (JoinedKeeps parts.rest) merged.gives (merge_keeps code parts.rest p q)
      ∙ ap end_of
      (subst (StepKeeps heartbeat state) is (step_keeps heartbeat code true state)).rest_goal
  ends_there due n state e (owes.forks_on _ parts p q joined _ is left right merged bound) =
      ends_there false 0 joined e bound
      ∙ (ap end_of (subst (JoinedKeeps parts.rest) merged.gives
      (merge_keeps code parts.rest p q)).goal
      ∙ ap end_of
      (subst (StepKeeps heartbeat state) is (step_keeps heartbeat code true state)).rest_goal)

  -- a side doesn't end the whole
  pub ends_no_root : (due : Bool) (n k target : ℕ) (side : SideName) (state : State)
      (outcome : Outcome) → state.goal ≡ goal.At k side target
      → Bound code heartbeat due n state (ending.Root outcome) → ⊥
  ends_no_root due n k target side state outcome is bound =
      let same : place.Root ≡ place.At k side =
      ends_there due n state (ending.Root outcome) bound ∙ ap end_of is in cc

  -- ---- a promise for the results of which something holds

  module _ {World : Type 0} (P : Promise code heartbeat World) (Given : World → Result → Type 0)
      (fewer : (i : World) (ns : List Note) (r : Result) → Given i (noting ns r) → Given i r) where
    abbrev owing_where : World → Result → Back code heartbeat
    owing_where i r = record {
      Holds = λ state. Given i r → (P.owing i r).Holds state;
      back = λ state after is holds given. (P.owing i r).back state after is (holds given);
    }

    abbrev turned_where : World → Result → Back code heartbeat
    turned_where i r = record {
      Holds = λ state. Given i r → (P.diverted i r).Holds state;
      back = λ state after is holds given. (P.diverted i r).back state after is (holds given);
    }

    pub loud_by : (i : World) (ns : List Note) (r : Result) (state after : State)
        → Given i (noting ns r)
        → (step code heartbeat true state ≡ Goes after) ⊎
        ((other : State) × (step code heartbeat true state ≡ Beats other)
        × (turned_where i r).Holds other)
        → (step code heartbeat true state ≡ Goes after) ⊎
        ((other : State) × (step code heartbeat true state ≡ Beats other)
        × (P.diverted i r).Holds other)
    loud_by i ns r state after given (inl goes) = inl goes
    loud_by i ns r state after given (inr (other, beats, turned)) =
        inr (other, beats, turned (fewer i ns r given))

    abbrev pub where_given : Promise code heartbeat World
    where_given = record {
      given = λ i r. Given i r × P.given i r;
      least = P.least;
      ending = P.ending;
      owing = owing_where;
      diverted = turned_where;
      opens = λ i r state holds given can. P.opens i r state (holds given.0) given.1 can;
      closes = λ i r state holds given.
          P.closes i r state (λ also can. holds (given, also) can);
      turned_opens = λ i r state holds given can.
          P.turned_opens i r state (holds given.0) given.1 can;
      turned_closes = λ i r state holds given.
          P.turned_closes i r state (λ also can. holds (given, also) can);
      blind = P.blind;
      fewer = λ i ns r given. (fewer i ns r given.0, P.fewer i ns r given.1);
      touches = λ i ns r state quiet holds given.
          P.touches i ns r state quiet
          (λ also. holds (given, also) (fewer i ns r given));
      points = λ i ns r state after one at calm loud holds given.
          P.points i ns r state after one at calm (loud_by i ns r state after given loud)
          (holds (fewer i ns r given));
    }

-- ---- what a side of a pair ends with

-- what was printed is the begin of these bytes
abbrev pub is_begun_by : List ℕ → List ℕ → Bool
is_begun_by before bytes = bytes_eq (take (length before) bytes) before

pub begun_rest : (before bytes : List ℕ) → is_begun_by before bytes ≡ true
    → before ++ drop (length before) bytes ≡ bytes
begun_rest before bytes is =
    ap (λ (front : List ℕ). front ++ drop (length before) bytes)
    (sym ((bytes_eq-Decides (take (length before) bytes) before).0 is))
    ∙ take-append-drop (length before) bytes

pub is_begun : (before bytes : List ℕ) → is_begun_by before (before ++ bytes) ≡ true
is_begun before bytes =
    (bytes_eq-Decides (take (length before) (before ++ bytes)) before).1
    (take-append_seam before bytes)

-- a number is in the range of 64 bits
abbrev pub is_in_range : ℤ → Bool
is_in_range n = int_eq (wrapped n) n

in_range : (n : ℤ) → is_in_range n ≡ true → InRange n
in_range n is =
    subst (λ (m : ℤ). InRange m) ((Decides-int_eq (wrapped n) n).0 is) (SFits-int_wrap w64 n)

both_hold : (a b : Bool) → (a && b) ≡ true → (a ≡ true) × (b ≡ true)
both_hold true b is = (refl, is)
both_hold false b is = let wrong : true ≡ false = sym is in cc

-- The task of a side comes to such an end alone: what was printed before it began is the begin of
-- what the call has printed at its end; and where the call is done, there are as many ticks as
-- there were before, and its value is in the range of 64 bits.
abbrev pub is_end_of : Part → End → Bool
is_end_of p (Fin s) =
    is_begun_by p.before s.output && (nat_le p.since s.ticks && is_in_range (value_of s))
is_end_of p (Out stop ticks output) = is_begun_by p.before output

abbrev pub output_of : End → List ℕ
output_of (Fin s) = s.output
output_of (Out stop ticks output) = output

pub end_begun : (p : Part) (e : End) → is_end_of p e ≡ true
    → is_begun_by p.before (output_of e) ≡ true
end_begun p (Fin s) is = (both_hold (is_begun_by p.before s.output) _ is).0
end_begun p (Out stop ticks output) is = is

pub end_later : (p : Part) (s : meaning.State) → is_end_of p (Fin s) ≡ true → p.since ≤ s.ticks
end_later p s is =
    let more = (both_hold (is_begun_by p.before s.output) _ is).1 in
    let later : nat_le p.since s.ticks ≡ true = (both_hold (nat_le p.since s.ticks) _ more).0 in
    grind (arith, nat_tests)

pub end_in_range : (p : Part) (s : meaning.State) → is_end_of p (Fin s) ≡ true
    → InRange (value_of s)
end_in_range p s is =
    let more = (both_hold (is_begun_by p.before s.output) _ is).1 in
    in_range (value_of s) (both_hold (nat_le p.since s.ticks) _ more).1

-- a side whose call is done so comes to its end
pub is_end : (p : Part) (s : meaning.State) (bytes : List ℕ) → s.output ≡ p.before ++ bytes
    → p.since ≤ s.ticks → InRange (value_of s) → is_end_of p (Fin s) ≡ true
is_end p s bytes printed later fits =
    let begun : is_begun_by p.before s.output ≡ true = rw printed (is_begun p.before bytes) in
    let as_late : nat_le p.since s.ticks ≡ true = grind (arith, nat_tests, later) in
    let same : is_in_range (value_of s) ≡ true =
    (Decides-int_eq (wrapped (value_of s)) (value_of s)).1 (int_wrap_fits w64 (value_of s) fits) in
    rw (begun, as_late, same) refl

-- the ending of a side by the end of its call; a side that ended otherwise would end the whole,
-- which none does
abbrev pub call_ending_by : Part → Bool → End → Ending
call_ending_by p true e = ending.At p.rec p.which (call_side_by p.rec p.before e)
call_ending_by p false e = ending.Root (record { stop = NoFuel; output = []; ticks = 0 })

abbrev pub call_ending : Part → End → Ending
call_ending p e = call_ending_by p (is_end_of p e) e

-- an early stop
pub early_ending : (p : Part) (target : ℕ) (stop : Stop) (st : meaning.State) (output : List ℕ)
    → IsEarly stop → st.output ≡ p.before ++ output
    → call_ending p (out stop st).end
    ≡ ended_together (goal.At p.rec p.which target) stop st.ticks output
early_ending p target stop st output early printed =
    rw (printed, is_begun p.before output, drop-append_seam p.before output) refl

pub early_ended : (code : Listing) (at : Goal) (stop : Stop) (ticks : ℕ) (last : State)
    → IsEarly stop → last.fuel.ticks ≡ ticks
    → ended_at at code stop last ≡ ended_together at stop ticks last.output
early_ended code goal.Root Done ticks last early same = absurd early
early_ended code goal.Root (Left number) ticks last early same = absurd early
early_ended code goal.Root (Trap kind place) ticks last early same = rw same refl
early_ended code goal.Root NoFuel ticks last early same = rw same refl
early_ended code (goal.At rec side target) Done ticks last early same = absurd early
early_ended code (goal.At rec side target) (Left number) ticks last early same = absurd early
early_ended code (goal.At rec side target) (Trap kind place) ticks last early same = rw same refl
early_ended code (goal.At rec side target) NoFuel ticks last early same = rw same refl

-- ---- what a side of a pair owes

module _ (code : Listing) (heartbeat : ℕ) {World : Type 0} (part : World → Part)
  where
    abbrev pub call_terms : Terms code heartbeat World
    call_terms = record {
      given = λ i r. AllByRecursion (Covers (part i).region) r.notes;
      least = λ i r. 0;
      ending = λ i r. call_ending (part i) r.end;
      blind = λ i ns r. refl;
      fewer = λ i ns r given. all_behind (Covers (part i).region) ns r.notes given;
      quietly = λ i ns r quiet. omega arith;
      at_most = λ i ns r one. omega arith;
    }

    abbrev pub call_promise : Promise code heartbeat World
    call_promise = promised code heartbeat call_terms

    -- a stop ends a side with nothing but its stop, its ticks and its output
    pub call_stops : (i : World) (target : ℕ) (stop : Stop) (st : meaning.State)
        (state last : State) → IsEarly stop → last.fuel.ticks ≡ st.ticks
        → st.output ≡ (part i).before ++ last.output
        → last.goal ≡ goal.At (part i).rec (part i).which target
        → ((allowed : Bool) → step code heartbeat allowed state ≡ Ends (ended code stop last))
        → (call_promise.owing i (out stop st)).Holds state
    call_stops i target stop st state last early ticks printed ends step_is = λ given can.
        owes.ends state (call_ending (part i) (out stop st).end)
        (step_is true
        ∙ ap Ends (ap (λ (g : Goal). ended_at g code stop last) ends
        ∙ (early_ended code (goal.At (part i).rec (part i).which target) stop st.ticks last early
        ticks
        ∙ sym (early_ending (part i) target stop st last.output early printed))))

    -- a side whose call is done comes to its end
    pub side_ends : (i : World) (v : ℤ) (st : meaning.State) (task : State)
        → ComesToEnd code heartbeat
        (ending.At (part i).rec (part i).which (call_side (Int v) (part i).rec task)) task
        → task.fuel.ticks ≡ st.ticks → st.output ≡ (part i).before ++ task.output
        → (part i).since ≤ st.ticks → InRange v
        → (call_promise.owing i (fin (with_value v st))).Holds task
    side_ends i v st task comes ticks printed later fits = λ given can.
        subst (λ (e : Ending). Bound code heartbeat false 0 task e) same
        (reached code heartbeat (promising code heartbeat ⊤ false 0 handed) task comes.last
        comes.comes (λ also can_last. owes.ends comes.last handed (comes.ends true)) tt can)
      where
        handed : Ending
        handed = ending.At (part i).rec (part i).which (call_side (Int v) (part i).rec task)

        alike : handed ≡ call_ending_by (part i) true (Fin (with_value v st))
        alike = rw (ticks, printed, drop-append_seam (part i).before task.output) refl

        same : handed ≡ call_ending (part i) (Fin (with_value v st))
        same = alike ∙ ap (λ (b : Bool). call_ending_by (part i) b (Fin (with_value v st)))
            (sym (is_end (part i) (with_value v st) task.output printed later fits))
