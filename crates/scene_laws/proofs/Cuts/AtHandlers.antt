-- A diverted task at the handler of its oldest mark owes an ending, where it owes it when it goes
-- back and where both parts of the cut end as sides that merge to it. The handler is that of a loop
-- or of a pair of calls.
use Rattle.std.proofs.Common.{◌≡◌, ℕ, ◌≤◌, Bool, true, false, [], length, Option, None, Some, refl}
use Rattle.std.proofs.Common.{sym, subst, ◌∙◌, ◌⊎◌, inl, inr, arith}
use Rattle.std.specs.Prelude.{List, pos, ⊤}
use Rattle.beat_count.specs.BeatState.{BeatState}
use Rattle.tpal_syntax.specs.declared.instructions.Term.TheVariants as term
use Rattle.tpal_syntax.specs.declared.instructions.Value.TheVariants as value
use Rattle.tpal_syntax.specs.declared.words.Word.{Word}
use Rattle.tpal_syntax.specs.declared.words.Word.TheVariants.{Int}
use Rattle.tpal_syntax.specs.Listing.{Listing}
use Rattle.tpal_machine.specs.Belonging.{AreForkedOf, IsJoinedOf, IsStepOf, WaitsOn}
use Rattle.tpal_machine.specs.Belongs.{RestBelongsTo}
use Rattle.tpal_machine.specs.declared.ends.Ending.{Ending}
use Rattle.tpal_machine.specs.declared.ends.Ending.TheVariants as ending
use Rattle.tpal_machine.specs.declared.ends.Side.{Side}
use Rattle.tpal_machine.specs.declared.ends.SideName.TheVariants.{Left, Right}
use Rattle.tpal_machine.specs.Effect.{answered}
use Rattle.tpal_machine.specs.Merge as merging
use Rattle.tpal_machine.specs.Merge.{MergeOf}
use Rattle.tpal_machine.specs.Owes.{Bound, IsAnswer, IsOtherRecord}
use Rattle.tpal_machine.specs.Owes as owes
use Rattle.tpal_machine.specs.Reading.{block_at, register}
use Rattle.tpal_machine.specs.RestState.{RestState}
use Rattle.tpal_machine.specs.State.{State}
use Rattle.tpal_machine.specs.Step.{Asks, step}
use Rattle.tpal_machine.proofs.Belonging.{step_of}
use Rattle.tpal_machine.proofs.Given.{answered_of, joined_of_code}
use Rattle.tpal_machine.proofs.Kit.{Back}
use Rattle.expr_lower.specs.Leaving.{moved_to}
use Rattle.expr_lower.specs.Standing.{Remains}
use Rattle.handler_gen.specs.Blocks.{back_block}
use Rattle.handler_gen.specs.Halves as halves
use Rattle.handler_gen.specs.Halves.{Halves, IsCutInTwo, KeepsPlace, Work, asking, child_part}
use Rattle.handler_gen.specs.Halves.{left_part, rest_part}
use Rattle.handler_gen.specs.Reaching.{Reaches}
use Rattle.handler_gen.specs.Sites.{back_label}
use Rattle.handler_gen.proofs.Reaching.{reached}
use Rattle.scene_laws.proofs.Scenes.Promises.{CanRun, can_go_on, promising}
use Rattle.scene_laws.proofs.Scenes.Scene.{GoesBack, IsDiverted, IsUncut}

-- ---- what is owed under a record

-- two sides merge to an ending, at once or by the task that goes on
abbrev pub MergesTo : Listing → ℕ → RestState → Side → Side → Ending → Type 0
MergesTo code heartbeat rest p q e =
    MergeOf code rest p q (merging.Ends e) ⊎
    ((joined : State) × MergeOf code rest p q (merging.Goes joined)
    × (CanRun code joined → Bound code heartbeat false 0 joined e))

-- Under a record the left and the child of a cut, where they go on, end as sides that merge to an
-- ending.
pub record SidesOwed (code : Listing) (heartbeat : ℕ) (e : Ending) (k : ℕ) (left child : State)
    (rest : RestState) : Type 0 where
  pub p : Side
  pub q : Side
  pub left_owes : Bound code heartbeat false 0 left (ending.At k Left p)
  pub child_owes : Bound code heartbeat false 0 child (ending.At k Right q)
  pub merged : RestBelongsTo code rest → MergesTo code heartbeat rest p q e

-- what the child of a cut goes on with, in the activation at this position
pub record IsChild (code : Listing) (z : ℕ) (words : List Word) (child : State) : Type 0 where
  pub size : length words ≡ 32
  pub base : register words 31 ≡ Int (pos z)
  pub can : CanRun code child

-- ---- the fork

module _ (code : Listing) (heartbeat : ℕ) where
  -- a task that comes to another one can be run as that one can
  can_come : (from to : State) → Reaches code heartbeat from to → CanRun code from
      → CanRun code to
  can_come from to comes can = reached code heartbeat running from to comes (λ is. is) can
    where
      running : Back code heartbeat
      running = record {
        Holds = λ s. CanRun code s → CanRun code to;
        back = λ s after is holds can_s. holds (can_go_on code heartbeat s after (is true) can_s);
      }

  module _ {work : Work} {parts : Halves} {task from : State}
      (two : IsCutInTwo code heartbeat work parts task from) (e : Ending) where
    abbrev left_there : State
    left_there = left_part work parts task two.left.words two.left.beat

    abbrev child_there : State
    child_there = child_part work parts task two.child.words two.child.beat

    abbrev Owed : Type 0
    Owed = SidesOwed code heartbeat e work.rec left_there child_there (rest_part work task)

    -- both parts owe their sides, and what these merge to
    merges_here : Owed → CanRun code two.last → AreForkedOf code two.parts
        → Bound code heartbeat false 0 two.last e
    merges_here owed can parts_of =
        by_merge (owed.merged (subst (RestBelongsTo code) two.rest parts_of.rest))
      where
        left_bound : Bound code heartbeat false 0 two.parts.left
            (ending.At two.parts.rec Left owed.p)
        left_bound =
            subst (λ (r : ℕ). Bound code heartbeat false 0 two.parts.left
            (ending.At r Left owed.p)) (sym two.rec)
            (reached code heartbeat
            (promising code heartbeat ⊤ false 0 (ending.At work.rec Left owed.p)) two.parts.left
            left_there two.left.comes (λ given can_left. owed.left_owes) tt
            (record { right = can.right; runs = parts_of.left }))

        child_bound : Bound code heartbeat false 0 two.parts.child
            (ending.At two.parts.rec Right owed.q)
        child_bound =
            subst (λ (r : ℕ). Bound code heartbeat false 0 two.parts.child
            (ending.At r Right owed.q)) (sym two.rec)
            (reached code heartbeat
            (promising code heartbeat ⊤ false 0 (ending.At work.rec Right owed.q)) two.parts.child
            child_there two.child.comes (λ given can_child. owed.child_owes) tt
            (record { right = can.right; runs = parts_of.child }))

        by_merge : MergesTo code heartbeat (rest_part work task) owed.p owed.q e
            → Bound code heartbeat false 0 two.last e
        by_merge (inl ends) =
            owes.forks two.last two.parts owed.p owed.q e (two.forks true) left_bound child_bound
            (subst (λ (r : RestState). MergeOf code r owed.p owed.q (merging.Ends e))
            (sym two.rest) ends)
        by_merge (inr (joined, goes, bound)) =
            owes.forks_on two.last two.parts owed.p owed.q joined e (two.forks true) left_bound
            child_bound
            (subst (λ (r : RestState). MergeOf code r owed.p owed.q (merging.Goes joined))
            (sym two.rest) goes)
            (bound (record {
              right = can.right;
              runs = subst (IsJoinedOf code) goes.gives
                  (joined_of_code code (rest_part work task) owed.p owed.q can.right
                  goes.rest_belongs goes.left_belongs goes.right_belongs);
            }))

    pub forks_owed : (CanRun code left_there
        → IsChild code work.base two.child.words child_there → Owed)
        → CanRun code two.last → Bound code heartbeat false 0 two.last e
    forks_owed owed can =
        merges_here
        (owed
        (can_come two.parts.left left_there two.left.comes
        (record { right = can.right; runs = parts_of.left }))
        (record {
          size = two.child.size;
          base = two.child.base;
          can = can_come two.parts.child child_there two.child.comes
              (record { right = can.right; runs = parts_of.child });
        })) can parts_of
      where
        parts_of : AreForkedOf code two.parts
        parts_of = subst (IsStepOf code) (two.forks true)
            (step_of code heartbeat true two.last can.right can.runs)

-- ---- the question

-- a task at the block that goes back, whose words keep the place
pub place_kept : {code : Listing} {dispatch : ℕ} (label : ℕ)
    → block_at code (back_label label) ≡ Some (back_block label) → (state : State)
    → IsDiverted dispatch state → (u : State) → u.block ≡ back_label label → u.at ≡ 0
    → KeepsPlace state u.registers u.beat → GoesBack code state u
place_kept {code = code} label found state diverted u block at_begin keeps = record {
  stands = rw (block, at_begin) goes_back;
  size = keeps.size;
  label = keeps.high 30 (omega arith);
  base = keeps.high 31 (omega arith);
  quiet = keeps.quiet ∙ diverted.quiet;
}
  where
    goes_back : Remains code (back_label label) 0 [] (term.Jump (value.Reg 30))
    goes_back = record { block = back_block label; found = found; rest = refl; ends = refl }

-- A diverted task came to its handler, with these words and this beat, and holds no record.
pub record IsAtHandler (code : Listing) (dispatch label : ℕ) (state : State) (words : List Word)
    (beat : BeatState) : Type 0 where
  pub found : block_at code (back_label label) ≡ Some (back_block label)
  pub diverted : IsDiverted dispatch state
  pub free : state.pending ≡ None
  pub unmet : state.met ≡ None
  pub high : (r : ℕ) → 30 ≤ r → register words r ≡ register state.registers r
  pub quiet : beat.quiet ≡ state.beat.quiet

module _ (code : Listing) (heartbeat : ℕ) {dispatch label : ℕ} {state : State} {words : List Word}
    {beat : BeatState} (at : IsAtHandler code dispatch label state words beat) (e : Ending) where
  abbrev task : State
  task = moved_to state words beat label 0

  abbrev waits : State
  waits = asking label task

  kept : (later : List Word) (later_beat : BeatState) → KeepsPlace task later later_beat
      → KeepsPlace state later later_beat
  kept later later_beat keeps = record {
    size = keeps.size;
    high = λ r from. keeps.high r from ∙ at.high r from;
    quiet = keeps.quiet ∙ at.quiet;
  }

  -- there is no record
  without : halves.GoesBack code heartbeat label task (answered None waits)
      → ((u : State) → GoesBack code state u → IsUncut state u → CanRun code u
      → Bound code heartbeat false 0 u e)
      → CanRun code (answered None waits) → Bound code heartbeat false 0 (answered None waits) e
  without gone back can =
      let u : State = halves.moved_on task gone.words gone.beat (back_label label) in
      reached code heartbeat (promising code heartbeat ⊤ false 0 e) (answered None waits) u
      gone.comes
      (λ given can_u.
      back u
      (place_kept label at.found state at.diverted u refl refl
      (kept gone.words gone.beat gone.keeps))
      (record {
        stack = refl;
        tables = refl;
        fuel = refl;
        output = refl;
        goal = refl;
        free = at.free;
        unmet = at.unmet;
      }) can_u) tt can

  module _ (work : ℕ → Work) (parts : ℕ → Halves)
      (asks : (allowed : Bool) → step code heartbeat allowed task ≡ Asks waits)
      (gone : halves.GoesBack code heartbeat label task (answered None waits))
      (cuts : (k : ℕ) → IsCutInTwo code heartbeat (work k) (parts k) task
      (answered (Some k) waits))
      (back : (u : State) → GoesBack code state u → IsUncut state u → CanRun code u
      → Bound code heartbeat false 0 u e)
      (forks : (k : ℕ) → IsOtherRecord state.goal k → (left_words others : List Word)
      (left_beat later : BeatState) → KeepsPlace state left_words left_beat
      → CanRun code (left_part (work k) (parts k) state left_words left_beat)
      → IsChild code (work k).base others (child_part (work k) (parts k) state others later)
      → SidesOwed code heartbeat e (work k).rec
      (left_part (work k) (parts k) state left_words left_beat)
      (child_part (work k) (parts k) state others later) (rest_part (work k) state))
    where
      -- there is one
      with_record : (k : ℕ) → IsOtherRecord state.goal k → CanRun code (answered (Some k) waits)
          → Bound code heartbeat false 0 (answered (Some k) waits) e
      with_record k other can =
          let two = cuts k in
          reached code heartbeat (promising code heartbeat ⊤ false 0 e) (answered (Some k) waits)
          two.last two.comes
          (λ given can_last.
          forks_owed code heartbeat two e
          (λ can_left child.
          forks k other two.left.words two.child.words two.left.beat two.child.beat
          (kept two.left.words two.left.beat two.left.keeps) can_left child) can_last) tt can

      pub asks_owed : CanRun code task → Bound code heartbeat true 0 task e
      asks_owed can =
          owes.asks task waits e (asks true) (λ answer is. by_answer answer is)
        where
          waiting : WaitsOn code waits
          waiting = subst (IsStepOf code) (asks true)
              (step_of code heartbeat true task can.right can.runs)

          can_answered : (answer : Option ℕ) → CanRun code (answered answer waits)
          can_answered answer = record {
            right = can.right;
            runs = answered_of code waits answer waiting;
          }

          by_answer : (answer : Option ℕ) → IsAnswer waits.goal answer
              → Bound code heartbeat false 0 (answered answer waits) e
          by_answer None is = without gone back (can_answered None)
          by_answer (Some k) is = with_record k is (can_answered (Some k))
