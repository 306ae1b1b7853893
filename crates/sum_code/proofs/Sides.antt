-- What a part owes at its end, and what two sides owe once they are put together. Neither hangs on
-- how the run and the child begin.
use Rattle.std.proofs.Common.{◌≡◌, ℕ, ◌+◌, ◌<◌, Bool, true, false, cond, Some, List, [], ◌∷◌}
use Rattle.std.proofs.Common.{length, refl, sym, ap, ◌∙◌, arith}
use Rattle.std.proofs.lemmas.List.Elements.{All-cons, All-nil}
use Rattle.std.proofs.lemmas.Bool.{eq-eqb, le-leb, true≢false}
use Rattle.std.specs.Prelude.{ℤ, pos, ◌^◌, slice_get, is_some}
use Rattle.beat_count.specs.BeatState.{BeatState}
use Rattle.beat_count.specs.Heartbeat.{no_beat, counted}
use Rattle.stack_marks.specs.declared.mark.Mark.{Mark}
use Rattle.tp_value.specs.declared.values.Stop.TheVariants.{Done, NoFuel}
use Rattle.tp_value.specs.Number.{wrapped}
use Rattle.tpal_syntax.specs.declared.blocks.Block.{Block}
use Rattle.tpal_syntax.specs.declared.notes.CarryAt.{CarryAt}
use Rattle.tpal_syntax.specs.declared.words.Word.{Word}
use Rattle.tpal_syntax.specs.declared.words.Word.TheVariants as word
use Rattle.tpal_syntax.specs.Listing.{Listing}
use Rattle.tpal_machine.specs.declared.ends.Tie.{Tie}
use Rattle.tpal_machine.specs.declared.faults.Fault.TheVariants as fault
use Rattle.tpal_machine.specs.Belongs.{IsWordOf, IsGoalOf, SideBelongsTo}
use Rattle.tpal_machine.specs.Merge as merging
use Rattle.tpal_machine.specs.Merge.{MergeOf}
use Rattle.tpal_machine.specs.Owes.{Bound}
use Rattle.tpal_machine.specs.Owes as owes
use Rattle.tpal_machine.specs.State.{State}
use Rattle.tpal_machine.specs.Step.{Goes, Ends, Stuck, advanced, join_met, join_end}
use Rattle.sum_code.specs.Sum.{joins, end_block, sum_with}
use Rattle.sum_code.proofs.Sums.{wrap_is}
use Rattle.sum_code.proofs.Tasks.{Whose, run, side, goal_of, record_of, handed, ending_of}
use Rattle.sum_code.proofs.Tasks.{words, task, rest}
use Rattle.sum_code.proofs.Walking.{steps, owes_before}

-- ---- the tasks behind a join

abbrev pub tie : ℕ → Tie
tie k = record { rec = k; target = 9 }

-- the registers behind a join, where this is the sum so far
abbrev hands : (k right : ℕ) → ℤ → List Word
hands k right sum =
    words word.Nil word.Nil (word.Int sum) word.Nil (word.Rec k) word.Nil (word.Int (pos right))
    (word.Rec k) word.Nil

module _ (limit : ℕ) where
  -- the task behind a join
  abbrev pub merged : Whose → (k left right : ℕ) → State
  merged whose k left right =
      record (task limit whose 8 (hands k right (pos left)) (record_of whose) [] no_beat)
      { met = Some (tie k) }

  -- the same, once both sums are added
  abbrev added : Whose → (k right : ℕ) → ℤ → State
  added whose k right sum =
      record (task limit whose 8 (hands k right sum) (record_of whose) [] (counted no_beat))
      { at = 1; met = Some (tie k) }

module _ (main child : Block) (heartbeat limit : ℕ) where
  abbrev code : Listing
  code = sum_with main end_block child

  abbrev Owed : Bool → State → Whose → ℕ → Type 0
  Owed due state whose total = Bound code heartbeat due 0 state (ending_of whose total)

  -- ---- the end of a part

  pub end_owes : (whose : Whose) (total : ℕ) (marks : List Mark) (beat : BeatState)
      (r0 r1 r3 r4 r5 r6 r7 r30 : Word)
      → Owed false
      (task limit whose 3 (words r0 r1 (word.Int (pos total)) r3 r4 r5 r6 r7 r30) (record_of whose)
      marks beat)
      whose total
  unfolding steps
  end_owes run total marks beat r0 r1 r3 r4 r5 r6 r7 r30 =
      owes_before code heartbeat 5 false _ _ _ refl (owes.ends _ _ refl)
  end_owes (side k name) total marks beat r0 r1 r3 r4 r5 r6 r7 r30 =
      owes_before code heartbeat 4 false _ _ _ refl
      (owes.ends _ _ (ap
      (λ b. cond b (Ends (ending_of (side k name) total)) (Stuck fault.WrongRecord))
      (eq-eqb k k refl)))

  -- ---- two sides put together

  pub merged_owes : (whose : Whose) (k left right total : ℕ) → left + right ≡ total → total < 2 ^ 63
      → Owed false (merged limit whose k left right) whose total
  unfolding steps
  merged_owes whose k left right total is low =
      owes_before code heartbeat 1 false _ (added limit whose k right (pos total)) _
      (ap (λ z. Goes (added limit whose k right z)) (ap (λ n. wrapped (pos n)) is ∙ wrap_is total low))
      (owes.goes false 0 0 _ _ _ (omega arith)
      (ap
      (λ b.
      cond b
      (join_met code heartbeat true (tie k) (advanced (added limit whose k right
      (pos total))))
      (join_end code k (advanced (added limit whose k right (pos total)))))
      (eq-eqb k k refl))
      (owes_before code heartbeat 1 false _ _ _ refl
      (end_owes whose total [] _ _ _ _ _ _ _ _ _)))

  record_is_word : (whose : Whose) → IsWordOf code (record_of whose)
  record_is_word run = tt
  record_is_word (side k name) = tt

  goal_is_of : (whose : Whose) → IsGoalOf code (goal_of whose)
  goal_is_of run = tt
  goal_is_of (side k name) = refl

  handed_belongs : (k total : ℕ) → SideBelongsTo code (handed k total)
  handed_belongs k total =
      All-cons (λ w. IsWordOf code w.1) (2, word.Int (pos total)) ((4, word.Rec k) ∷ []) tt
      (All-cons (λ w. IsWordOf code w.1) (4, word.Rec k) [] tt (All-nil (λ w. IsWordOf code w.1)))

  pub merges : (whose : Whose) (k left right : ℕ)
      → MergeOf code (rest limit whose k (record_of whose)) (handed k left) (handed k right)
      (merging.Goes (merged limit whose k left right))
  merges whose k left right = record {
    sides = record {
      left_ticks = omega arith;
      right_ticks = omega arith;
      left_side = record { words = refl; slices = refl };
      right_side = record { words = refl; slices = refl };
      parts = λ i c is. absurd (no_carry i c is);
    };
    rest_belongs = record {
      stack = record {
        cells = All-cons (IsWordOf code) word.Nil (record_of whose ∷ []) tt
            (All-cons (IsWordOf code) (record_of whose) [] (record_is_word whose)
            (All-nil (IsWordOf code)));
        marks = All-nil (λ m. m.split < length code.blocks);
      };
      tables = refl;
      goal = goal_is_of whose;
      target = refl;
    };
    left_belongs = handed_belongs k left;
    right_belongs = handed_belongs k right;
    gives =
        ap
        (λ b.
        merging.joined_by (cond b Done NoFuel) (cond b 0 (limit + 1)) [] joins
        (rest limit whose k (record_of whose)) (handed k left) (handed k right))
        (le-leb 0 limit (omega arith));
  }
    where
      no_carry : (i : ℕ) (c : CarryAt) → slice_get [] i ≡ Some c → ⊥
      no_carry i c is = true≢false (sym (ap is_some is))
