-- The code whose child begins with the left's sum so far owes nothing.
use Rattle.std.proofs.Common.{◌≡◌, ℕ, ◌+◌, ◌≤◌, Bool, true, false, None, Some, List, [], ◌∷◌, refl, sym}
use Rattle.std.proofs.Common.{ap, ◌∙◌, arith}
use Rattle.std.proofs.lemmas.Bool.{le-leb}
use Rattle.std.proofs.lemmas.Fmt.{signed_decimal_injective}
use Rattle.std.proofs.lemmas.Int.{ints}
use Rattle.std.proofs.lemmas.List.{append_cancel_right}
use Rattle.std.specs.Fmt.{signed_decimal}
use Rattle.std.specs.Prelude.{ℤ, pos}
use Rattle.beat_count.specs.BeatState.{BeatState}
use Rattle.beat_count.specs.Heartbeat.{counted}
use Rattle.tpal_syntax.specs.declared.words.Word.{Word}
use Rattle.tpal_syntax.specs.declared.words.Word.TheVariants as word
use Rattle.tpal_syntax.specs.Listing.{Listing}
use Rattle.tpal_machine.specs.declared.ends.Ending.{Ending}
use Rattle.tpal_machine.specs.declared.ends.Ending.TheVariants as ending
use Rattle.tpal_machine.specs.declared.ends.SideName.TheVariants.{Left, Right}
use Rattle.tpal_machine.specs.Effect.{answered}
use Rattle.tpal_machine.specs.Owes.{Bound}
use Rattle.tpal_machine.specs.Owes as owes
use Rattle.tpal_machine.specs.State.{State, first_state}
use Rattle.tpal_machine.specs.Step.{Goes, step}
use Rattle.tpal_machine.proofs.Owing.{By_step, by_step, one_ending, no_least}
use Rattle.sum_code.specs.Sum.{main_block, end_block}
use Rattle.sum_code.specs.Wrong.{keeping_child, with_kept_sum}
use Rattle.sum_code.proofs.Ahead.{after_steps, entry_on, entry_diverted}
use Rattle.sum_code.proofs.Rounds.{iterated, iterates_once}
use Rattle.sum_code.proofs.Sides.{tie, merged, end_owes, merged_owes, merges}
use Rattle.sum_code.proofs.Sums.{middle}
use Rattle.sum_code.proofs.Tasks.{Whose, run, side, record_of, handed, ending_of, mark, words, task}
use Rattle.sum_code.proofs.Walking.{steps, owes_before, begun}

-- what is printed at an ending of the run
printed : Ending → List ℕ
printed (ending.Root outcome) = outcome.output
printed (ending.At rec name handed_over) = []

-- a beat that has counted so many instructions
abbrev beat : ℕ → BeatState
beat n = record { count = n; quiet = false; granted = false }

abbrev number : ℕ → Word
number n = word.Int (pos n)

module _ (heartbeat limit : ℕ) where
  abbrev code : Listing
  code = with_kept_sum

  -- a task before an iteration, by the next number and the sum so far
  abbrev before : Whose → (next sum : ℕ) (r3 r4 r5 r30 : Word) → BeatState → State
  before whose next sum r3 r4 r5 r30 counted =
      task limit whose 2
      (words (number next) (number 3) (number sum) r3 r4 r5 word.Nil word.Nil r30) (record_of whose)
      (mark ∷ []) counted

  -- a task behind one
  abbrev behind : Whose → (next sum : ℕ) (r4 r5 r30 : Word) → BeatState → Bool → State
  behind whose next sum r4 r5 r30 counted more =
      iterated limit whose 3 (pos sum) (pos next) r4 r5 word.Nil word.Nil r30 (record_of whose)
      (mark ∷ []) counted more

  -- ---- to the beat before the last iteration

  abbrev first_round : BeatState → State
  first_round = λ b. behind run 1 0 word.Nil word.Nil word.Nil b true

  abbrev second_round : BeatState → State
  second_round = λ b. behind run 2 1 word.Nil word.Nil word.Nil b true

  abbrev entering : State → ℕ → State
  entering round count = record round { at = 4; beat = beat count }

  -- the last iteration is to be cut off
  abbrev diverted : State
  diverted =
      task limit run 5
      (words (number 2) (number 3) (number 1) (number 1) word.Nil word.Nil word.Nil word.Nil
      (word.Label 1))
      word.Nil (mark ∷ []) begun

  comes_to : (e : Ending) → heartbeat ≤ 16 → Bound code heartbeat false 0 (first_state [] limit) e
      → Bound code heartbeat true 0 diverted e
  unfolding steps
  comes_to e short bound =
      let start = after_steps code heartbeat 7 false (first_state [] limit)
      (before run 0 0 word.Nil word.Nil word.Nil word.Nil (beat 7)) e refl bound in
      let one = after_steps code heartbeat 3 false _ (first_round (beat 7)) e
      (iterates_once (main_block 3) end_block keeping_child heartbeat limit run 0 3 0 0 word.Nil
      (mark ∷ []) (beat 7) word.Nil word.Nil word.Nil word.Nil word.Nil word.Nil true refl
      (omega arith) (omega arith) refl)
      start in
      let on = entry_on code heartbeat (first_round (beat 7)) (entering (first_round (beat 7)) 11) 1 5
      e (λ allowed. refl) refl refl one in
      let again = after_steps code heartbeat 1 false _
      (before run 1 0 (number 1) word.Nil word.Nil word.Nil (beat 12)) e refl on in
      let two = after_steps code heartbeat 3 false _ (second_round (beat 12)) e
      (iterates_once (main_block 3) end_block keeping_child heartbeat limit run 1 3 0 1 word.Nil
      (mark ∷ []) (beat 12) (number 1) word.Nil word.Nil word.Nil word.Nil word.Nil true refl
      (omega arith) (omega arith) refl)
      again in
      entry_diverted code heartbeat (second_round (beat 12)) (entering (second_round (beat 12)) 16) 1
      5 e (λ allowed. refl) refl refl two (le-leb heartbeat 16 short)

  -- ---- what it comes to by either answer

  -- the same, waiting for a join record
  abbrev waits : State
  waits =
      record diverted {
        at = 1;
        beat = counted begun;
        waiting = Some (record { to = 4; target = 9 });
      }

  -- the last iteration, and the end of the part
  last_owes : (whose : Whose) (sum total : ℕ) (r3 r4 r5 r30 : Word) (counts : BeatState)
      → sum + 2 ≡ total → total ≤ 3
      → Bound code heartbeat false 0 (before whose 2 sum r3 r4 r5 r30 counts) (ending_of whose total)
  unfolding steps
  last_owes whose sum total r3 r4 r5 r30 counts is low =
      owes_before code heartbeat 3 false _ (behind whose 3 total r4 r5 r30 counts false) _
      (iterates_once (main_block 3) end_block keeping_child heartbeat limit whose 2 3 sum total
      (record_of whose) (mark ∷ []) counts r3 r4 r5 word.Nil word.Nil r30 false is
      (omega (arith, low)) (omega arith) refl)
      (owes_before code heartbeat 2 false _ _ _ refl
      (end_owes (main_block 3) keeping_child heartbeat limit whose total (mark ∷ []) _ _ _ _ _ _ _ _
      _))

  -- without a record the run ends with the sum
  alone : Bound code heartbeat false 0 (answered None waits) (ending_of run 3)
  unfolding steps
  alone =
      owes_before code heartbeat 4 false _
      (before run 2 1 (number 1) word.Nil word.Nil (word.Label 1) _) _ refl
      (last_owes run 1 3 _ _ _ _ _ refl (omega arith))

  -- before the fork, where this is the middle
  abbrev forking : ℤ → State
  forking mid =
      record
      (task limit run 5
      (words (number 2) (number 3) (number 1) (number 0) (word.Rec 0) (word.Int mid) word.Nil word.Nil
      (word.Label 1))
      word.Nil (mark ∷ []) (counted (counted (counted (counted (counted (counted begun)))))))
      { at = 6; pending = Some (tie 0) }

  -- with a record the left has nothing to add, the child begins with 1 and adds 2, so that 4 is
  -- printed
  cut : Bound code heartbeat false 0 (answered (Some 0) waits) (ending_of run 4)
  unfolding steps
  cut =
      owes_before code heartbeat 5 false _ (forking (pos 2)) _
      (ap (λ z. Goes (forking z)) (middle 2 3 0 refl (omega arith)))
      (owes.forks_on _ _ (handed 0 1) (handed 0 3) (merged limit run 0 1 3) _ refl
      (owes_before code heartbeat 5 false _ _ _ refl
      (end_owes (main_block 3) keeping_child heartbeat limit (side 0 Left) 1 (mark ∷ []) _ _ _ _ _ _
      _ _ _))
      (owes_before code heartbeat 4 false _
      (before (side 0 Right) 2 1 (number 0) (word.Rec 0) (number 2) (word.Label 1) _) _ refl
      (last_owes (side 0 Right) 1 3 _ _ _ _ _ refl (omega arith)))
      (merges (main_block 3) keeping_child heartbeat limit run 0 1 3)
      (merged_owes (main_block 3) keeping_child heartbeat limit run 0 1 3 4 refl (omega arith)))

  differ : ending_of run 3 ≡ ending_of run 4 → ⊥
  unfolding printed
  differ is =
      other (signed_decimal_injective (pos 3) (pos 4) (omega arith) (omega arith)
      (append_cancel_right (signed_decimal (pos 3)) (signed_decimal (pos 4)) (10 ∷ [])
      (ap printed is)))
    where
      other : pos 3 ≡ pos 4 → ⊥
      other e = absurd (omega (arith, ints, e))

  -- whatever is given to it, the diverted task can't end in one way
  pub owes_nothing : (n : ℕ) (e : Ending) → heartbeat ≤ 16
      → Bound code heartbeat false n (first_state [] limit) e → ⊥
  owes_nothing n e short bound =
      let late = comes_to e short (no_least code heartbeat false n _ e bound) in
      let asks : By_step code heartbeat true diverted e (step code heartbeat true diverted) =
      by_step code heartbeat true 0 diverted e late in
      let without = asks.1 None tt in
      let given = asks.1 (Some 0) (omega arith) in
      differ (sym (one_ending code heartbeat false without.least 0 (answered None waits) e _
      without.bound alone)
      ∙ one_ending code heartbeat false given.least 0 (answered (Some 0) waits) e _ given.bound cut)
