-- The code with no mark owes its sum, and enters no promotion point.
use Rattle.std.proofs.Common.{◌≡◌, ℕ, ◌+◌, ◌≤◌, Bool, true, false, [], ◌∷◌, ◌++◌, refl, arith}
use Rattle.std.specs.Fmt.{signed_decimal}
use Rattle.std.specs.Prelude.{pos, nat_lt}
use Rattle.beat_count.specs.BeatState.{BeatState}
use Rattle.tpal_syntax.specs.declared.words.Word.{Word}
use Rattle.tpal_syntax.specs.declared.words.Word.TheVariants as word
use Rattle.tpal_syntax.specs.Listing.{Listing}
use Rattle.tpal_machine.specs.Owes.{Bound}
use Rattle.tpal_machine.specs.Owes as owes
use Rattle.tpal_machine.specs.State.{State, first_state}
use Rattle.tpal_machine.specs.Step.{Goes, step}
use Rattle.sum_code.specs.Sum.{prints_sum, sum_of}
use Rattle.sum_code.specs.Wrong.{unmarked_main, unmarked_end, unmarked_child, with_no_mark}
use Rattle.sum_code.proofs.Ahead.{entry_moves, Pointless, pointless_end, pointless_before}
use Rattle.sum_code.proofs.Ahead.{pointless_steps, no_points}
use Rattle.sum_code.proofs.Rounds.{iterated, iterates_once}
use Rattle.sum_code.proofs.Tasks.{run, ending_of, words, task}
use Rattle.sum_code.proofs.Walking.{steps, owes_before}

-- a beat that has counted so many instructions
abbrev beat : ℕ → BeatState
beat n = record { count = n; quiet = false; granted = false }

abbrev number : ℕ → Word
number n = word.Int (pos n)

module _ (heartbeat limit : ℕ) where
  abbrev code : Listing
  code = with_no_mark

  -- a task before an iteration, by the next number and the sum so far
  abbrev before : (next sum : ℕ) (r3 : Word) (count : ℕ) → State
  before next sum r3 count =
      task limit run 2
      (words (number next) (number 3) (number sum) r3 word.Nil word.Nil word.Nil word.Nil word.Nil)
      word.Nil [] (beat count)

  -- a task behind one, that has counted so many instructions before it
  abbrev behind : (next sum count : ℕ) (more : Bool) → State
  behind next sum count more =
      iterated limit run 3 (pos sum) (pos next) word.Nil word.Nil word.Nil word.Nil word.Nil word.Nil
      [] (beat count) more

  -- a task at the start of the promotion-ready block
  abbrev entered : (next sum count : ℕ) → State
  entered next sum count = record (before next sum (number 1) count) { block = 1 }

  -- one iteration
  round : (next sum total : ℕ) (r3 : Word) (count : ℕ) (more : Bool)
      → sum + next ≡ total → total ≤ 3 → next ≤ 2 → nat_lt (next + 1) 3 ≡ more
      → steps code heartbeat 3 (before next sum r3 count) ≡ Goes (behind (next + 1) total count more)
  round next sum total r3 count more is low few test =
      iterates_once unmarked_main unmarked_end unmarked_child heartbeat limit run next 3 sum total
      word.Nil [] (beat count) r3 word.Nil word.Nil word.Nil word.Nil word.Nil more is
      (omega (arith, low)) (omega (arith, few)) test

  first_round : steps code heartbeat 3 (before 0 0 word.Nil 6) ≡ Goes (behind 1 0 6 true)
  first_round = round 0 0 0 word.Nil 6 true refl (omega arith) (omega arith) refl

  second_round : steps code heartbeat 3 (before 1 0 (number 1) 11) ≡ Goes (behind 2 1 11 true)
  second_round = round 1 0 1 (number 1) 11 true refl (omega arith) (omega arith) refl

  last_round : steps code heartbeat 3 (before 2 1 (number 1) 16) ≡ Goes (behind 3 3 16 false)
  last_round = round 2 1 3 (number 1) 16 false refl (omega arith) (omega arith) refl

  -- two entries of the promotion-ready block, at which no mark stands
  one : step code heartbeat true (behind 1 0 6 true) ≡ Goes (entered 1 0 10)
  one = entry_moves heartbeat true 1 5 (record (behind 1 0 6 true) { at = 4; beat = beat 10 }) refl refl

  two : step code heartbeat true (behind 2 1 11 true) ≡ Goes (entered 2 1 15)
  two = entry_moves heartbeat true 1 5 (record (behind 2 1 11 true) { at = 4; beat = beat 15 }) refl refl

  -- once the sum is printed, before the halt
  abbrev printed : State
  printed =
      record
      (task limit run 4
      (words (number 3) (number 3) (number 3) (number 1) word.Nil word.Nil word.Nil word.Nil
      word.Nil)
      word.Nil [] (beat 25))
      { at = 1; output = signed_decimal (pos 3) ++ 10 ∷ [] }

  pub owes_sum : Bound code heartbeat false 0 (first_state [] limit) (prints_sum 3)
  unfolding steps sum_of
  owes_sum =
      owes_before code heartbeat 6 false _ (before 0 0 word.Nil 6) _ refl
      (owes_before code heartbeat 3 false _ _ _ first_round
      (owes.goes false 0 0 _ _ _ (omega arith) one
      (owes_before code heartbeat 1 false _ (before 1 0 (number 1) 11) _ refl
      (owes_before code heartbeat 3 false _ _ _ second_round
      (owes.goes false 0 0 _ _ _ (omega arith) two
      (owes_before code heartbeat 1 false _ (before 2 1 (number 1) 16) _ refl
      (owes_before code heartbeat 3 false _ _ _ last_round
      (owes_before code heartbeat 6 false _ printed _ refl
      (owes.ends _ _ refl)))))))))

  pub enters_none : Pointless code heartbeat (first_state [] limit)
  unfolding steps no_points
  enters_none =
      pointless_steps code heartbeat 6 _ (before 0 0 word.Nil 6) refl refl
      (pointless_steps code heartbeat 3 _ (behind 1 0 6 true) first_round refl
      (pointless_before code heartbeat _ _ one refl
      (pointless_steps code heartbeat 1 _ (before 1 0 (number 1) 11) refl refl
      (pointless_steps code heartbeat 3 _ (behind 2 1 11 true) second_round refl
      (pointless_before code heartbeat _ _ two refl
      (pointless_steps code heartbeat 1 _ (before 2 1 (number 1) 16) refl refl
      (pointless_steps code heartbeat 3 _ (behind 3 3 16 false) last_round refl
      (pointless_steps code heartbeat 6 _ printed refl refl
      (pointless_end code heartbeat printed (ending_of run 3) refl)))))))))
