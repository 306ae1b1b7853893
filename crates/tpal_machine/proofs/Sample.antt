-- What a code written by hand owes, by the lemma of each of its instructions.
use Rattle.std.proofs.Common.{ℕ, true, false, [], ◌∷◌, refl}
use Rattle.std.specs.Fmt.{digits}
use Rattle.std.specs.Int.{int_wrap}
use Rattle.std.specs.Prelude.{pos}
use Rattle.tpal_syntax.specs.declared.instructions.Alu.TheVariants.{Add}
use Rattle.tpal_syntax.specs.declared.instructions.Value.TheVariants as value
use Rattle.tpal_syntax.specs.declared.words.Word.TheVariants as word
use Rattle.tpal_machine.specs.Effect as effect
use Rattle.tpal_machine.specs.Owes.{Bound}
use Rattle.tpal_machine.specs.Owes as owes
use Rattle.tpal_machine.specs.Reading.{with_register}
use Rattle.tpal_machine.specs.Sample.{two_and_three, prints_five}
use Rattle.tpal_machine.specs.State.{State, first_state}
use Rattle.tpal_machine.specs.Step.{advanced}
use Rattle.tpal_machine.proofs.Kit.{owing, on_move, on_calc, on_print, halts}

module _ (heartbeat limit : ℕ) where
  abbrev with_two : State
  with_two = effect.move 0 (value.Int (pos 2)) (advanced (first_state [] limit))

  abbrev with_five : State
  with_five = with_register (advanced with_two) 0 (word.Int (pos 5))

  abbrev with_line : State
  with_line = effect.with_output (advanced with_five) (53 ∷ 10 ∷ [])

  pub sum_owes : Bound two_and_three heartbeat false 0 (first_state [] limit) prints_five
  unfolding int_wrap digits
  sum_owes =
      on_move two_and_three heartbeat (owing two_and_three heartbeat false 0 prints_five) (first_state [] limit) 0 (value.Int (pos 2)) (record { block = _; found = refl; is = refl })
      (on_calc two_and_three heartbeat (owing two_and_three heartbeat false 0 prints_five) with_two 0 0 Add (value.Int (pos 3)) (word.Int (pos 5)) (record { block = _; found = refl; is = refl }) refl
      (on_print two_and_three heartbeat (owing two_and_three heartbeat false 0 prints_five) with_five 0 (pos 5) (record { block = _; found = refl; is = refl }) refl
      (owes.ends with_line prints_five (halts two_and_three heartbeat with_line (record { block = _; found = refl; none = refl; is = refl }) refl refl true))))
