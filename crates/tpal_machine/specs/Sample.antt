-- A small code written by hand.
use Rattle.std.specs.Prelude.{[], ◌∷◌, pos}
use Rattle.tp_value.specs.declared.values.Stop.TheVariants.{Done}
use Rattle.tpal_syntax.specs.declared.instructions.Alu.TheVariants.{Add}
use Rattle.tpal_syntax.specs.declared.instructions.Instr.TheVariants.{Move, Calc, Print}
use Rattle.tpal_syntax.specs.declared.instructions.Term.TheVariants.{Halt}
use Rattle.tpal_syntax.specs.declared.instructions.Value.TheVariants.{Int}
use Rattle.tpal_syntax.specs.declared.notes.Note.TheVariants.{Plain}
use Rattle.tpal_syntax.specs.Listing.{Listing}
use Rattle.tpal_machine.specs.declared.ends.Ending.{Ending}
use Rattle.tpal_machine.specs.declared.ends.Ending.TheVariants.{Root}

-- main: r0 := 2, r0 := r0 add 3, print r0, halt
abbrev pub two_and_three : Listing
two_and_three = record {
  tables = [];
  blocks = record {
    name = 109 ∷ 97 ∷ 105 ∷ 110 ∷ [];
    note = Plain;
    body = Move 0 (Int (pos 2)) ∷ Calc 0 0 Add (Int (pos 3)) ∷ Print 0 ∷ [];
    term = Halt;
  } ∷ [];
}

-- the end of a run that printed 5 and a line feed, and counted no tick
abbrev pub prints_five : Ending
prints_five = Root (record { stop = Done; output = 53 ∷ 10 ∷ []; ticks = 0 })
