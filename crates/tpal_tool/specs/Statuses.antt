-- The numbers of statuses.
use Rattle.std.specs.Prelude.{ℕ}
use Rattle.tpal_tool.specs.declared.status.Status.{Status}
use Rattle.tpal_tool.specs.declared.status.Status.TheVariants.{Done, Trap, OutOfFuel, Refused}
use Rattle.tpal_tool.specs.declared.status.Status.TheVariants.{NoMemory, ReadFault, WriteFault}
use Rattle.tpal_tool.specs.declared.status.Status.TheVariants.{BadWords}

-- the number with which the process ends
abbrev pub number_of : Status → ℕ
number_of Done = 0
number_of Trap = 1
number_of OutOfFuel = 2
number_of Refused = 3
number_of NoMemory = 4
number_of ReadFault = 5
number_of WriteFault = 6
number_of BadWords = 7
