-- The faults by which code that meets the rules may be stuck.
use Rattle.tpal_machine.specs.declared.faults.Fault.{Fault}
use Rattle.tpal_machine.specs.declared.faults.Fault.TheVariants as fault

-- a division by zero, a cell of a table that isn't held, and a table that may not be made
abbrev pub IsAllowed : Fault → Type 0
IsAllowed fault.NotInt = ⊥
IsAllowed fault.DivZero = Unit {0}
IsAllowed fault.OutOfRange = ⊥
IsAllowed fault.TooLong = ⊥
IsAllowed fault.MarkedCell = ⊥
IsAllowed fault.MarkOrder = ⊥
IsAllowed fault.NoMark = ⊥
IsAllowed fault.Pending = ⊥
IsAllowed fault.BadTarget = ⊥
IsAllowed fault.NotRec = ⊥
IsAllowed fault.WrongRecord = ⊥
IsAllowed fault.NoBeat = ⊥
IsAllowed fault.NotHeld = Unit {0}
IsAllowed fault.Made = Unit {0}
IsAllowed fault.NotLabel = ⊥
IsAllowed fault.NotRoot = ⊥
