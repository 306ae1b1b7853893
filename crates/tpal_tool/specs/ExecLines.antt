-- The lines of a code that is refused, and of a run of one that isn't over.
use Rattle.std.specs.Prelude.{ℕ, List, [], ◌∷◌, ◌++◌, codes, option_map, unwrap_or}
use Rattle.std.specs.Fmt.{decimal}
use Rattle.tpal_syntax.specs.Listing.{Listing}
use Rattle.tpal_asm.specs.declared.fault.AsmFault.{AsmFault}
use Rattle.tpal_asm.specs.declared.fault.AsmFault.TheVariants.{Form, Label, Limit, NoMemory}
use Rattle.tpal_machine.specs.declared.faults.Fault.{Fault}
use Rattle.tpal_machine.specs.declared.faults.Fault.TheVariants as faults
use Rattle.tpal_machine.specs.Reading.{block_at}

-- a refusal with its code, at a line
abbrev pub line_at_line : List ℕ → ℕ → List ℕ
line_at_line code line = codes "refused " ++ code ++ codes " at line " ++ decimal line ++ 10 ∷ []

-- the first fault of a code text; want of memory has no line
abbrev pub assembly_line : AsmFault → List ℕ
assembly_line (Form line) = line_at_line (codes "E9") line
assembly_line (Label line) = line_at_line (codes "E10") line
assembly_line (Limit line) = line_at_line (codes "E11") line
assembly_line NoMemory = []

-- the name of a block
abbrev pub name_at : Listing → ℕ → List ℕ
name_at code block = unwrap_or (option_map (λ b. b.name) (block_at code block)) []

-- a code whose first break is of this rule, at this position of the block of that name
abbrev pub break_line : (name : List ℕ) (at rule : ℕ) → List ℕ
break_line name at rule =
    codes "refused E16 V" ++ decimal rule ++ codes " at " ++ name ++ codes ":" ++ decimal at
    ++ 10 ∷ []

-- a run that has executed all its instructions
abbrev pub spent_line : List ℕ
spent_line = codes "out of steps" ++ 10 ∷ []

-- the name of a fault
abbrev pub fault_name : Fault → List ℕ
fault_name faults.NotInt = codes "NotInt"
fault_name faults.DivZero = codes "DivZero"
fault_name faults.OutOfRange = codes "OutOfRange"
fault_name faults.TooLong = codes "TooLong"
fault_name faults.MarkedCell = codes "MarkedCell"
fault_name faults.MarkOrder = codes "MarkOrder"
fault_name faults.NoMark = codes "NoMark"
fault_name faults.Pending = codes "Pending"
fault_name faults.BadTarget = codes "BadTarget"
fault_name faults.NotRec = codes "NotRec"
fault_name faults.WrongRecord = codes "WrongRecord"
fault_name faults.NoBeat = codes "NoBeat"
fault_name faults.NotHeld = codes "NotHeld"
fault_name faults.Made = codes "Made"
fault_name faults.NotLabel = codes "NotLabel"
fault_name faults.NotRoot = codes "NotRoot"

-- a run that is stuck, at this position of the block of that name
abbrev pub stuck_line : Fault → (name : List ℕ) (at : ℕ) → List ℕ
stuck_line fault name at =
    codes "stuck " ++ fault_name fault ++ codes " at " ++ name ++ codes ":" ++ decimal at ++ 10 ∷ []
