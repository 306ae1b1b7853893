-- Why a program has no code.
use Rattle.std.specs.Prelude.{◌≡◌, ◌-◌, ◌^◌, ◌<◌, min}
use Rattle.loop_syntax.specs.declared.program.Program.{Program}
use Rattle.tp_value.specs.declared.limits.TheConstants.{MAX_BLOCKS}
use Rattle.scene_laws.specs.Count.{blocks_of_program}
use Rattle.block_lower.specs.declared.fault.LowerFault.{LowerFault}
use Rattle.block_lower.specs.declared.fault.LowerFault.TheVariants.{Blocks, NoMemory}

-- The program may have more blocks than a code can have: so many, or the greatest number of 64 bits
-- where that is less. Want of memory has no cause.
abbrev pub IsCause : Program → LowerFault → Type 0
IsCause program (Blocks n) =
    (n ≡ min (blocks_of_program program) (2 ^ 64 - 1)) × (MAX_BLOCKS < blocks_of_program program)
IsCause program NoMemory = Unit {0}
