-- Tests of the parts of a code: names, registers, labels, tables, numbers, operands, instructions,
-- ends.
use Rattle.std.specs.Prelude.{ℕ, Bool, true, false, ◌&&◌, ◌||◌, List, [], ◌∷◌, nat_lt, nat_le, ◌==◌}
use Rattle.std.specs.Prelude.{ℤ, pos, negsuc}
use Rattle.std.specs.List.{list_all}
use Rattle.tp_value.specs.declared.values.Place.{Place}
use Rattle.tpal_syntax.specs.declared.instructions.Value.{Value}
use Rattle.tpal_syntax.specs.declared.instructions.Value.TheVariants.{Reg, Int, Label, Nil}
use Rattle.tpal_syntax.specs.declared.instructions.Instr.{Instr}
use Rattle.tpal_syntax.specs.declared.instructions.Instr.TheVariants.{Move, Calc, IfJump, Load}
use Rattle.tpal_syntax.specs.declared.instructions.Instr.TheVariants.{Store, Salloc, Sfree, PrmPush}
use Rattle.tpal_syntax.specs.declared.instructions.Instr.TheVariants.{PrmPop, PrmDrop, PrmEmpty}
use Rattle.tpal_syntax.specs.declared.instructions.Instr.TheVariants.{PrmSplit, JrAlloc, Fork}
use Rattle.tpal_syntax.specs.declared.instructions.Instr.TheVariants.{Fetch, Put, Rows, Cols, Make}
use Rattle.tpal_syntax.specs.declared.instructions.Instr.TheVariants.{Tick, Trap, Print, Emit}
use Rattle.tpal_syntax.specs.declared.instructions.Term.{Term}
use Rattle.tpal_syntax.specs.declared.instructions.Term.TheVariants.{Jump, Halt, Join, Leave}
use Rattle.tpal_syntax.specs.declared.notes.CarryAt.{CarryAt}
use Rattle.tpal_syntax.specs.declared.notes.CarryAt.TheVariants as carry

-- a letter or `_`
abbrev pub is_letter : ℕ → Bool
is_letter b = (nat_le 65 b && nat_le b 90) || (nat_le 97 b && nat_le b 122) || (b == 95)

-- a letter, a digit or `_`
abbrev pub is_word_byte : ℕ → Bool
is_word_byte b = is_letter b || (nat_le 48 b && nat_le b 57)

-- a letter or `_`, followed by letters, digits and `_`
abbrev pub is_word : List ℕ → Bool
is_word [] = false
is_word (b ∷ bs) = is_letter b && list_all is_word_byte bs

abbrev pub is_register : ℕ → Bool
is_register r = nat_lt r 32

-- an offset in an activation
abbrev pub is_offset : ℕ → Bool
is_offset n = nat_le n 511

-- a number of cells
abbrev pub is_size : ℕ → Bool
is_size n = nat_le n 512

-- a line or a column
abbrev pub is_place_number : ℕ → Bool
is_place_number n = nat_le 1 n && nat_le n 4294967295

abbrev pub is_place : Place → Bool
is_place p = is_place_number p.line && is_place_number p.col

-- a number of 64 bits
abbrev pub is_number : ℤ → Bool
is_number (pos n) = nat_lt n 9223372036854775808
is_number (negsuc n) = nat_lt n 9223372036854775808

-- an operand, where labels are below this number of blocks
abbrev pub is_value : ℕ → Value → Bool
is_value blocks (Reg r) = is_register r
is_value blocks (Int z) = is_number z
is_value blocks (Label l) = nat_lt l blocks
is_value blocks Nil = true

-- an instruction, where tables are below the first number and labels below the second
abbrev pub is_instr : ℕ → ℕ → Instr → Bool
is_instr tables blocks (Move to value) = is_register to && is_value blocks value
is_instr tables blocks (Calc to left alu right) =
    is_register to && is_register left && is_value blocks right
is_instr tables blocks (IfJump test label) = is_register test && nat_lt label blocks
is_instr tables blocks (Load to base off) = is_register to && is_register base && is_offset off
is_instr tables blocks (Store base off value) =
    is_register base && is_offset off && is_value blocks value
is_instr tables blocks (Salloc n) = is_size n
is_instr tables blocks (Sfree n) = is_size n
is_instr tables blocks (PrmPush base off cells split) =
    is_register base && is_offset off && is_size cells && nat_lt split blocks
is_instr tables blocks (PrmPop base off) = is_register base && is_offset off
is_instr tables blocks PrmDrop = true
is_instr tables blocks (PrmEmpty r) = is_register r
is_instr tables blocks (PrmSplit base split) = is_register base && is_register split
is_instr tables blocks (JrAlloc to target) = is_register to && nat_lt target blocks
is_instr tables blocks (Fork rec child) = is_register rec && nat_lt child blocks
is_instr tables blocks (Fetch to table row col) =
    is_register to && nat_lt table tables && is_register row && is_register col
is_instr tables blocks (Put table row col value) =
    nat_lt table tables && is_register row && is_register col && is_register value
is_instr tables blocks (Rows to table) = is_register to && nat_lt table tables
is_instr tables blocks (Cols to table) = is_register to && nat_lt table tables
is_instr tables blocks (Make table rows cols place) =
    nat_lt table tables && is_register rows && is_register cols && is_place place
is_instr tables blocks Tick = true
is_instr tables blocks (Trap kind place) = is_place place
is_instr tables blocks (Print r) = is_register r
is_instr tables blocks (Emit table) = nat_lt table tables

-- the end of a block, where labels are below this number
abbrev pub is_term : ℕ → Term → Bool
is_term blocks (Jump value) = is_value blocks value
is_term blocks Halt = true
is_term blocks (Join r) = is_register r
is_term blocks (Leave rec value) = is_register rec && is_register value

-- an item of a carry list, where tables are below this number
abbrev pub is_carry : ℕ → CarryAt → Bool
is_carry tables (carry.Rows table at) = nat_lt table tables && is_register at
is_carry tables (carry.Cells table row at) =
    nat_lt table tables && is_register row && is_register at

-- the table of an item
abbrev pub table_of : CarryAt → ℕ
table_of (carry.Rows table at) = table
table_of (carry.Cells table row at) = table
