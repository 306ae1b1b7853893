-- The registers that the code of expressions uses.
use Rattle.std.specs.Prelude.{ℕ}

-- how many registers hold values, from 0 on
abbrev pub value_registers : ℕ
value_registers = 24

-- the last register in which a left operand may be: the right one's is the next, and the last of
-- those of values
abbrev pub last_left : ℕ
last_left = 22

-- the last register in which a variable may stand: those of values stand before the first one
abbrev pub last_variable : ℕ
last_variable = 29

-- the position of the activation that runs
abbrev pub base_register : ℕ
base_register = 31
