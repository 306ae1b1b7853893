-- The words of records. Bit 0 is taken, bit 1 open, bit 2 claimed, bit 3 left arrived and bit 4
-- right arrived; from bit 8 on stands the code of the end that the rest keeps. Word 0 is the finish
-- word, and word 1 + k that of record k.
use Rattle.std.specs.Prelude.{◌≡◌, ℕ, ◌/◌, ◌%◌, Bool, true, false}
use Rattle.tpal_machine.specs.declared.ends.SideName.{SideName}
use Rattle.tpal_machine.specs.declared.ends.SideName.TheVariants.{Left, Right}

abbrev pub bit : Bool → ℕ
bit false = 0
bit true = 1

-- open, and not claimed: bits 0 and 1 are set, and bit 2 isn't
abbrev pub IsClaimable : ℕ → Type 0
IsClaimable word = word % 8 ≡ 3

-- the bit by which a side arrives
abbrev pub side_bit : SideName → ℕ
side_bit Left = 8
side_bit Right = 16

-- the other side's bit in a word
abbrev pub other_bit : ℕ → SideName → ℕ
other_bit word Left = word / 16 % 2
other_bit word Right = word / 8 % 2
