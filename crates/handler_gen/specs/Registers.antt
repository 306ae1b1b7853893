-- The registers behind those of values, which the blocks round a cut use.
use Rattle.std.specs.Prelude.{ℕ}

-- the record of a cut, or of a side that ends
abbrev pub record_register : ℕ
record_register = 24

-- the place of a cut
abbrev pub middle_register : ℕ
middle_register = 25

-- the right side's record, where both sides have met
abbrev pub other_record : ℕ
other_record = 25

-- the next iteration that isn't begun
abbrev pub next_register : ℕ
next_register = 26

-- the next iteration of a leaf loop: while one runs, its number
abbrev pub leaf_cursor : ℕ
leaf_cursor = 24

-- the end of a leaf loop
abbrev pub leaf_bound : ℕ
leaf_bound = 25

-- the first accumulator of a leaf loop, and how many it may have
abbrev pub leaf_first_acc : ℕ
leaf_first_acc = 26

abbrev pub leaf_accs : ℕ
leaf_accs = 4

-- a test
abbrev pub test_register : ℕ
test_register = 27

-- the position of the activation that is cut
abbrev pub cut_register : ℕ
cut_register = 28

-- the label of the handler of the oldest mark
abbrev pub split_register : ℕ
split_register = 29

-- the label of the block that a beat interrupted
abbrev pub back_register : ℕ
back_register = 30
