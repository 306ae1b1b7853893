-- The ends of tasks as numbers, as they stand in the words of records: 0 for Root, else 1 + 2 *
-- record for the left end and 2 + 2 * record for the right end.
use Rattle.std.specs.Prelude.{ℕ, ◌+◌, ◌*◌, ◌<◌}
use Rattle.tpal_machine.specs.declared.ends.End.{End}
use Rattle.tpal_machine.specs.declared.ends.End.TheVariants.{Root, At}
use Rattle.tpal_machine.specs.declared.ends.SideName.{SideName}
use Rattle.tpal_machine.specs.declared.ends.SideName.TheVariants.{Left, Right}

abbrev pub left_of : ℕ → ℕ
left_of k = 1 + 2 * k

abbrev pub right_of : ℕ → ℕ
right_of k = 2 + 2 * k

abbrev pub end_of : ℕ → SideName → ℕ
end_of k Left = left_of k
end_of k Right = right_of k

abbrev pub code_of : End → ℕ
code_of Root = 0
code_of (At k side) = end_of k side

-- Root, or an end of one of the first `count` records
abbrev pub IsEndOf : ℕ → End → Type 0
IsEndOf count Root = Unit {0}
IsEndOf count (At k side) = k < count
