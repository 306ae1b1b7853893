use Rattle.std.proofs.Common.{length, ◌-◌, ◌≡◌, ◌≤◌, true, min, slice_range}
use Rattle.std.specs.List.{list_all}
use Rattle.std.specs.Char.{is_ascii_digit}
use Rattle.table_text.specs.declared.word.TheConstants.{TOO_GREAT}
use Rattle.table_text.specs.Token.{run_value}
use Rattle.table_text.proofs.word.run_at.Given as goal

abbrev pub invariant-loop-at : goal.invariant-loop-at
invariant-loop-at l =
    (l.from ≤ l.at) × (l.at ≤ length l.text)
    × (list_all is_ascii_digit (slice_range l.text l.from l.at) ≡ true)
    × (l.value ≡ min (run_value (slice_range l.text l.from l.at)) TOO_GREAT)

abbrev pub decreases-loop-at : goal.decreases-loop-at
decreases-loop-at l = length l.text - l.at
