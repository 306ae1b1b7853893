use Rattle.std.proofs.Common.{length, ◌-◌, ◌≡◌, ◌≤◌, true, slice_range}
use Rattle.std.specs.List.{list_all}
use Rattle.table_text.specs.Token.{is_token_byte}
use Rattle.table_text.proofs.word.skip_word.Given as goal

abbrev pub invariant-loop-at : goal.invariant-loop-at
invariant-loop-at l =
    (l.from ≤ l.at) × (l.at ≤ length l.text) × (list_all is_token_byte (slice_range l.text l.from l.at) ≡ true)

abbrev pub decreases-loop-at : goal.decreases-loop-at
decreases-loop-at l = length l.text - l.at
