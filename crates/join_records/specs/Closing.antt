-- What became of a table.
use Rattle.std.specs.Prelude.{ℕ, Bool}

-- how many records were opened, and whether the finish was made
pub record Tally : Type 0 where
  pub opens : ℕ
  pub finished : Bool
