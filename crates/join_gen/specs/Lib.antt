-- What is promised of joins.

-- the blocks where sides end and where they are combined
pub mod Blocks
-- how the sides of a loop end and are combined
pub mod LoopJoins
-- how the sides of a pair of calls end and meet
pub mod CallJoins
