-- What both sides of a cut end with, together.

-- where a scene allows the writes that iterations note, it may meet the tables behind them as well
pub mod Meeting
-- what the task that goes on behind the merge of a cut `par` has on its stack
pub mod MergedStacks
-- the merge of two sides where the left has printed something
pub mod MergedOutputs
-- what the parts of a `par` that is cut may do with each table, against how the cut parts it: each
-- part holds what it may read
pub mod JoinsModes
-- what the parts of a `par` that was cut hold of one table, put together, is what the whole `par`
-- leaves in it
pub mod JoinsExtents
-- parts of tables that are put to those of their numbers
pub mod JoinsNumbers
-- the tables of a `par` that was cut, put together: what the rest, the left and the child hold is
-- what the whole `par` leaves
pub mod JoinsTables
-- what iterations of a `par` leave, and what those of both parts of one that is cut come to
pub mod JoinsRuns
-- what the sides of a `par` that is cut end with
pub mod JoinsSides
-- where iterations of a `par` that aren't begun are cut in two, from the state that a task shows
pub mod JoinsCuts
-- both sides of a `par` that is cut merge to what the whole of it comes to
pub mod Joins
