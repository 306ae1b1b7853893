-- What is promised of the machine that runs one task.

-- what a task is between two instructions
pub mod State
-- what a rest keeps while the two sides of a fork run
pub mod RestState
-- what belongs to a code
pub mod Belongs
-- the results of calculations
pub mod Calculation
-- what an instruction reads and changes
pub mod Reading
-- what each instruction does, but for the fork
pub mod Effect
-- the parts of a fork
pub mod Cut
-- what a task ends with
pub mod Ended
-- one step of a task
pub mod Step
-- a turn of at most so many steps
pub mod Turn
-- the merge of two sides
pub mod Merge
-- how what a task holds stands for its state
pub mod Seen
-- instructions whose registers, tables and labels a task has
pub mod Fit
-- what the code answers for an effect, a step and a turn
pub mod Answer
-- what a step, a turn and a merge give belongs to the code
pub mod Belonging
-- what a task will end with, whatever is promoted
pub mod Owes
-- what a task will end with, whatever is promoted, told within a number of steps
pub mod Within
-- what a task will end with where no step is diverted
pub mod Serial
-- a small code written by hand
pub mod Sample
-- what a step, a turn and a merge keep of a task
pub mod Keeping
-- what a task owes after a step, and after a turn
pub mod Owed
-- what takes memory
pub mod Memory
-- the fast road: what ops do, and runs over those of a code
pub mod Ops
