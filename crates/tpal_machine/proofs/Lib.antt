-- lists
pub mod Lists
-- words that are no numbers
pub mod NoNumbers
-- vectors in which an element is written over by itself
pub mod Vectors
-- held tables that are equal
pub mod Holdings
-- what is known of the blocks of a code
pub mod CodeBlocks
-- instructions of a code fit a task
pub mod Fits
-- positions beyond a stack, and marks
pub mod Stacks
-- what the stack's refusals are as faults
pub mod Refusals
-- rows and lines of a table
pub mod Lines
-- sizes of tables that are made
pub mod Sizes
-- the parts of held tables
pub mod Parting
-- what a side hands over
pub mod Handing
-- the merge of two sides
pub mod Merging
-- one step, by the instruction or the end of the block
pub mod Steps
-- one step of a turn at a time
pub mod Turns
-- what a step gives belongs to the code
pub mod Belonging
-- what a turn, an answer, a first task and a merge give belongs to the code
pub mod Given
-- what a task is bound to
pub mod Owing
-- what a task owes, and what it owes within a number of steps
pub mod Within
-- steps that are diverted or not, and what a task owes where none is
pub mod Undiverted
-- one lemma for each instruction, over any predicate that goes backwards
pub mod Kit
-- a code written by hand, and what it owes
pub mod Sample
-- what takes memory
pub mod Memory
-- what a step, a turn, an answer and a merge keep
pub mod Keeping
-- what a task owes after a step and after a turn
pub mod Owed
-- ops, and runs over those of a code
pub mod OpLaws
