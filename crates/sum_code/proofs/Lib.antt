-- sums of numbers that follow one another, and numbers of 64 bits
pub mod Sums
-- several steps at once, and the entry of a promotion-ready block
pub mod Walking
-- the tasks of the code
pub mod Tasks
-- what a part owes at its end, and two sides together
pub mod Sides
-- one iteration of the loop
pub mod Rounds
-- what each of them owes
pub mod Summing
-- the listings are codes
pub mod Codes
-- what a task that is bound comes to
pub mod Ahead
-- the code whose child keeps the left's sum owes nothing
pub mod KeptSum
-- the code with no mark enters no promotion point
pub mod Unmarked
