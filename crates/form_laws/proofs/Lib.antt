-- lists of marks, and one whose mark goes
pub mod Marks
-- a jump into a promotion-ready block, on a test or without one, and a task that goes back to one
pub mod Entering
-- what the law of statements asks of what stands round them and in them
pub mod Premises
-- the laws of the forms of statements that are not cut
pub mod Forms
-- the law of a `both`
pub mod CallPairs
