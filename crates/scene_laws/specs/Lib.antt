-- Which code is the code of a statement, and what stands round it.

-- how many blocks the code of a program is counted with
pub mod Count
-- where the words of an activation stand
pub mod Layout
-- what stands round a statement
pub mod Round
-- which variables and tables are visible where
pub mod Names
-- which expressions have what is visible alone
pub mod Visible
-- which block stands at a label, and the instructions that stand in most blocks
pub mod Opening
-- the site of a `par`
pub mod Sites
-- the code of a `par` that can be cut, round its iterations
pub mod Marked
-- the code of a `par` in whose body promotion points may be reached
pub mod DeepMarked
-- the code of a leaf loop, round its iterations
pub mod LeafMarked
-- the instructions of a call
pub mod Calling
-- the code of two calls that can be cut
pub mod Pairs
-- the opposite of a comparison
pub mod Opposite
-- which code is the code of a statement
pub mod Code
-- how many blocks a statement adds, and how many variables it declares
pub mod Sizes
-- where no task is cut
pub mod Quiet
-- which programs there is code for
pub mod Built
-- which expressions are low enough for the registers
pub mod Heights
-- the tables of a code, those that are given, and what a task holds of them when it begins
pub mod Tables
