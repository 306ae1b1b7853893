-- What is promised of codes that were written by hand.

-- what is known of a word, of a task's end and of its mark
pub mod Kinds
-- what is known of a task at a place
pub mod Shapes
-- flat codes: one activation, one mark
pub mod Flat
-- handlers whose labels fit into kinds
pub mod Fitting
-- the rules of an instruction
pub mod Rules
-- one walk over a block
pub mod Walk
-- assignments, rounds, and the least assignment
pub mod Rounds
-- the shapes of all blocks within a round
pub mod Board
-- a walk that stands somewhere in a block
pub mod Walking
-- one join that stands for all
pub mod Agreement
-- rounds in which only due blocks are walked
pub mod Rounding
-- the first rule that a code breaks; accepted codes
pub mod Breaks
-- what is answered of a code
pub mod Verdict
-- codes by which the definitions were tried
pub mod Sample
-- walks that go well
pub mod Well
-- when a task fits what is known at its place
pub mod Fits
-- the faults by which code that meets the rules may be stuck
pub mod Safe
-- what a run by one worker comes to
pub mod Exec
