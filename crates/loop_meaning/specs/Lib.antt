-- ---- what is promised

-- State: variables, tables, output and ticks; how a run ends, and its notes
pub mod State
-- Expressions: the value of an expression, or its trap
pub mod Expressions
-- Leaving: the end of a `par` of which an iteration is left
pub mod Leaving
-- Statements: what a statement does, and those of a block in order
pub mod Statements
-- Calls: functions, their arguments and the depth of calls
pub mod Calls
-- Meaning: the run of a whole program over given tables
pub mod Meaning
-- Answers: the text and the status that an outcome owes
pub mod Answers
-- Cells: the cells that the iterations of a `par` touch
pub mod Cells
-- Frames: a `par` or a `both` that is partly done
pub mod Frames
-- WholeFrames: when a frame is the whole of its `par` or `both`
pub mod WholeFrames
-- InRange: numbers in the range of 64 bits, in states and in programs
pub mod InRange
-- Told: what the notes of a run tell, and what is before a run that it doesn't depend on
pub mod Told
-- Only: what statements may do beyond their variables
pub mod Only
-- ---- inside: the evaluator

-- Ends: what the evaluator holds and answers
pub mod Ends
