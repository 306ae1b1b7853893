pub mod Runs  -- how the ends of runs compose
pub mod Caught  -- the end of a `par` of which an iteration is left
pub mod Found  -- what a search from the front finds
pub mod Wrap  -- quotients that are brought into 64 bits
pub mod Weights  -- a measure for the evaluator: calls that may still be opened, and depth
pub mod Calls  -- how calls end
pub mod Whole  -- the run of a whole program
pub mod Worked  -- worked programs, computed from the definitions
pub mod Spending  -- every run keeps within its fuel, and its output only grows
pub mod MoreFuel  -- a run that doesn't stop for want of fuel is the same with more fuel
pub mod Ticks  -- what counting a tick comes to
pub mod WholeFrames  -- a frame of the whole range of a `par`, and one of both calls of a `both`
pub mod Depth  -- what a call does at each depth
pub mod Ranges  -- numbers stay in the range of 64 bits
pub mod WrittenCells  -- the sizes of tables and the numbers in their cells, after a write
pub mod Seen  -- what notes in a row tell, and expressions over tables that are seen alike
pub mod Twins  -- two runs, over tables that are seen alike, one with more before it
pub mod TwinCalls  -- such runs of statements and of calls
pub mod Traces  -- what every run does to tables and output, from what one note tells
pub mod Telling  -- the notes tell all that a run does to tables
pub mod OnlyLeaves  -- what is never left
pub mod Blind  -- a call sees no variables of its caller, and leaves them
pub mod TreeMeanings  -- the run of a program, its meaning and its chances, by its tree alone
pub mod Parallels  -- the `par` loops of a `par`
