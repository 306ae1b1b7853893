-- cells of a scope, where variables become visible and leave
pub mod Laying
-- variables that stand in registers, where others become visible
pub mod Standing
-- the variables of a leaf loop stand in its registers
pub mod Held
-- where what was written at the end stands in a code, what was written before goes on there
pub mod Writing
-- statements that fit, as a row, as a list and one after another
pub mod Fitting
-- the code of each statement is written where that of its parts is
pub mod Lowered
-- the code of a `loop` is written where that of its parts is
pub mod LoweredLoops
-- the code of a quiet `par` is written where that of its parts is
pub mod LoweredPars
-- the code of a leaf loop is written where that of its parts is
pub mod LoweredLeaves
-- the code of a `par` that may be cut in the middle of an iteration is written where that of its
-- parts is
pub mod LoweredDeep
-- the rows that the carries of a `par` name are loaded one behind the other
pub mod LoweredRows
-- what is written next fits where what stands round it does
pub mod FittingNow
-- the site of a `par` that can be cut is a right one
pub mod Sited
-- the code of statements on tables, and of `fold`, is written where that of its parts is
pub mod LoweredTables
-- the code of calls is written where that of its parts is
pub mod LoweredCalls
-- the code of two calls is written where that of its parts is
pub mod LoweredPairs
-- what a scope sees after variables become visible and leave
pub mod Keeping
-- the code of functions is written where that of their statements and results is
pub mod WrittenFunctions
-- the code that makes tables is written where that of their sizes is
pub mod WrittenTables
-- the code of a program is written where that of its parts is
pub mod WrittenPrograms
-- the code of a program has no more blocks than it is counted with, and its activations are not too
-- large
pub mod Planning
-- the literals of statements that have a code are numbers of 64 bits
pub mod Ranges
-- facts of lists of statements that loops and calls over them need
pub mod Stepping
-- each step of writing keeps what is written proper
pub mod Conforming
-- the blocks that are made from a site may stand in the code that is written
pub mod Placed
-- blocks that are named for their labels have names that differ
pub mod Naming
