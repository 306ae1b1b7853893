-- What goes on round a statement, what its task shows and what it owes.

-- stacks with an activation more on top, and without it again
pub mod Activations
-- the variables of a state in the cells of an activation
pub mod Variables
-- the tables of a state, by name, wholly held by a task or read by an expression
pub mod Tables
-- which cells of tables a task holds
pub mod Regions
-- how a run ends, as far as a task tells it, and what follows it
pub mod Results
-- what a call means, as far as a task tells it: a tick, then a trap or the body of the function,
-- whose value is that of its result
pub mod Called
-- what a task is bound to end with, for each world round a statement and each result of it
pub mod Promises
-- a stack as it is shown where registers stand for some of its cells
pub mod Registered
-- what a task owes at a place of a code, inside whatever goes on round it
pub mod Scene
-- steps of a task over any predicate that goes backwards: into a block, to a trap, past a tick
pub mod Moves
-- what a task shows, after its registers, its stack, its ticks or its output changed
pub mod Showing
-- the code of expressions and operands inside a scene
pub mod Values
-- tables that differ from others in some of their cells alone
pub mod Changing
-- cells of a table, and of what is held of it
pub mod Cells
-- the pieces of a `par` that is cut, and what the task of each owes: the whole of it in a world,
-- and the sides of cuts
pub mod Pieces
-- the variables round a `par` that it doesn't reduce, whose cells keep their numbers while it runs
pub mod Fixed
-- a promise where more is known of each result
pub mod Knowing
-- at which levels visible names stand
pub mod Levels
-- what a scope sees, told by the names alone
pub mod Seeing
