-- The laws of the forms of statements that are not cut.

-- the laws of statements without blocks
pub mod Simple
-- the law of opposites of comparisons
pub mod Opposites
-- branches, and the law of `if`
pub mod Choices
-- ticks inside a scene, and the law of `while`
pub mod Ticks
-- the scene of a loop's body: its variable and its bound are kept
pub mod LoopScenes
-- the turns of a loop: the test, the next number, and the body
pub mod LoopTurns
-- the laws of `loop`
pub mod Loops
-- the instructions that change a table, print one or make one, over any predicate that goes
-- backwards
pub mod TableSteps
-- the laws of a write to a cell of a table
pub mod Puts
-- the law of `fold`
pub mod Folds
-- the law of `emit`: the lines of a table that is wholly held are those of its numbers
pub mod Emits
-- the making of tables: a task that makes them owes what the meaning of the declarations gives
pub mod Makes
-- the law of the code of arguments, which leaves the numbers of expressions in cells
pub mod Arguments
-- an activation with more cells on top, and what is owed by the functions of a code
pub mod Callees
-- the scene of a function that is called: how it is entered, and how its caller goes on behind it
pub mod Calls
-- the law of a call: from the tick on, where the arguments stand in the new activation
pub mod CallLaws
-- the law of a call as a statement, and parts of it that two calls share
pub mod CallStatements
