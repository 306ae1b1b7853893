-- The law of leaf loops, whose next number, end and accumulators stand in registers.

-- what goes on round an iteration of a leaf loop
pub mod LeafTurning
-- an iteration, what stands behind it, and the test of whether another one begins
pub mod LeafTurns
-- two tasks for which the same two instructions remain
pub mod SameRest
-- a beat at the promotion point: the registers are stored, and loaded where a task goes back
pub mod LeafHeads
-- a piece of the loop owes its iterations
pub mod LeafLoops
-- the law of the statement
pub mod LeafLaws
-- the law of the statement, where it stands among others
pub mod LeafStatements
