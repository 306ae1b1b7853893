-- The law of a `par` in which no promotion point is reached.

-- the law of `par`: a loop, behind a test of its length
pub mod Pars
-- the scene of an iteration of a `par` that is cut between two iterations alone
pub mod Turning
-- an iteration of a `par` that is cut between two iterations alone
pub mod Turned
-- the end of a piece of a `par`: behind the whole loop, or that of a side
pub mod QuietEnds
-- the test between two iterations of a `par`: another one begins at its promotion point
pub mod QuietTests
-- a task that was diverted between two iterations of a `par` goes back to the next one, and a
-- handler of what goes on round the loop may cut that instead
pub mod QuietBacks
-- the iterations of a `par` that is cut between two of them alone: each piece owes what it gives,
-- by induction on how many iterations are left
pub mod QuietLoops
-- the begin of a `par` that is cut between two iterations alone
pub mod QuietPars
-- the ticks and the numbers of iterations of a `par`
pub mod QuietRuns
-- the sides of a cut between two iterations of a `par`: each shows the iterations that it has
pub mod QuietSides
-- behind a cut between two iterations of a `par` both sides merge to what the whole piece owes
pub mod QuietMerged
-- a `par` is cut between two iterations: where its own mark is the oldest, both parts owe their
-- ends, and what these merge to is what the whole piece owes
pub mod QuietCuts
-- the law of a `par` that is cut between two iterations alone: inside any scene that holds all
-- tables, where a task owes what follows, it owes what the `par` gives and what follows
pub mod QuietLaws
-- the law of the code of a quiet `par`, as the law of statements uses it
pub mod QuietStatements
