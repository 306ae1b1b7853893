-- The law of a `par` that may be cut in the middle of an iteration.

-- a `par` that may be cut in the middle of an iteration, where it stands, with what goes on round
-- it; and the scene between two of its iterations
pub mod DeepScenes
-- the scene of a running iteration of a `par` that may be cut in the middle of it: the iterations
-- that aren't begun may be cut off wherever a task stands inside it
pub mod DeepRunning
-- the sides of a `par` that is cut in the middle of an iteration, or between two: what is known
-- where it is cut, and what the child shows
pub mod DeepSides
-- tables that are held of some tables are held of others that agree with these where they are held
pub mod DeepRests
-- behind a cut of a `par` in the middle of an iteration, or between two, both sides merge to what
-- the whole piece owes
pub mod DeepMerged
-- a `par` is cut in the middle of an iteration, or between two: a diverted task whose oldest mark
-- is the loop's owes what the piece does, where it owes it when it goes back and the left of the
-- cut ends as a side
pub mod DeepCuts
-- a handler in the middle of an iteration of a `par`: what goes on round the loop is cut, or the
-- loop's own iterations that aren't begun are
pub mod DeepHandles
-- the end of a piece of a `par` that may be cut in the middle of an iteration: the whole goes on, a
-- side joins
pub mod DeepEnds
-- the begin of an iteration of a `par` that may be cut in the middle of it: the cursor goes on, and
-- the mark goes before the last iteration
pub mod DeepHeads
-- from the begin of an iteration of a `par` that may be cut in the middle of it a task comes to the
-- turn, or to the end where none is left
pub mod DeepTests
-- a turn of a `par` that may be cut in the middle of an iteration: its tick and its body, in the
-- scene of a running iteration; behind it the task is at the head again
pub mod DeepTurns
-- the promotion point of a `par` that may be cut in the middle of an iteration: what a task owes
-- that jumps to it, by what it owes behind it and where it is diverted
pub mod DeepPoints
-- a task that was diverted between two iterations of a `par` that may be cut in the middle of one:
-- what goes on round the loop is cut, or the iterations that aren't begun, and it goes back
pub mod DeepBacks
-- the iterations of a `par` that may be cut in the middle of one: each piece owes what it gives, by
-- induction on how many iterations are left
pub mod DeepLoops
-- the begin of a `par` that may be cut in the middle of an iteration
pub mod DeepBegins
-- the law of a `par` that may be cut in the middle of an iteration: inside any open scene that
-- serves it, where a task owes what follows, it owes what the `par` gives and what follows
pub mod DeepLaws
-- what is held of the tables in a running iteration of a `par` that may be cut in the middle of it
-- serves what stands in its body
pub mod DeepServed
-- the law of the code of a `par` that may be cut in the middle of an iteration, as the law of
-- statements uses it
pub mod DeepStatements
