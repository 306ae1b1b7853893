-- The law of a `both`.

-- a diverted task whose oldest mark is that of a pair of calls owes an ending, where it owes it
-- when it goes back and where both parts of the cut end as sides that merge to it
pub mod PairCuts
-- what the parts of a pair of calls that is cut have on their stacks
pub mod PairStacks
-- the scene of the first function of a pair of calls: in front of its caller, whose mark stands, or
-- as the left of a cut, which has nothing of its caller
pub mod PairScenes
-- a call whose arguments are kept, and for which a level is left: it needs no test
pub mod PairSeconds
-- the child of a pair of calls that is cut makes the second call, and ends with its value
pub mod PairChildren
-- the child of a pair of calls owes the end of the second call
pub mod PairChildRuns
-- what follows the first call of a pair gives, by how both calls stop together
pub mod PairResults
-- a pair of calls in a scene, with what follows it, and a task of its first function that was
-- diverted where the pair's mark is the oldest
pub mod PairPlaces
-- what both calls of a pair come to that is cut, together with what follows them
pub mod PairBoth
-- the task that both sides of a pair of calls merge to owes what the whole task does
pub mod PairJoined
-- the first function of a pair of calls is cut where the pair's mark is the oldest: the left keeps
-- the first call, the child makes the second, and what both merge to goes on behind the pair
pub mod PairOwn
-- behind the first function of a pair of calls: where no part was cut off the second call is made,
-- and the left of a cut ends
pub mod PairReturns
-- the result of the first function, where it begins, is that of the first call of a pair
pub mod PairFirsts
-- a task at the block that enters the first function of a pair of calls: it owes what the function
-- gives, in each world, and so it does where a beat diverts it
pub mod PairEntered
-- the begin of the first call of a pair, from the tick's end up to its test: its levels and its
-- label to return to stand in its activation, and the mark stands
pub mod PairTests
-- the begin of the first call of a pair: its tick, its levels and its label to return to, the mark,
-- and the block that enters the function
pub mod PairBegins
-- the law of the code of two calls that can be cut, as the law of statements uses it
pub mod PairStatements
-- behind the join of a pair of calls all is as it is where the second call returns
pub mod PairMeets
