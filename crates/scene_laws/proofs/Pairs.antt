-- Two calls side by side that are cut, and what their tasks owe.

-- two calls side by side: what the first one leaves, and how both sides merge to the whole
pub mod PairRuns
-- what the tasks of a pair of calls owe: that of the whole its world's ending, where the result is
-- that of the call, and a side its own end
pub mod PairPromises
