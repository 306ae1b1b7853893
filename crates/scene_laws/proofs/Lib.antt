-- numbers of blocks, and how few there are
pub mod Counts
-- what goes on round a statement, what its task shows and what it owes
pub mod Scenes
-- a task whose oldest mark is cut, and what its parts have and hold
pub mod Cuts
-- what both sides of a cut end with, together
pub mod Merges
-- two calls side by side that are cut, and what their tasks owe
pub mod Pairs
