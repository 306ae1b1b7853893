-- what a worker counts, from turn to turn
pub mod Counting
-- what a turn leaves of what a worker has
pub mod Turning
-- what a task has that asked, and one that forked
pub mod Forking
-- what a worker has whose task begins, or that has seen the finish made
pub mod Claiming
-- what a worker has after an arrival and a merge, and after the finish
pub mod Arrivals
-- what the workers have when they are made
pub mod Beginning
-- what workers that have ended come to together
pub mod Gathering
-- lists of workers and of passes
pub mod Lists
-- whose deques a source reaches, and a worker
pub mod Tying
