-- What is promised of the pool.
-- the terms of a run
pub mod Terms
-- what is known of what lies in the records of a run
pub mod Facts
-- the rule of the workers' deques
pub mod Deques
-- numbers in deques
pub mod Numbers
-- what a look for a number came to
pub mod Found
-- whose deques a worker can steal from
pub mod Tied
-- what a worker has between two turns
pub mod Has
-- what is said of what a turn came to
pub mod Stepped
-- what the workers of a run come to together
pub mod Together
