-- what joins make of a task, going backwards
mod Coming
-- the loads of accumulators
mod Loads
-- the registers of a task that two sides merge to
mod Filled
-- accumulators combined
mod Combining
-- the join of a loop
pub mod LoopJoining
-- the join of a pair of calls
pub mod CallJoining
-- the blocks meet the conditions of a code
mod Fits
