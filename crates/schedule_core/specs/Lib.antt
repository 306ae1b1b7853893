-- What is promised of the core of all interleavings.

-- what the core uses of a machine that runs one task
pub mod Machine
-- configurations of workers and records, and the events that change them
pub mod Core
-- which events are enabled
pub mod Enabled
-- sound configurations
pub mod Sound
-- lists of events, and their end
pub mod Run
-- the tasks of a code, as the core sees them
pub mod Tasks
-- how what a configuration holds stands for the workers and records of the core
pub mod Standing
-- what an event is asked of a configuration of a code, and what it gives
pub mod Apply
-- what each event makes of a configuration, by what its worker has
pub mod Effects
-- the solo run
pub mod Solo
-- the number of instructions after which a solo run is over
pub mod Steps
-- what the worker of a solo run owes
pub mod Lanes
-- a solo run as a list of events of the core
pub mod Sharing
-- the counts of a report
pub mod Counting
