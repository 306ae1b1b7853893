-- functions with another value at a number, and sums over them
pub mod Puts
-- places in the list of open records
pub mod Places
-- counts that stay at their type's end
pub mod Paid
-- soundness as one record
pub mod View
-- what an event of one worker at one record leaves as it was
pub mod Frames
-- each event keeps what is known of a sound configuration
pub mod Keeps
-- the first configuration, every event, every list of events, and the end
pub mod Every
-- each record has one left and one right arrival between its opening and its freeing
pub mod Arrivals
-- what a change of what is kept is for the workers and records of the core
pub mod Stands
-- taking a record out of the list of open ones
pub mod Lists
-- a turn of one instruction is a step
pub mod Once
-- the least free record
pub mod Free
-- which events are enabled, by what is kept
pub mod Enabling
-- the beats of all workers
pub mod Beats
-- the tasks of a code meet the laws of the core
pub mod Instance
-- what an event gives belongs to the code
pub mod Belonging
-- what the code makes of a configuration is an event of the core
pub mod Events
-- what an event asks of a configuration, and what its answer says
pub mod Asked
-- the first configuration
pub mod Beginning
-- the laws of the core for the tasks of a code
pub mod Ruling
-- a solo run comes to its end
pub mod Finishing
-- a turn of a solo run
pub mod Turning
-- a solo run on its way
pub mod Soloing
-- one instruction of a solo run, and all that it leads to, as events of the core
pub mod Reaching
-- a solo run is a list of events of the core
pub mod Sharing
-- a solo run comes to one end
pub mod OneRun
-- one worker's list of events to an outcome is one
pub mod OneList
