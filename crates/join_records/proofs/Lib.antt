-- functions changed at one number, hands, look-ups in short lists, and sums over views
pub mod Functions
-- what stays of the rule when one record, one view and some ends change
pub mod Frame
-- a new table, a seat that is opened or split, loads, and a record that is taken
pub mod Seats
-- two seats that become one
pub mod Joining
-- a record that is opened
pub mod Opening
-- a child that is claimed
pub mod Claiming
-- what stays when one side's end changes hands
pub mod Turning
-- a side that arrives
pub mod Arriving
-- a record that is freed, and the finish
pub mod Freeing
-- what the calls make of what the steps tell
pub mod Calls
-- the passes of a new table
pub mod NewPasses
-- what a caller knows of its hand after a call
pub mod Callers
