-- What is promised of beats, of fuel and of joined stops.
pub mod BeatState  -- what a beat holds
pub mod Heartbeat  -- counting, entering a promotion-ready block, using the grant
pub mod Counting  -- many instructions counted at once
pub mod FuelState  -- what a fuel holds
pub mod Ticks  -- a tick against the limit
pub mod Joining  -- the stop and the ticks of two halves
