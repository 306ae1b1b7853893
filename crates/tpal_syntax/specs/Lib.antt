-- What is promised of codes.

-- words, registers and the other parts of a code, each with its range
pub mod Parts
-- the conditions that every code meets
pub mod Conditions
-- what the ops of a code stand for
pub mod Ops
-- what contracts see of a code
pub mod Listing
-- the one text of a code
pub mod Text
-- readers of the parts of such a text, from its front
pub mod Readers
