-- What is promised of assembling.

-- the names of blocks
pub mod Labels
-- the lines of a text
pub mod Lines
-- reading a line from its front, as the assembler does
pub mod Reading
-- what lines say, one after another
pub mod Drafts
-- the first fault of a text
pub mod Faults
-- the assembler's own words for drafts
pub mod Steps
