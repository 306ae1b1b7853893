-- Lemmas of this crate.

-- words
pub mod Words
-- places of names
pub mod Places
-- lines
pub mod Pieces
-- what is read stands there
pub mod Sound
-- instructions and ends, as they stand
pub mod Said
-- lists that are read item by item
pub mod Lists
-- notes, as they stand
pub mod NoteSaid
-- lines of a block that has begun
pub mod Inside
-- what is wrong with such a line
pub mod InsideFaults
-- labels that are looked up
pub mod Finding
-- from a draft inside a block to the next
pub mod InsideSteps
-- labels find the names of blocks
pub mod LabelsFind
-- each note of the grammar is read from its text
pub mod NoteComes
-- the first line of a block
pub mod HeaderLine
-- lines outside of blocks
pub mod Outside
-- from a draft outside of blocks to the next
pub mod HeaderSteps
-- what is wrong with the first line of a block
pub mod HeaderFaults
-- the line of a table
pub mod TableLine
-- from a draft before all blocks to the next
pub mod TableSteps
-- from a draft outside of blocks to the next
pub mod OutsideSteps
-- the note of a first line is as the grammar has it
pub mod HeaderForm
-- the names of the blocks of lines
pub mod Heads
-- lines that lead to whole blocks
pub mod Sofar
-- a name that is added
pub mod Adding
-- what the loops over the lines of a text keep
pub mod Loops
-- a line says one thing
pub mod Certain
-- a text has at most one first fault
pub mod OneFault
-- lines of codes have no ends of lines within
pub mod Clean
-- a code's text leads to the code
pub mod Complete
-- each line leads on, or something is wrong with it
pub mod EachLine
-- each text has a code or a first fault
pub mod EachText
