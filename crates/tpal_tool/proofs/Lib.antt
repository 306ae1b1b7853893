-- a text appended, or the first bytes of it, and then another
pub mod Appending
-- three texts that are written, one behind the other
pub mod ThreeTexts
-- a text that is written piece by piece
pub mod Pieces
-- how a call ends that runs a code
pub mod ExecEndings
-- how a call ends
pub mod Endings
-- what a call wrote that came to its end
pub mod Answered
-- the promises of the top call, from how it ends
pub mod Promised
-- what a call wrote that runs a code, and what is promised of that
pub mod ExecAnswered
pub mod ExecPromised
-- from a run that is prepared to what is owed
pub mod Finishing
-- why a part of a call is_fault, and why the whole does
pub mod CallFaults
-- the inputs that a program misses, by its tree alone
pub mod TreeInputs
-- the tables of a text have as many cells as they should, and numbers in range
pub mod GivenTables
-- tables that are taken out of the given ones, one by one
pub mod TakenTables
-- the declared tables, and those of the program's code
pub mod Declarations
-- the tables of a code, one by one
pub mod CodeDeclarations
-- what the first task of a run of a code holds is one list
pub mod HeldOnce
-- why a code text is refused, and lines that end with a position
pub mod CodeRefused
-- from a run of a code that is prepared to what is owed
pub mod ExecFinishing
-- a source text comes to one thing alone
pub mod Soles
-- numbers that digits spell
pub mod Spelling
-- a solo run is diverted at most so often as it may be
pub mod SoloBeats
