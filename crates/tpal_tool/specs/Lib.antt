-- What is promised of the outside of the program.
-- where texts come from: told texts, faults that rise, look-ups by name
pub mod Shelf
-- where bytes go: what a write appends
pub mod Sink
-- the inputs of a program, and the tables that a tables text gives
pub mod Inputs
-- the words of a call: what they ask for
pub mod Words
-- what contracts see of the words that were read
pub mod Asking
-- the lines of refusals, and that of a run's counts
pub mod Lines
-- what a source text comes to: a program, or a refusal
pub mod Verdict
-- the inputs of a code, and what its first task holds
pub mod CodeInputs
-- the lines of a code that is refused, and of a run of one that isn't over
pub mod ExecLines
-- what a code text comes to: a code, or a refusal
pub mod CodeVerdict
-- what a call owes that runs a code
pub mod ExecOwed
-- the texts that a command is about: those of a shelf, or the sample's
pub mod Told
-- what a call owes, and how it ends
pub mod Owed
-- what the top call promises: why it ends without what it owes, and which answer comes where
pub mod Promises
-- what the top call promises of a run of a code
pub mod ExecPromises
-- what a source text parses as
pub mod Parsing
-- what the parts of a call answer: texts, a status, or a fault
pub mod Answering
-- what a call comes to before anything runs
pub mod Preparing
-- what a run comes to
pub mod Running
-- the numbers of statuses
pub mod Statuses
