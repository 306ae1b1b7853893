-- What is promised of join records.
-- the ends of tasks as numbers
pub mod Ends
-- the words of records
pub mod Words
-- what a pass knows, and how it changes
pub mod Views
-- the rule that holds between any two steps
pub mod Rule
-- what each kind of step tells the seat that steps
pub mod Steps
-- an ending that alone meets a fact
pub mod Owed
-- what became of a table
pub mod Closing
-- the passes of a table
pub mod Passes
-- what the calls ask and answer
pub mod Answers
-- where a pass is between two calls, for passes at whose ends 0 is owed
pub mod Seated
