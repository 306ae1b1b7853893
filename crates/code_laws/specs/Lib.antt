-- Which code is the code of a program, and what that owes.

-- which code is the code of a program
pub mod Main
-- what the code of statements asks of them
pub mod Fitting
-- what the code of a program owes
pub mod Owing
