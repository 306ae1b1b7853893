-- A program that breaks no rule fits.

-- what holds of expressions, arguments and calls where no rule is broken
pub mod UnbrokenExpressions
-- where statements stand in a program: what is visible behind a statement
pub mod UnbrokenSpots
-- what stands round a statement where no rule is broken: each fixed variable is that of a loop, or
-- the nearest `par` doesn't let its body set it
pub mod UnbrokenRounds
-- a `par` can be cut where no rule is broken
pub mod UnbrokenCuts
-- the expressions of statements are low enough where no rule is broken
pub mod UnbrokenLow
-- statements fit where no rule is broken
pub mod UnbrokenStatements
-- the names of tables and functions differ where no rule is broken
pub mod UnbrokenNames
-- what the code of a program asks of it holds where it breaks no rule
pub mod Unbroken
