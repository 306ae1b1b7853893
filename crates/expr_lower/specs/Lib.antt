-- What is promised of the code of expressions.

-- where the variables and tables of an expression stand
pub mod Scopes
-- the registers that it uses
pub mod Registers
-- the instructions and the trap blocks of an expression
pub mod Bodies
-- operators over two expressions
pub mod Nodes
-- where in a code instructions and blocks stand
pub mod Standing
-- how a task holds variables and tables
pub mod Holding
-- what the code of an expression comes to
pub mod Leaving
-- the conditions of a code, and what they ask of an expression
pub mod Fitting
