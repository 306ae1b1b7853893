-- the law of all statements, of functions and of a program, and what the rules give for it
pub mod Whole
-- a program that breaks no rule fits
pub mod Rules
