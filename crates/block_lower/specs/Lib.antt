-- What is promised of writing the code of programs.

-- how far a code that is being written has come, and what of it stands in a whole code
pub mod Writing
-- what the code of main's statements, or of a function's, stands on
pub mod Bodies
-- what is promised of writing the code of expressions and statements
pub mod Lowering
-- what is promised of writing the code of functions, of tables and of a program
pub mod Programs
-- what is written may stand in a code with so many tables and blocks
pub mod Conforming
-- why a program has no code
pub mod Refusing
