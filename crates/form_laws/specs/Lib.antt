-- Which code is the code of what statements stand in.

-- which code is the code of a function, and of the declarations of tables
pub mod Functions
