-- What is promised of the code of a sum.

-- the code, and what it prints
pub mod Sum
-- the same code with one fault each
pub mod Wrong
