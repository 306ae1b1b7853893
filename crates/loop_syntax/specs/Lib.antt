pub mod Tree  -- trees without where they lie in memory, and the tree of a value
pub mod Naming  -- carried tables, functions and operators by their names
