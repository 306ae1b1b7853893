-- ---- what is promised

-- Unbroken: programs that break no rule
pub mod Unbroken
-- Parts: which cells of a carried table an iteration touches, and which variables it leaves
pub mod Parts
-- Spared: the tables that an iteration leaves alone, and what calls leave alone
pub mod Spared
-- Checking: what `check` answers
pub mod Checking
-- ---- inside: how the walk finds the first broken rule

-- Search: the rules of disjoint writes, as the search asks for them
pub mod Search
-- Walk: how the walk's state stands for a spot
pub mod Walk
-- Usage: what a function does itself
pub mod Usage
-- Readers: which functions read which tables
pub mod Readers
-- Whole: the search over functions
pub mod Whole
