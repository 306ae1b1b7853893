-- ---- what is promised

-- Names: which declaration a name stands for, and what a loop does with it
pub mod Names
-- Declarations: the tables and the variables that are declared, in order
pub mod Declarations
-- Targets: the targets of the `leave` statements of a `par`, in order
pub mod Targets
-- Sites: each place of a program that a rule speaks of, with what is round it
pub mod Sites
-- Scopes: names and calls (C1), variables of loops (C10)
pub mod Scopes
-- Limits: heights and counts (C11)
pub mod Limits
-- Keeps: what functions (C7) and the `par` loops of main (C9) may not do
pub mod Keeps
-- Reductions: variables that a `par` body may not set (C2), and reduced ones (C3)
pub mod Reductions
-- Carries: writes (C4), reads (C5) and carry lists (C6)
pub mod Carries
-- Reading: calls to functions that read a carried table (C8)
pub mod Reading
-- Leaves: how a `par` may be left (C12)
pub mod Leaves
-- Rules: their numbers
pub mod Rules
-- Broken: where a program breaks a rule
pub mod Broken
-- Unbroken: programs that break no rule that `resolve` looks at
pub mod Unbroken
-- Resolving: what `resolve` answers
pub mod Resolving
-- ---- inside: how the walk finds the first broken rule

-- Search: the first broken rule of those that are asked for; loop_check asks for others
pub mod Search
-- Walk: how the walk's state stands for a spot
pub mod Walk
-- Index: a table of names and their places
pub mod Index
