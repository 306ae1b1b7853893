-- ---- what is promised

pub mod Spelling  -- how words and signs are spelled
pub mod Terms  -- tokens as the grammar sees them
pub mod Expressions  -- the grammar of expressions
pub mod Grammar  -- the grammar of programs
pub mod Text  -- what a whole text is: its tree or its first fault
-- ---- inside: how the parser reads

pub mod Reading  -- what the parser reads, as functions on lists of tokens
pub mod Heads  -- the trees of values that only the parser has
pub mod Parsing  -- what ends the reading of a program
