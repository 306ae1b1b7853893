-- What is promised of tables texts.
pub mod RowText  -- a row of numbers as a line
pub mod Token  -- the tokens of a text, and what a name, a size and a number are
pub mod Wanted  -- what comes next in a tables text, and which token doesn't fit there
pub mod TablesText  -- the tables of a text, and the first fault of a text that has none
pub mod Reading  -- the reader's own words
