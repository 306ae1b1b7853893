-- Numbers of blocks, and how few there are.

-- what holds of all elements of two lists, one behind the other
pub mod Lists
-- the blocks of statements, as a row and as a list
pub mod Counting
-- the number of blocks that a program is counted with, by its tree alone
pub mod TreeBlocks
-- the program of a text is counted with at most 64 blocks for each of its bytes
pub mod FewBlocks
-- the sizes of statements, as a row and as a list; and how few values are kept
pub mod Adding
-- the blocks of a code stand in it
pub mod Wholes
-- the statements of a vector are quiet as its row is
pub mod QuietRows
