-- the cells of a table as a finite map from places to numbers
pub mod Cells
-- what a held table is seen as, and what each call makes of it
pub mod Holding
-- the spans that one value holds
pub mod Pieces
-- cells kept in stretches that follow one another row by row
pub mod Spans
-- the pieces of one value, owned or shared
pub mod Stored
-- how the kept spans stand for the finite map
pub mod View
