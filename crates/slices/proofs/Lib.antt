-- what a list counted from a start holds at a position
pub mod Slots
-- what boxes hold at a position
pub mod Places
-- where a span begins
pub mod Starts
-- what several spans hold at a position
pub mod SpanLists
-- finite maps of cells
pub mod Maps
-- where cells are after a cut
pub mod Cuts
-- one flat span
pub mod Flats
-- cells that are all here below a position
pub mod Sound
-- spans cut at a position, one after another
pub mod Splits
-- what a store is seen as, and tests of positions against rows and columns
pub mod Seen
-- what is cut out and appended again
pub mod JoinLaws
