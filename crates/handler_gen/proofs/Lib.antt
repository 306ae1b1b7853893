-- what a task reaches
pub mod Reaching
-- one lemma for each instruction on marks and records
pub mod Marks
-- words of a stack after one of them is set
pub mod Words
-- instructions one after another
pub mod Straight
-- the registers that handlers use
mod Scratch
-- cells of the parts of a stack
pub mod Cells
-- what a handler makes of a task, going backwards
mod Coming
-- asking for a record, and going back without
mod Asking
-- the place of a cut
mod Middles
-- where tables are cut
mod Places
-- the cells of a right site
pub mod Offsets
-- the child of a loop
mod LoopChildren
-- the handler of a loop
pub mod LoopCutting
-- the handler of a pair of calls
pub mod CallCutting
-- the block of `dispatch`
pub mod Dispatched
-- words in the cells of the parts of a cut
pub mod CutCells
-- a loop is cut as its frame is
pub mod FramesCut
-- the registers of a leaf loop, into their cells
pub mod LeafStores
-- and back
pub mod LeafLoads
-- frames in the registers of a leaf loop
mod LeafFrames
-- the handler of a leaf loop
pub mod LeafCutting
-- the blocks meet the conditions of a code
pub mod Fits
-- entering a promotion-ready block
pub mod Ready
