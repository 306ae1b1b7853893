-- What is promised of handlers.

-- the registers that a cut uses
pub mod Registers
-- the conditions on sites, and the labels of their blocks
pub mod Sites
-- the blocks of handlers, and the join targets of sites
pub mod Blocks
-- what a task comes to by steps that no beat can change
pub mod Reaching
-- what a handler makes of a task: it goes back, or is cut in two
pub mod Halves
-- what the block to which beats go does
pub mod Dispatching
-- how a loop is cut
pub mod LoopCuts
-- how a pair of calls is cut
pub mod CallCuts
-- the frame that an activation shows, and how it is cut
pub mod Frames
-- the sites of leaf loops, and the labels of their blocks
pub mod LeafSites
-- the blocks that store the registers of a leaf loop and load them again
pub mod LeafBlocks
-- what a leaf loop's handler does with its registers
pub mod LeafCuts
-- the conditions of a code on the blocks of a site
pub mod Fitting
