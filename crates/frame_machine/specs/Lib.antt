-- Fitting: when a frame fits the source that it is a part of
pub mod Fitting
-- Splitting: cutting a range or a frame in two, and merging accumulators
pub mod Splitting
-- Modes: what the body of a `par` may do with each table
pub mod Modes
-- Bodies: what the statements of such a body keep to
pub mod Bodies
-- Lawful: when a `par` may be cut in two
pub mod Lawful
-- Parts: the cells of the two parts of a loop that is cut
pub mod Parts
-- Joins: when a run is its lower part and its upper part, merged
pub mod Joins
-- Iterating: the iterations of a `par`, in the middle of a run
pub mod Iterating
-- FrameLaws: a frame and the two parts that it is cut into
pub mod FrameLaws
-- AllLawful: programs whose `par` loops may all be cut
pub mod AllLawful
