-- how the chain of marks is kept
pub mod Chains
-- following the links, and what each link names
pub mod Following
-- how a change of one link changes the marks and their chain
pub mod Linking
-- lists of marks whose positions rise
pub mod Rising
-- cells that are moved down, and where a cut's left begins
pub mod Moving
