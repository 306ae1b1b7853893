-- What is promised of the values that all crates share.
pub mod Number
