-- instructions counted one at a time and many at once
pub mod Counts
