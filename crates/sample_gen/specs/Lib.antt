-- What is promised of samples.
pub mod Cells  -- the cells that follow from a seed
pub mod Texts  -- the tables text of a sample, and its source
