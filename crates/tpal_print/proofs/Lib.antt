-- Lemmas of this crate: each code is read back from its text.

-- whole texts read from their front, and labels that are given anew
pub mod Reading
-- numbers, words, registers, operands
pub mod Pieces
-- instructions and ends
pub mod Lines
-- renamings and carries
pub mod Notes
-- notes and blocks
pub mod Whole
-- whole texts, and that no two codes have one
pub mod Unique
