-- Lemmas of this crate.
pub mod Distinct
-- ops
pub mod OpLaws
