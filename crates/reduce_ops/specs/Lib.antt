-- What is promised of reductions.
pub mod Reduction  -- combining two numbers by an operator, and its unit
-- combining is associative, the unit is neutral on both sides, numbers of 64 bits stay so
pub mod Laws
mod Affine  -- the laws of composing maps
mod Products  -- the laws of signed products
