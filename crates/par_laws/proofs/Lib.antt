-- the law of a `par` in which no promotion point is reached
pub mod QuietPars
-- the law of a leaf loop
pub mod LeafPars
-- the law of a `par` that may be cut in the middle of an iteration
pub mod DeepPars
