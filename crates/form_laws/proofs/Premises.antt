-- What the law of statements asks of what stands round them and in them.

-- what the `par` loops round statements allow
pub mod Around
-- which `par` loops occur in statements, with what is round them; and what is called there
pub mod Occurring
-- statements that have code, in which no run is left
pub mod Built
-- what the rules of a program say of its `par` loops, where these may be cut, and of its calls
pub mod Cutting
-- what the rules say of the `par` loops and of the calls in statements that keep to them
pub mod Keeps
-- what is held of the tables where statements stand: enough for each `par` among them that is cut
pub mod Serving
-- what the law of statements asks of a scene, in one record
pub mod Admitting
-- what the law of statements asks of a scene where a `par` may be cut
pub mod Permitting
