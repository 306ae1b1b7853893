-- when a call of a stack is refused
pub mod Causes
-- what a stack is seen as, and what each call makes of it
pub mod Stacks
-- inside: what the links of the cells are seen as
pub mod Links
-- inside: how the links of the cells stand for the list of marks
pub mod Linked
-- inside: how the kept cells and links stand for the lists
pub mod View
-- inside: what is copied where a stack is cut
pub mod Cuts
