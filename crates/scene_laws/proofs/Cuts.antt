-- A task whose oldest mark is cut, and what its parts have and hold.

-- what the parts of a fork hold of tables, what a side gives back of them, and what they are
-- together
pub mod Parts
-- the sides of a `par` that is cut: what each ends with, and what each holds of tables
pub mod Sides
-- what the handler of a `par` cuts of it, told by the values of the variables round the loop
pub mod OwnWork
-- before a cut the rows of the carries come into their registers
pub mod RowLoads
-- the cells of a loop's site differ from each other and from those of the variables round it
pub mod SiteCells
-- the variables of an activation where those that a loop reduces are set: to units, or to numbers
pub mod ReducedCells
-- what the parts of a cut `par` hold of tables
pub mod CutTables
-- how far one number is above another
pub mod Gaps
-- how many iterations each part of a cut has
pub mod CutGaps
-- a task that a beat interrupted wherever it was, where the oldest of its marks is that of a loop:
-- more marks, and more cells, may stand above those of the loop
pub mod OldestCuts
-- the variables round a loop in the cells of an activation, where those that it reduces have any
-- values: they are known, and set to units or to numbers all are
pub mod OldestVariables
-- a diverted task whose oldest mark is that of a `par` comes to its handler, with the rows of
-- carries in their registers
pub mod OldestPrepared
-- a diverted task at the handler of its oldest mark owes an ending, where it owes it when it goes
-- back and where both parts of the cut end as sides that merge to it
pub mod AtHandlers
-- a diverted task whose oldest mark is that of a `par` owes an ending, where it owes it when it
-- goes back and where both parts of the cut end as sides that merge to it
pub mod OldestOwed
-- what the parts of a cut have on their stacks, where more may stand above the activation of the
-- loop that is cut
pub mod OldestStacks
