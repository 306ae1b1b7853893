mod Bends  -- variables that are changed by name, and variables that a run keeps
pub mod Tables  -- tables that agree on some of their cells
pub mod Following  -- runs with more ticks before them, and how two parts of a run are joined
mod Owning  -- the cells that a mode gives at some values of the variables
mod Values  -- expressions of a body have one answer in an upper part and in the whole
mod Moving  -- runs that do the same from a state of an upper part and from that of the whole
mod Moves  -- statements of a body do the same in an upper part and in the whole
mod MovingCalls  -- so do the calls in it
pub mod Guarding  -- runs that touch only the cells that are theirs
mod Guards  -- statements of a body and functions that it calls touch only the cells that are theirs
mod Ranges  -- the iterations of a range that is cut
mod Begins  -- where the upper part begins
mod Merging  -- lists of accumulators, merged place by place
mod Numbers  -- numbers stay in the range of 64 bits in the iterations of a `par`
pub mod Joining  -- the law of a loop that is cut
mod Leaving  -- what the lower iterations leave, the upper ones may begin with
pub mod Framing  -- a range of a `par` that is cut, as frames
pub mod Frames  -- the law of a range that is cut, over frames
pub mod Pairs  -- a pair of calls that is cut
mod Closing  -- the parts of a frame that fits its source fit it too
pub mod Worked  -- worked loops and calls that may be cut
mod RulesNames  -- what the rules on names and clauses say of the variables round a `par`
mod RulesModes  -- what the rules on tables say of the modes in the body of a `par`
mod RulesWalk  -- what is asked of a body follows at each site from what stands there
mod RulesVariables  -- what the rules on variables say inside a `par` and in its functions
mod RulesTables  -- what the rules on tables and output say inside a `par` and in its functions
pub mod RulesLawful  -- each `par` of a program that breaks no rule may be cut in two
