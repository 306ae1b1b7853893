pub mod Lists  -- what holds of the elements of a list, and what a list contains
pub mod Bools  -- what tests say, and which of two numbers is the lesser
pub mod Found  -- names, and variables that stay where they are
pub mod Leaving  -- what a `par` sets where it is left is one of its targets
pub mod Keeps  -- what a run touches, which variables it leaves, and that it prints nothing
pub mod Calls  -- a call touches no more than what its function reads
pub mod Walk  -- what holds at every site of a statement
pub mod Fine  -- what it means at each site that no rule is broken
pub mod Shapes  -- each cell of a carried table has the shape of its `par`
pub mod Inner  -- each site inside a `par` keeps within that par's part of each table
pub mod Bodies  -- each `par` has what follows from the sites of its clauses and its body
pub mod Law  -- the iterations of a `par` touch no cell that another one writes
pub mod Parts  -- each iteration keeps within its part of each carried table
pub mod Spared  -- an iteration touches no table that another `par` reserves, and prints nothing
pub mod Backwards  -- going over the clauses of a `par`, with what stood before
pub mod Targeting  -- the targets of `leave` statements, gathered and gone over
pub mod Apart  -- the rules look at variables and at the `par` loops round, and at nothing else
pub mod Walking  -- the walk over statements: where it stands after loops, and what it found
pub mod Using  -- what a function does is the same anywhere
pub mod Reading  -- the functions that read a table, found from those that read it themselves
pub mod First  -- what the search for a broken rule of disjoint writes comes to
pub mod Wholes  -- outside all loops no rule is broken but in bodies
pub mod Carried  -- what `par` loops carry is declared
pub mod Verdict  -- what a search comes to
pub mod TreeSites  -- the sites of a tree, as far as these rules look at them
pub mod TreeWalk  -- the sites of a program are those of its tree
pub mod TreeBroken  -- the rules of disjoint writes by trees alone
pub mod TreeReads  -- which functions read which tables, by trees alone
pub mod Firsts  -- a program has one first broken rule, which its tree alone decides
