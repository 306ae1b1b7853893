pub mod Indexing  -- the table of first places
pub mod Searching  -- going over sites one after the other
pub mod Walking  -- the walk over statements: sites in order, and where it stands after them
pub mod Apart  -- which `par` loops are round plays no part in these rules; how many does
pub mod Declaring  -- the variables that statements declare
pub mod Faults  -- the first of many faults, whichever rules are asked for
pub mod First  -- what the search for a broken rule on names and limits comes to
pub mod Wholes  -- going over declarations one after the other
pub mod TreeRules  -- the first broken rule of a tree: the rules by trees alone
pub mod TreeNodes  -- the tree of each statement, with rows of statements inside
pub mod TreeParts  -- the first broken rule of expressions and declarations is that of their trees
pub mod TreeStatements  -- so is that of statements
pub mod TreePrograms  -- and that of whole programs
pub mod Firsts  -- a program has one first broken rule, which its tree alone decides
