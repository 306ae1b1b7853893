mod Tags  -- the numbers of words and signs
mod Chains  -- how far a chain of operators has been read
mod Many  -- how far items have been read one after another
mod Steps  -- one reading in terms of another
mod Windows  -- what the window of an outermost expression says of the whole
mod Machine  -- a machine that goes over the tokens
mod Exact  -- readings of expressions are sound and exact
mod Complete  -- what is in the grammar of expressions is read
mod Shift  -- an expression is one whatever follows it
mod Local  -- what is read of a front is read of all
mod Continue  -- each stack of the machine can be completed
mod Outer  -- an outermost expression is read, or is too long
mod Limits  -- what is in the grammar of expressions is read, or is too long
mod Items  -- items, and what is read of them
mod Sound  -- readings of lists and of statements without blocks are sound and exact
mod SoundBlocks  -- readings of blocks, declarations and programs are sound and exact
mod Answering  -- readings one after another answer as they should
mod Answers  -- names, parameters and reduce lists are read, or are too deep
mod AnswersBlocks  -- statements, declarations and programs are read, or are too deep
mod Suffixes  -- what is left of a list of tokens
mod Bases  -- lists and machines at their beginnings
mod Top  -- what a whole list of tokens is
mod Texts  -- what a whole text is
