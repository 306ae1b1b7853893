-- The law of all statements, of functions and of a program, and what the rules give for it.

-- a `par` that occurs in statements is among their bodies, and its numbers are in range as theirs
-- are: so what the rules say of the bodies of a program is said of each `par` that occurs
pub mod Found
-- the law of the code of statements: inside any scene, where a task that shows a state behind it
-- owes what follows, a task that shows a state before it owes what the statements give and what
-- follows
pub mod Law
-- the functions of a code owe what their bodies and their results give, however many levels of
-- calls are left
pub mod Functions
-- the first task of a code that is the code of a program is bound to its meaning, whatever is
-- diverted
pub mod Root
-- what a code owes that owes a program's meaning, for those who don't count promotion points
pub mod Owed
-- a code that is the code of a program owes its meaning
pub mod Owes
