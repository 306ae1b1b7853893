pub mod Bytes  -- the bytes of the alphabet
pub mod Lexical  -- the tokens of a whole text, or its first fault
