mod Decimals  -- the number that digits write
mod Forms  -- which bytes begin what
mod Runs  -- the longest run of bytes
mod Pieces  -- what stands at the front of a text
pub mod Places  -- the place of a byte
mod Steps  -- how far a text has been read
pub mod Readings  -- a text reads as one thing alone
pub mod Spans  -- each token has the text of its span
