mod Rows
mod Tokens
mod Ranges
mod Numbers
mod Steps
mod Soundness
mod Completeness
