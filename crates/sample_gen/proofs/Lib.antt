mod States
mod Rows
mod Fits
mod Worked
