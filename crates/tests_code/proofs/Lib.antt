-- what programs are given in tests are tables, and their codes owe their meanings over them
pub mod GivenTables
