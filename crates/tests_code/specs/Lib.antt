-- What is promised of the runs of codes in tests.

-- how a run of a program must end
pub mod Owed
