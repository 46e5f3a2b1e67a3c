-- What the program asks of runs, and what it prints.
pub mod Report
pub mod Output
