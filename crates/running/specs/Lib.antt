pub mod Rows
pub mod Entries
pub mod Runs
pub mod Rehearsals
pub mod Claims
pub mod Words
