pub mod Openings
pub mod Alone
pub mod Seen
pub mod Changes
pub mod Rehearsing
