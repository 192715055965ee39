pub mod Within
pub mod Pairs
pub mod Skipping
pub mod Views
pub mod Slips
pub mod Steps
