pub mod Edges
pub mod Tables
pub mod Checks
pub mod Groups
pub mod Backs
pub mod Marks
pub mod Costs
pub mod Planning
