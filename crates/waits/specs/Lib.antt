pub mod Counting
pub mod Events
pub mod Walks
