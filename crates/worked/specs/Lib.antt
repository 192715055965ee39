pub mod Answered
pub mod Examples
