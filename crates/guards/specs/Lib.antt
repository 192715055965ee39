pub mod Circle
pub mod Levels
