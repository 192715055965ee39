pub mod Rows
pub mod Order
pub mod Rounds
pub mod Bests
