pub mod Standing
pub mod Passing
pub mod Numbered
