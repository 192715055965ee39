pub mod Fitting
pub mod Passes
pub mod Drawing
