pub mod Lines
pub mod Listing
pub mod Listed
pub mod Drawn
