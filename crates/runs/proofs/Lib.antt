pub mod Opened
pub mod Acting
pub mod Asking
pub mod Calling
pub mod Rehearsing
pub mod Searches
pub mod Changing
