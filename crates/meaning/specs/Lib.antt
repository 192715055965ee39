pub mod Components
pub mod Costing
pub mod Promises
