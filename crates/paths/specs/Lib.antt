pub mod Algebra
pub mod Closure
pub mod Models
pub mod Walks
