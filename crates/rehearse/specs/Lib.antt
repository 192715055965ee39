-- What the contracts cite: what a line of calls says, and what a link holds.
pub mod Calls
pub mod Holding
