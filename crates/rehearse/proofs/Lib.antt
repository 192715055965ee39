-- Lemmas that are inductions, or that several proofs share.
pub mod Counting
pub mod Lines
pub mod Taking
