-- Lemmas that several proofs share, or that are inductions.
pub mod Digits
pub mod Filling
pub mod Cuts
pub mod Passes
pub mod Words
