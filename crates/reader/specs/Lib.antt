-- What the contracts cite: lines, words, numbers, and the reading of a text.
pub mod Lines
pub mod Words
pub mod Numbers
pub mod Reading
