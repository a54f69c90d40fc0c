pub mod Tokens
pub mod Words
pub mod Kinds
pub mod Parts
pub mod Seen
pub mod Lines
pub mod Theorems
