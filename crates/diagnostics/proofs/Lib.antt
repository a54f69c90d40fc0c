pub mod Lengths
pub mod Joins
