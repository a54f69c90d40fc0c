pub mod Finds
pub mod Means
pub mod Loops
pub mod Fields
