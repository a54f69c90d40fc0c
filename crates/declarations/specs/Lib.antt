pub mod Declares
pub mod Theorems
