pub mod Found
pub mod Inline
