pub mod Partial
pub mod Slots
