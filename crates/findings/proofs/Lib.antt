pub mod Events
pub mod Gathers
pub mod Closest
pub mod Reached
pub mod Puts
