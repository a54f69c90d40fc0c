pub mod Taken
pub mod Coded
pub mod Progress
pub mod Listing
pub mod Whole
pub mod Views
