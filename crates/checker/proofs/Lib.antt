pub mod Words
pub mod States
pub mod Ahead
pub mod Asks
pub mod Loop
pub mod Whole
pub mod Events
