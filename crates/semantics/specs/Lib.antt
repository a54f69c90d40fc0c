pub mod Names
pub mod Check
pub mod Answers
pub mod Walk
pub mod Promise
pub mod Read
pub mod Theorems
pub mod Numbers
