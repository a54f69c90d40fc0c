pub mod Grammar
pub mod Code
pub mod Machine
pub mod Theorems
