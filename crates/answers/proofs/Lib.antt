pub mod Lines
pub mod Inspections
pub mod Stepped
pub mod Reviewed
pub mod Going
