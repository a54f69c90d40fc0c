pub mod Checked
pub mod Lines
