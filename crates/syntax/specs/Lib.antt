pub mod Wanted
pub mod Reads
pub mod Line
pub mod View
