pub mod Says
pub mod Replies
pub mod Runs
