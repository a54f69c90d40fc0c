-- What the words of the work area stand for: Rows, Doing, Turns. The loop over turns: Bringing. What functions promise: Says.
pub mod Rows
pub mod Says
pub mod Doing
pub mod Turns
pub mod Bringing
