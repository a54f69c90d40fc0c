-- The words of the memo: Record, Log and Chain. What its functions promise: Says.
pub mod Record
pub mod Log
pub mod Chain
pub mod Says
pub mod Whether
pub mod Rows
