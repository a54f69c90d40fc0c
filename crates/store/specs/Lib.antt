-- Files over lines by number: Files. An edit of one: Edits. Moving all files to a fresh row: Reclaim.
pub mod Files
pub mod Edits
pub mod Reclaim
