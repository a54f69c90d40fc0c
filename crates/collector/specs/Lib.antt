-- Words written (Rows), declarations and lists as they stand in the table (Entries), what the functions say (Says), files and the whole
-- table (Collected).
pub mod Rows
pub mod Entries
pub mod Says
pub mod Collected
