-- Lines by number: Interning, Numbering. Files in the half: Records, Tables, Drops; what they want: Loads. What is laid out: Writes. All moved:
-- Moves, Moving. Changes: Places, Changing, Closing.
pub mod Interning
pub mod Numbering
pub mod Records
pub mod Tables
pub mod Loads
pub mod Drops
pub mod Writes
pub mod Moves
pub mod Moving
pub mod Places
pub mod Changing
pub mod Closing
