-- Files in the words: Records, Tables, Drops, Weights. A fresh row: Keeps.
pub mod Records
pub mod Tables
pub mod Drops
pub mod Weights
pub mod Keeps
