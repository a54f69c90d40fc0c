-- What was said of a line, read from words (Said); faults gathered for an answer (Gathered); the smallest expression around a place
-- (Smallest); the link at a place (Linking); numbers given for an answer (Giving).
pub mod Said
pub mod Gathered
pub mod Smallest
pub mod Linking
pub mod Giving
