-- A text and its lines: Joined. Lists of files: Puts. Facts of each number: Lists. The index: Hash, Chains, Words, Still, Blank. Parts of a row:
-- Parts. Records: Recording; their places in a table: Places. Lines by number: Numbering. A text written
-- out: Writing.
pub mod Joined
pub mod Puts
pub mod Lists
pub mod Hash
pub mod Chains
pub mod Words
pub mod Still
pub mod Parts
pub mod Recording
pub mod Places
pub mod Writing
pub mod Numbering
pub mod Blank
