-- Parts of one row of words: Row. Lines by number in it: Interner. Files over them: Files, and what they want: Weights. What is laid out:
-- Copies. All moved: Reclaim. What a caller sees: Changes.
pub mod Row
pub mod Interner
pub mod Files
pub mod Weights
pub mod Copies
pub mod Reclaim
pub mod Changes
