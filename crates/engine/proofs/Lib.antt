-- Towards the theorems: Basics, Worth, Settled, Steps, Brings, Told, Promises. The machine: Means, Measure, Alike, Frames, Invariant, Future,
-- Sizes, Stacks, Longest, Room, Loops, Logs, Marks. Examples.
pub mod Basics
pub mod Worth
pub mod Settled
pub mod Steps
pub mod Brings
pub mod Told
pub mod Promises
pub mod Means
pub mod Measure
pub mod Alike
pub mod Frames
pub mod Invariant
pub mod Future
pub mod Sizes
pub mod Stacks
pub mod Longest
pub mod Room
pub mod Loops
pub mod Logs
pub mod Marks
pub mod Examples
