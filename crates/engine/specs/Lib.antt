-- What a reader must believe: Engine, Theorems and Says. Machine is for proofs of private code.
pub mod Engine
pub mod Says
pub mod Theorems
pub mod Machine
