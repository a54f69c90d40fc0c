-- Words at places: Places, Puts, Packs, Unpacks. The log: Folds, Chains, Along, Appends, Pops, Tests. What callers do: Gots, Rows, Slots. Repacking:
-- Order, Repacks.
pub mod Folds
pub mod Chains
pub mod Places
pub mod Puts
pub mod Packs
pub mod Appends
pub mod Pops
pub mod Gots
pub mod Tests
pub mod Order
pub mod Along
pub mod Unpacks
pub mod Repacks
pub mod Slots
pub mod Rows
