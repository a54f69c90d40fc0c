-- Words written into a row, and what stands in it then: Words. The keys asked and the row of answers: Asked. The memo and the work area as parts of
-- the row: Lent. Turns against the machine: Turns, Looked, Calls, Hands, Tells, Rules, Returns, Moves. The loop: Decode, Rooms, Going. What a
-- caller is promised: Regions.
pub mod Words
pub mod Asked
pub mod Turns
pub mod Lent
pub mod Looked
pub mod Calls
pub mod Tells
pub mod Hands
pub mod Rules
pub mod Returns
pub mod Decode
pub mod Moves
pub mod Rooms
pub mod Going
pub mod Regions
