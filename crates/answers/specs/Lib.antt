-- Lines one behind the other (Lined), what the functions promise (Says), and a file's lines gone over for its faults (Reviews).
pub mod Lined
pub mod Says
pub mod Reviews
