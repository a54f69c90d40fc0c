-- One word written: Words. The small rules' questions go down: Falling. The row that they are tried in: Desks.
pub mod Words
pub mod Falling
pub mod Desks
