-- The symbol table in words (Table), when it is that of texts (Tabled), and the row in which both lie (Rows).
pub mod Table
pub mod Tabled
pub mod Rows
