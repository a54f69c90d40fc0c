-- Names looked up in a symbol table (Resolve), and when that is right (Agreement).
pub mod Resolve
pub mod Agreement
