-- A text as its lines: Lines. The words that hold rows of bytes by number: Index; what is done with them: Interner. Records behind them:
-- Records; a table of their places: Places. Numbers for bytes and for
-- a text's lines: Numbers. A text written out: Written.
pub mod Lines
pub mod Index
pub mod Interner
pub mod Records
pub mod Places
pub mod Written
pub mod Numbers
