mod Laid
mod Rows
