mod Cuts
mod Values
mod Written
